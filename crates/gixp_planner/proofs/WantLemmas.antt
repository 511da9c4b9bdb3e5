-- What two negotiations decide and ask for whose mappings look alike.
use Rattle.std.proofs.Common.{◌≡◌, ℕ, Bool, false, not, ◌||◌, ◌&&◌, List, [], ◌∷◌, ◌++◌, map, codes, Option, Some, None, refl, sym, ap, ◌∙◌}
use Rattle.std.specs.Prelude.{if◌then◌else◌, is_some}
use Rattle.std.specs.List.{list_any}
use Rattle.std.specs.Option.{option_map}
use Rattle.std.specs.FinMap as finite
use Rattle.bstr.specs.Owned.{bstring_bytes}
use Rattle.bstr.specs.declared.bstring.BString.{BString}
use Rattle.gixp_hash.specs.declared.object_id.ObjectId.{ObjectId}
use Rattle.gixp_requests.specs.Arguments.{ArgumentsValue, can_use}
use Rattle.gixp_graph.specs.Object.{Objects}
use Rattle.gixp_refmap.specs.declared.refmap.mapping.Mapping.{Mapping}
use Rattle.gixp_shallow.specs.declared.shallow.Shallow.{Shallow}
use Rattle.gixp_shallow.specs.Shallow.{is_no_change, is_deepen_zero}
use Rattle.gixp_negotiate.specs.Negotiate.{ActionValue, no_change, skip}
use Rattle.gixp_negotiate.specs.NegotiationMapping.{mapping_id}
use Rattle.gixp_negotiate.specs.Marking.{LocalRefs, time_at, is_here, is_known, is_same, local_id, is_changed, any_changed, any_unknown, is_lone_unborn, has_none, early, chosen_action, decide, decision}
use Rattle.gixp_negotiate.specs.Wants.{RequestLine, wanted, tag_have, request_lines_of, request_lines}
use Rattle.gixp_planner.proofs.SeenLemmas.{Seen, seen, LookAlike}

-- what a negotiation goes by in its first two steps
pub record Basis : Type 0 where
  pub ignores : Mapping → Bool
  pub found : Objects
  pub existing : Objects
  pub refs : LocalRefs
  pub shallow : Shallow
  pub mappings : List Mapping

abbrev pub decided : Basis → ActionValue
decided b = decision b.ignores b.found b.existing b.refs b.shallow b.mappings

abbrev pub asked_for : Basis → ArgumentsValue → List Bool → List RequestLine
asked_for b a known = request_lines b.ignores b.existing (can_use (codes "ref-in-want") a) (is_no_change b.shallow) b.mappings known

-- the same objects and refs, and mappings that look alike, none of them ignored
pub record SameBasis (p q : Basis) : Type 0 where
  pub counts : (x : Mapping) → p.ignores x ≡ false
  pub counts_too : (x : Mapping) → q.ignores x ≡ false
  pub found : p.found ≡ q.found
  pub existing : p.existing ≡ q.existing
  pub refs : p.refs ≡ q.refs
  pub shallow : p.shallow ≡ q.shallow
  pub mappings : LookAlike p.mappings q.mappings

-- ---- lists of mappings that look alike

any-alike : (f g : Mapping → Bool) → ((x y : Mapping) → seen x ≡ seen y → f x ≡ g y) → (xs ys : List Mapping) → LookAlike xs ys
    → list_any f xs ≡ list_any g ys
any-alike f g h [] [] s = refl
any-alike f g h [] (y ∷ ys) s = absurd s
any-alike f g h (x ∷ xs) [] s = absurd s
any-alike f g h (x ∷ xs) (y ∷ ys) s = ap (λ b. b || list_any f xs) (h x y s.0) ∙ ap (λ b. g y || b) (any-alike f g h xs ys s.1)

map-alike : (f : Mapping → Bool) → ((x y : Mapping) → seen x ≡ seen y → f x ≡ f y) → (xs ys : List Mapping) → LookAlike xs ys
    → map f xs ≡ map f ys
map-alike f h [] [] s = refl
map-alike f h [] (y ∷ ys) s = absurd s
map-alike f h (x ∷ xs) [] s = absurd s
map-alike f h (x ∷ xs) (y ∷ ys) s = ap (λ b. b ∷ map f xs) (h x y s.0) ∙ ap (λ bs. f y ∷ bs) (map-alike f h xs ys s.1)

none-alike : (xs ys : List Mapping) → LookAlike xs ys → has_none xs ≡ has_none ys
none-alike [] [] s = refl
none-alike [] (y ∷ ys) s = absurd s
none-alike (x ∷ xs) [] s = absurd s
none-alike (x ∷ xs) (y ∷ ys) s = refl

lone-alike : (xs ys : List Mapping) → LookAlike xs ys → is_lone_unborn xs ≡ is_lone_unborn ys
lone-alike [] [] s = refl
lone-alike [] (y ∷ ys) s = absurd s
lone-alike (x ∷ xs) [] s = absurd s
lone-alike (x ∷ []) (y ∷ []) s = ap (λ (z : Seen). z.absent) s.0
lone-alike (x ∷ []) (y ∷ z ∷ ys) s = absurd s.1
lone-alike (x ∷ z ∷ xs) (y ∷ []) s = absurd s.1
lone-alike (x ∷ z ∷ xs) (y ∷ w ∷ ys) s = refl

-- ---- a decision

known-alike : (found existing : Objects) (x y : Mapping) → seen x ≡ seen y → is_known found existing x ≡ is_known found existing y
known-alike found existing x y e = ap (λ (s : Seen). is_here existing s.id (is_some (time_at found s.id))) e

abbrev local_by : LocalRefs → Option (List ℕ) → Option ObjectId
local_by refs None = None
local_by refs (Some name) = finite.get refs name

local-by : (refs : LocalRefs) (name : Option BString) → local_id refs name ≡ local_by refs (option_map bstring_bytes name)
local-by refs None = refl
local-by refs (Some name) = refl

changed-alike : (refs : LocalRefs) (x y : Mapping) → seen x ≡ seen y → is_changed refs x ≡ is_changed refs y
changed-alike refs x y e =
    ap (λ l. not (is_same (mapping_id x) l)) (local-by refs x.local)
    ∙ ap (λ (s : Seen). not (is_same s.id (local_by refs s.local))) e
    ∙ sym (ap (λ l. not (is_same (mapping_id y) l)) (local-by refs y.local))

-- where neither is ignored
counted : (b c t u : Bool) → b ≡ false → c ≡ false → t ≡ u → (not b && t) ≡ (not c && u)
counted b c t u e f g = ap (λ z. not z && t) (e ∙ sym f) ∙ ap (λ z. not c && z) g

abbrev early_by : Bool → Bool → Bool → Option ActionValue
early_by none zero lone = if none || zero then Some no_change else if lone then Some skip else None

early-alike : (shallow : Shallow) (xs ys : List Mapping) → LookAlike xs ys → early shallow xs ≡ early shallow ys
early-alike shallow xs ys s =
    ap (λ b. early_by b (is_deepen_zero shallow) (is_lone_unborn xs)) (none-alike xs ys s)
    ∙ ap (λ b. early_by (has_none ys) (is_deepen_zero shallow) b) (lone-alike xs ys s)

module _ (ignores others : Mapping → Bool) (counts : (x : Mapping) → ignores x ≡ false) (counts_too : (x : Mapping) → others x ≡ false)
    (xs ys : List Mapping) (s : LookAlike xs ys) where
  changes-alike : (refs : LocalRefs) → any_changed ignores refs xs ≡ any_changed others refs ys
  changes-alike refs =
      any-alike (λ m. not (ignores m) && is_changed refs m) (λ m. not (others m) && is_changed refs m)
      (λ x y e. counted (ignores x) (others y) (is_changed refs x) (is_changed refs y) (counts x) (counts_too y)
      (changed-alike refs x y e)) xs ys s

  unknown-alike : (found existing : Objects) → any_unknown ignores found existing xs ≡ any_unknown others found existing ys
  unknown-alike found existing =
      any-alike (λ m. not (ignores m) && not (is_known found existing m)) (λ m. not (others m) && not (is_known found existing m))
      (λ x y e. counted (ignores x) (others y) (not (is_known found existing x)) (not (is_known found existing y)) (counts x)
      (counts_too y) (ap not (known-alike found existing x y e))) xs ys s

  decision-alike : (found existing : Objects) (refs : LocalRefs) (shallow : Shallow) → decision ignores found existing refs shallow xs
      ≡ decision others found existing refs shallow ys
  decision-alike found existing refs shallow =
      let stays = is_no_change shallow in
      ap (λ e. decide e (chosen_action stays (any_changed ignores refs xs) (any_unknown ignores found existing xs)
      (map (is_known found existing) xs))) (early-alike shallow xs ys s)
      ∙ ap (λ c. decide (early shallow ys) (chosen_action stays c (any_unknown ignores found existing xs) (map (is_known found existing) xs)))
      (changes-alike refs)
      ∙ ap (λ u. decide (early shallow ys) (chosen_action stays (any_changed others refs ys) u (map (is_known found existing) xs)))
      (unknown-alike found existing)
      ∙ ap (λ k. decide (early shallow ys) (chosen_action stays (any_changed others refs ys) (any_unknown others found existing ys) k))
      (map-alike (is_known found existing) (known-alike found existing) xs ys s)

pub decided-alike : (p q : Basis) → SameBasis p q → decided p ≡ decided q
decided-alike p q s =
    decision-alike p.ignores q.ignores s.counts s.counts_too p.mappings q.mappings s.mappings p.found p.existing p.refs p.shallow
    ∙ ap (λ o. decision q.ignores o p.existing p.refs p.shallow q.mappings) s.found
    ∙ ap (λ o. decision q.ignores q.found o p.refs p.shallow q.mappings) s.existing
    ∙ ap (λ l. decision q.ignores q.found q.existing l p.shallow q.mappings) s.refs
    ∙ ap (λ l. decision q.ignores q.found q.existing q.refs l q.mappings) s.shallow

-- ---- what is asked for

wish-alike : (ignores others : Mapping → Bool) (existing : Objects) (by_name new_only : Bool) (x y : Mapping) (k : Bool)
    → ignores x ≡ false → others y ≡ false → seen x ≡ seen y
    → request_lines_of ignores existing by_name new_only x k ≡ request_lines_of others existing by_name new_only y k
wish-alike ignores others existing by_name new_only x y k c d e =
    ap (λ b. if b || (new_only && k) then [] else (wanted by_name (seen x).id (seen x).name ++ tag_have existing (seen x).id)) (c ∙ sym d)
    ∙ ap (λ (s : Seen). if others y || (new_only && k) then [] else (wanted by_name s.id s.name ++ tag_have existing s.id)) e

request_lines-alike : (ignores others : Mapping → Bool) → ((x : Mapping) → ignores x ≡ false) → ((x : Mapping) → others x ≡ false)
    → (existing : Objects) (by_name new_only : Bool) (xs ys : List Mapping) (known : List Bool)
    → LookAlike xs ys → request_lines ignores existing by_name new_only xs known ≡ request_lines others existing by_name new_only ys known
request_lines-alike ignores others c d existing by_name new_only [] [] known s = refl
request_lines-alike ignores others c d existing by_name new_only [] (y ∷ ys) known s = absurd s
request_lines-alike ignores others c d existing by_name new_only (x ∷ xs) [] known s = absurd s
request_lines-alike ignores others c d existing by_name new_only (x ∷ xs) (y ∷ ys) [] s = refl
request_lines-alike ignores others c d existing by_name new_only (x ∷ xs) (y ∷ ys) (k ∷ ks) s =
    ap (λ w. w ++ request_lines ignores existing by_name new_only xs ks)
    (wish-alike ignores others existing by_name new_only x y k (c x) (d y) s.0)
    ∙ ap (λ w. request_lines_of others existing by_name new_only y k ++ w) (request_lines-alike ignores others c d existing by_name new_only xs ys ks s.1)

pub asked-alike : (p q : Basis) (a : ArgumentsValue) (known : List Bool) → SameBasis p q → asked_for p a known ≡ asked_for q a known
asked-alike p q a known s =
    request_lines-alike p.ignores q.ignores s.counts s.counts_too p.existing (can_use (codes "ref-in-want") a)
    (is_no_change p.shallow) p.mappings q.mappings known s.mappings
    ∙ ap (λ o. request_lines q.ignores o (can_use (codes "ref-in-want") a) (is_no_change p.shallow) q.mappings known) s.existing
    ∙ ap (λ l. request_lines q.ignores q.existing (can_use (codes "ref-in-want") a) (is_no_change l) q.mappings known) s.shallow
