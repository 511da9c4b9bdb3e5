-- Names of refs in a set.
use Rattle.std.proofs.Common.{◌≡◌, ℕ, ◌+◌, ◌<◌, zero, suc, add-one, drop, arith, Bool, true, false, List, [], ◌∷◌, length, take, cond, get_or, refl, sym, ap, ◌∙◌, inl, inr}
use Rattle.std.specs.Prelude.{◌||◌, ◌&&◌, is_some}
use Rattle.std.specs.Borrow.{Bor}
use Rattle.std.specs.BTreeSet.{BTreeSet, Updates}
use Rattle.std.specs.BTreeMap.{is_at}
use Rattle.std.specs.List.{list_any}
use Rattle.std.specs.Ordering.{nat_cmp}
use Rattle.std.specs.Cmp.Lexicographic.{slice_cmp}
use Rattle.std.specs.Str.{bytes_eq}
use Rattle.std.proofs.lemmas.List.Folds.{list_any_more}
use Rattle.std.proofs.lemmas.Map.Text.{is_eq-slice_cmp}
use Rattle.std.proofs.lemmas.Slice.Eq.{bytes_eq-Decides}
use Rattle.std.proofs.lemmas.Bool.{cases_Bool}
use Rattle.gixp_refs.specs.declared.handshake.Ref.{Ref}
use Rattle.gixp_refs.specs.Ref.{unpacked_name, unpacked_target}
use Rattle.gixp_refspec.specs.declared.needle.Needle.TheVariants.{Id as the_id, Exact as the_exact, Short as the_short}
use Rattle.gixp_refspec.specs.Matching.{where_true, candidates}
use Rattle.gixp_updates.specs.RefNames.{has_text, is_named, HasNames}
use Rattle.gixp_updates.specs.Unmatched.{is_match_with}

pub turned : (a b : List ℕ) → bytes_eq a b ≡ bytes_eq b a
turned a b = elim (cases_Bool (bytes_eq a b)) [
  | inl t ↦ t ∙ sym ((bytes_eq-Decides b a).1 (sym ((bytes_eq-Decides a b).0 t)))
  | inr f ↦ elim (cases_Bool (bytes_eq b a)) [
    | inl t ↦ (bytes_eq-Decides a b).1 (sym ((bytes_eq-Decides b a).0 t)) ∙ sym t
    | inr g ↦ f ∙ sym g
  ]
]

either_way : (a b : Bool) → cond a true b ≡ (b || a)
either_way true true = refl
either_way true false = refl
either_way false true = refl
either_way false false = refl

-- a set with one more name
pub name_added : (old new : BTreeSet (Bor (List ℕ))) (key : Bor (List ℕ)) (text : List ℕ)
    → Updates (λ x y. slice_cmp nat_cmp x.now y.now) old new key true → has_text new text ≡ (has_text old text || bytes_eq text key.now)
name_added old new key text updates =
    updates.0 (record { ref_ptr = (0, 0); now = text })
    ∙ ap (λ b. cond b true (has_text old text)) (is_eq-slice_cmp key.now text)
    ∙ either_way (bytes_eq key.now text) (has_text old text)
    ∙ ap (λ b. has_text old text || b) (turned key.now text)

is_some-where : (b : Bool) → is_some (where_true b) ≡ b
is_some-where true = refl
is_some-where false = refl

-- an exact name matches the refs with that name
pub exact_match : (name : Bor (List ℕ)) (refs : List Ref)
    → list_any (is_named name.now) refs ≡ list_any (is_match_with (the_exact name)) refs
exact_match name [] = refl
exact_match name (r ∷ refs) =
    let e = is_some-where (bytes_eq (unpacked_name r) name.now) ∙ turned (unpacked_name r) name.now in
    let t = exact_match name refs in
    ap (λ b. (is_some (unpacked_target r) && b) || list_any (is_named name.now) refs) (sym e)
    ∙ ap (λ b. is_match_with (the_exact name) r || b) t

-- ---- a short name

and_any : {X : Type 0} (b : Bool) (p : X → Bool) (xs : List X) → (b && list_any p xs) ≡ list_any (λ x. b && p x) xs
and_any true p xs = refl
and_any false p [] = refl
and_any false p (x ∷ xs) = and_any false p xs

any_alike : {X : Type 0} (p q : X → Bool) → ((x : X) → p x ≡ q x) → (xs : List X) → list_any p xs ≡ list_any q xs
any_alike p q same [] = refl
any_alike p q same (x ∷ xs) = ap (λ b. b || list_any p xs) (same x) ∙ ap (λ b. q x || b) (any_alike p q same xs)

four : (a b c d : Bool) → ((a || b) || (c || d)) ≡ ((a || c) || (b || d))
four true b c d = refl
four false true true d = refl
four false true false d = refl
four false false c d = refl

any_none : {X : Type 0} (xs : List X) → list_any (λ x. false) xs ≡ false
any_none [] = refl
any_none (x ∷ xs) = any_none xs

any_either : {X : Type 0} (p q : X → Bool) (xs : List X) → list_any (λ x. p x || q x) xs ≡ (list_any p xs || list_any q xs)
any_either p q [] = refl
any_either p q (x ∷ xs) = ap (λ b. (p x || q x) || b) (any_either p q xs) ∙ four (p x) (q x) (list_any p xs) (list_any q xs)

any_swap : {X Y : Type 0} (p : X → Y → Bool) (xs : List X) (ys : List Y)
    → list_any (λ x. list_any (p x) ys) xs ≡ list_any (λ y. list_any (λ x. p x y) xs) ys
any_swap p [] ys = sym (any_none ys)
any_swap p (x ∷ xs) ys =
    ap (λ b. list_any (p x) ys || b) (any_swap p xs ys) ∙ sym (any_either (p x) (λ y. list_any (λ z. p z y) xs) ys)

short_here : (texts : List (List ℕ)) (r : Ref)
    → (is_some (unpacked_target r) && is_some (where_true (list_any (λ candidate. bytes_eq (unpacked_name r) candidate) texts)))
    ≡ list_any (λ text. is_named text r) texts
short_here texts r =
    ap (λ b. is_some (unpacked_target r) && b) (is_some-where (list_any (λ candidate. bytes_eq (unpacked_name r) candidate) texts)
    ∙ any_alike (λ candidate. bytes_eq (unpacked_name r) candidate) (λ candidate. bytes_eq candidate (unpacked_name r))
    (λ candidate. turned (unpacked_name r) candidate) texts)
    ∙ and_any (is_some (unpacked_target r)) (λ candidate. bytes_eq candidate (unpacked_name r)) texts

-- a short name matches the refs with the names that it may mean
pub short_match : (name : Bor (List ℕ)) (refs : List Ref) (names : BTreeSet (Bor (List ℕ))) → HasNames refs names
    → list_any (has_text names) (candidates name.now) ≡ list_any (is_match_with (the_short name)) refs
short_match name refs names has =
    any_alike (has_text names) (λ text. list_any (is_named text) refs) has (candidates name.now)
    ∙ any_swap (λ text r. is_named text r) (candidates name.now) refs
    ∙ any_alike (λ r. list_any (λ text. is_named text r) (candidates name.now)) (is_match_with (the_short name))
    (λ r. sym (short_here (candidates name.now) r)) refs

-- ---- the set of all names

pub no_names : (text : List ℕ) (names : BTreeSet (Bor (List ℕ))) → names.keys ≡ [] → has_text names text ≡ false
no_names text names e = ap (λ keys. list_any (is_at (λ (key : Bor (List ℕ)). slice_cmp nat_cmp text key.now)) keys) e

-- a step of a loop that adds the name of each ref that passes
pub names_more : (passes : List ℕ → Ref → Bool) (refs : List Ref) (i : ℕ) (r : Ref) (now new : BTreeSet (Bor (List ℕ)))
    → r ≡ get_or refs i r → i < length refs
    → ((text : List ℕ) → has_text now text ≡ list_any (passes text) (take i refs))
    → ((text : List ℕ) → has_text new text ≡ (has_text now text || passes text r))
    → (text : List ℕ) → has_text new text ≡ list_any (passes text) (take (i + 1) refs)
names_more passes refs i r now new e l kept step text =
    step text ∙ ap (λ b. b || passes text r) (kept text)
    ∙ ap (λ x. list_any (passes text) (take i refs) || passes text x) e
    ∙ sym (list_any_more (passes text) refs i r l)

-- ---- the matches of each kind of source

and_false : (a : Bool) → (a && false) ≡ false
and_false true = refl
and_false false = refl

-- an id matches no name
pub id_match : (refs : List Ref) → false ≡ list_any (is_match_with the_id) refs
id_match [] = refl
id_match (r ∷ refs) = id_match refs ∙ ap (λ b. b || list_any (is_match_with the_id) refs) (sym (and_false (is_some (unpacked_target r))))

any_at : {X : Type 0} (p : X → Bool) (xs : List X) (i : ℕ) (d : X) → i < length xs
    → list_any p (drop i xs) ≡ (p (get_or xs i d) || list_any p (drop (suc i) xs))
any_at p [] i d l = absurd (omega arith)
any_at p (x ∷ xs) zero d l = refl
any_at p (x ∷ xs) (suc i) d l = any_at p xs i d (omega arith)

-- an element from an index on passes if the one there does, or a later one
pub any_step : {X : Type 0} (p : X → Bool) (xs : List X) (i : ℕ) (d : X) → i < length xs
    → list_any p (drop i xs) ≡ (p (get_or xs i d) || list_any p (drop (i + 1) xs))
any_step p xs i d l = rw add-one (any_at p xs i d l)
