-- Distances that are passed on.
use Rattle.std.proofs.Common.{◌≡◌, ℕ, ◌<◌, ◌≤◌, ◌+◌, ◌-◌, ◌||◌, Bool, true, false, cond, List, [], ◌∷◌, ◌++◌, length, take, get_or, Option, Some, refl, sym, ap, subst, ◌∙◌, ◌⊎◌, inl, inr, ⊎_elim, true≢false, arith}
use Rattle.std.specs.Prelude.{nat_lt, unwrap_or, IsSome, All, ◌≢◌}
use Rattle.std.specs.Map.{lookup}
use Rattle.std.specs.BTreeMap.{is_at}
use Rattle.std.specs.Ordering.{eq_by_cmp}
use Rattle.std.proofs.lemmas.List.{take_more, take_all}
use Rattle.std.proofs.lemmas.Bool.{ltb-true, ltb-false, or_cases}
use Rattle.std.proofs.lemmas.List.Elements.{All-more, All-pop, All-weaker}
use Rattle.gixp_hash.specs.declared.object_id.ObjectId.{ObjectId}
use Rattle.gixp_hash.specs.ObjectId.{id_cmp}
use Rattle.gixp_graph.specs.Object.{commit_at}
use Rattle.gixp_graph.specs.declared.flags.Flags.{Flags}
use Rattle.gixp_graph.specs.GraphData.{GraphData, parents_in}
use Rattle.gixp_graph.specs.GraphLaws.{same_from}
use Rattle.gixp_graph.proofs.MarkLemmas.{same_id}
use Rattle.gixp_negotiators.specs.declared.skipping.Skip.{Skip}
use Rattle.gixp_negotiators.specs.declared.skipping.Legacy.{Legacy}
use Rattle.gixp_negotiators.specs.declared.skipping.Legacy.TheVariants.{Common, Skips}
use Rattle.gixp_negotiators.specs.Distance.{distance_after, skip_of}
use Rattle.gixp_negotiators.specs.Marks.{COMMON, COMMON_REF, POPPED, has_all, has_mark}
use Rattle.gixp_negotiators.specs.AddedMarks.{AddsNone, MarksNoCommon, PopsNone, PopsOnly, Grows}
use Rattle.gixp_negotiators.specs.CommitMarks.{Claims}
use Rattle.gixp_negotiators.proofs.FitLemmas.{was_mark}
use Rattle.gixp_negotiators.proofs.TakeLemmas.{pops_none, pops_on}
use Rattle.gixp_negotiators.specs.Passing.{Skipped, skip_in, longer, handed_on, is_among, HandsOne, Hands, AllTaken, IsCommonIfLeft, Takes}

not_true : (a b : Bool) → (a ≡ true → b ≡ true) → b ≡ false → a ≡ false
not_true true b h f = absurd (true≢false (sym (h refl) ∙ f))
not_true false b h f = refl

-- a commit that lacked a mark still does, where no commit got it
pub still_lacks : (mark : ℕ) (g h : GraphData) (id : ObjectId) → AddsNone mark g h → has_mark mark g.held id ≡ false
    → has_mark mark h.held id ≡ false
still_lacks mark g h id adds lacks = not_true (has_mark mark h.held id) (has_mark mark g.held id) (adds id) lacks

pub same_sides : (q id : ObjectId) (b : Bool) → eq_by_cmp id_cmp q id ≡ b → is_at (id_cmp id) q ≡ b
same_sides q id true e = subst (λ k. eq_by_cmp id_cmp id k ≡ true) (sym (same_from q id e)) (same_id id)
same_sides q id false e = not_true (eq_by_cmp id_cmp id q) (eq_by_cmp id_cmp q id)
    (λ t. subst (λ k. eq_by_cmp id_cmp q k ≡ true) (sym (same_from id q t)) (same_id q)) e

-- a distance stays where it is the longer one
pub raise_kept : (skips : Skipped) (id : ObjectId) (s : Skip) → nat_lt (skip_in skips id).whole s.whole ≡ false
    → HandsOne (Skips s) id skips skips
raise_kept skips id s e = (sym (ap (λ b. cond b s (skip_in skips id)) e), λ q n. refl)

-- a shorter distance is replaced
pub raise_put : (old new : Skipped) (id : ObjectId) (s : Skip) → nat_lt (skip_in old id).whole s.whole ≡ true → ((q : ObjectId) → lookup
    (is_at (id_cmp q)) new ≡ cond (is_at (id_cmp id) q) (Some s) (lookup (is_at (id_cmp q)) old)) → HandsOne (Skips s) id old new
raise_put old new id s e h = (
  ap (λ (o : Option Skip). unwrap_or o (skip_of 0 0)) (h id ∙ ap (λ b. cond b (Some s) (lookup (is_at (id_cmp id)) old)) (same_id id))
      ∙ sym (ap (λ b. cond b s (skip_in old id)) e),
  λ q n. ap (λ (o : Option Skip). unwrap_or o (skip_of 0 0))
      (h q ∙ ap (λ b. cond b (Some s) (lookup (is_at (id_cmp q)) old)) (same_sides q id false n)),
)

-- ---- one commit, and some

or_false : (b : Bool) → (b || false) ≡ b
or_false true = refl
or_false false = refl

one_among : (p q : ObjectId) → is_among (p ∷ []) q ≡ eq_by_cmp id_cmp q p
one_among p q = at (eq_by_cmp id_cmp q p)
  where
    at : (b : Bool) → (b || false) ≡ b
    at true = refl
    at false = refl

common_hands : (ids : List ObjectId) (h : GraphData) (old new : Skipped) → new ≡ old → Hands Common ids h old new
common_hands ids h old new e =
    record { handed = λ s q is. absurd (let clash : Common ≡ Skips s = is in cc); others = λ q n. ap (λ skips. skip_in skips q) e }

-- one commit more that wasn't taken
pub hands_one : (legacy : Legacy) (p : ObjectId) (h : GraphData) (old new : Skipped) → HandsOne legacy p old new
    → Hands legacy (p ∷ []) h old new
hands_one Common p h old new e = common_hands (p ∷ []) h old new e
hands_one (Skips t) p h old new e = record {
  handed = λ s q is among lacks. let one : q ≡ p = same_from q p (sym (one_among p q) ∙ among) in let two : t ≡ s = cc in
      subst (λ k. skip_in new k ≡ longer (skip_in old k) s) (sym one) (subst (λ k. skip_in new p ≡ longer (skip_in old p) k) two e.0);
  others = λ q n. e.1 q (sym (one_among p q) ∙ n);
}

-- one commit more that was taken
pub hands_taken : (legacy : Legacy) (p : ObjectId) (h : GraphData) (old new : Skipped) → has_mark POPPED h.held p ≡ true → new ≡ old
    → Hands legacy (p ∷ []) h old new
hands_taken legacy p h old new taken e = record {
  handed = λ s q is among lacks. absurd (true≢false
      (sym taken ∙ subst (λ k. has_mark POPPED h.held k ≡ false) (same_from q p (sym (one_among p q) ∙ among)) lacks));
  others = λ q n. ap (λ skips. skip_in skips q) e;
}

pub hands_none : (legacy : Legacy) (h : GraphData) (old : Skipped) → Hands legacy [] h old old
hands_none legacy h old = record { handed = λ s q is among. absurd (true≢false (sym among)); others = λ q n. refl }

among_append : (xs : List ObjectId) (p q : ObjectId) → is_among (xs ++ p ∷ []) q ≡ (is_among xs q || is_among (p ∷ []) q)
among_append [] p q = refl
among_append (x ∷ xs) p q = at (eq_by_cmp id_cmp q x) (among_append xs p q)
  where
    at : (b : Bool) → is_among (xs ++ p ∷ []) q ≡ (is_among xs q || is_among (p ∷ []) q)
        → (b || is_among (xs ++ p ∷ []) q) ≡ ((b || is_among xs q) || is_among (p ∷ []) q)
    at true h = refl
    at false h = h

twice : (s t : Skip) → longer (longer s t) t ≡ longer s t
twice s t = at (nat_lt s.whole t.whole) refl
  where
    at : (b : Bool) → nat_lt s.whole t.whole ≡ b → cond (nat_lt (cond b t s).whole t.whole) t (cond b t s) ≡ cond b t s
    at true e = again (nat_lt t.whole t.whole)
      where
        again : (c : Bool) → cond c t t ≡ t
        again true = refl
        again false = refl
    at false e = ap (λ c. cond c t s) e

-- one commit more
pub hands_more : (legacy : Legacy) (xs : List ObjectId) (p : ObjectId) (i h : GraphData) (old mid new : Skipped) → Grows i h
    → Hands legacy xs i old mid → Hands legacy (p ∷ []) h mid new → Hands legacy (xs ++ p ∷ []) h old new
hands_more legacy xs p i h old mid new w a b = record {
  handed = λ s q is among lacks. at s q is lacks (not_true (has_mark POPPED i.held q) (has_mark POPPED h.held q) (w.marks POPPED q) lacks)
      (is_among xs q) (is_among (p ∷ []) q) refl refl (sym (among_append xs p q) ∙ among);
  others = λ q n. both q (is_among xs q) (is_among (p ∷ []) q) refl refl (sym (among_append xs p q) ∙ n);
}
  where
    both : (q : ObjectId) (x y : Bool) → is_among xs q ≡ x → is_among (p ∷ []) q ≡ y → (x || y) ≡ false → skip_in new q ≡ skip_in old q
    both q true y e f n = absurd (true≢false n)
    both q false true e f n = absurd (true≢false n)
    both q false false e f n = b.others q f ∙ a.others q e

    at : (s : Skip) (q : ObjectId) → legacy ≡ Skips s → has_mark POPPED h.held q ≡ false → has_mark POPPED i.held q ≡ false → (x y : Bool)
        → is_among xs q ≡ x → is_among (p ∷ []) q ≡ y → (x || y) ≡ true → skip_in new q ≡ longer (skip_in old q) s
    at s q is lacks lacked true true e f n = b.handed s q is f lacks ∙ ap (λ k. longer k s) (a.handed s q is e lacked)
        ∙ twice (skip_in old q) s
    at s q is lacks lacked true false e f n = b.others q f ∙ a.handed s q is e lacked
    at s q is lacks lacked false true e f n = b.handed s q is f lacks ∙ ap (λ k. longer k s) (a.others q e)
    at s q is lacks lacked false false e f n = absurd (true≢false (sym n))

pub hands_step : (legacy : Legacy) (ids : List ObjectId) (k : ℕ) (d : ObjectId) (i h : GraphData) (old mid new : Skipped)
    → k < length ids → Grows i h → Hands legacy (take k ids) i old mid → Hands legacy (get_or ids k d ∷ []) h mid new
    → Hands legacy (take (k + 1) ids) h old new
hands_step legacy ids k d i h old mid new l w a b = subst (λ xs. Hands legacy xs h old new) (sym (take_more ids k d l))
    (hands_more legacy (take k ids) (get_or ids k d) i h old mid new w a b)

pub hands_all : (legacy : Legacy) (ids : List ObjectId) (k : ℕ) (h : GraphData) (old new : Skipped) → length ids ≤ k
    → Hands legacy (take k ids) h old new → Hands legacy ids h old new
hands_all legacy ids k h old new l a = subst (λ xs. Hands legacy xs h old new) (take_all k ids l) a

-- ---- a commit is taken

pub takes_none : (old : Skipped) (g h : GraphData) (id : ObjectId) → (IsSome (commit_at g.objects id) → has_mark POPPED g.held id ≡ true)
    → MarksNoCommon g h → Grows g h → PopsNone g h → Takes old g id false old h
takes_none old g h id spent none w pops = record {
  hands = λ there lacks. absurd (true≢false (sym (spent there) ∙ lacks));
  others = λ q n. refl;
  reached = λ e. absurd (true≢false (sym e));
  passed = λ there lacks. absurd (true≢false (sym (spent there) ∙ lacks));
  settles = λ two four. none;
  shares = λ there lacks. absurd (true≢false (sym (spent there) ∙ lacks));
  taken = λ there. w.marks POPPED id (spent there);
  pops = pops_none id g h pops;
}

-- the distance that it passes on
legacy_is : (legacy : Legacy) (s : Skip) → (0 < s.left → legacy ≡ Skips (skip_of s.whole (s.left - 1)))
    → (s.left ≡ 0 → legacy ≡ Skips (skip_of (distance_after s.whole) (distance_after s.whole))) → legacy ≡ Skips (handed_on s)
legacy_is legacy s p r = at (nat_lt 0 s.left) refl
  where
    at : (b : Bool) → nat_lt 0 s.left ≡ b → legacy
        ≡ Skips (cond b (skip_of s.whole (s.left - 1)) (skip_of (distance_after s.whole) (distance_after s.whole)))
    at true e = p (ltb-true 0 s.left e)
    at false e = r (let k : s.left ≤ 0 = ltb-false 0 s.left e in omega arith)

pub legacy_apart : (legacy : Legacy) (s : Skip) → (0 < s.left → legacy ≡ Skips (skip_of s.whole (s.left - 1)))
    → (s.left ≡ 0 → legacy ≡ Skips (skip_of (distance_after s.whole) (distance_after s.whole))) → legacy ≢ Common
legacy_apart legacy s p r e = let clash : Common ≡ Skips (handed_on s) = sym e ∙ legacy_is legacy s p r in cc

pub takes_some : (old new : Skipped) (g i h : GraphData) (id : ObjectId) (flags : Flags) (legacy : Legacy) (parents : List ObjectId)
    (s : Skip) (is_common offered : Bool)
    → Claims POPPED g i id flags → Grows i h → parents ≡ parents_in i.held id → s ≡ skip_in old id → Hands legacy parents h old new
    → is_common ≡ has_all COMMON flags.0
    → (has_all COMMON flags.0 ≡ false → has_all COMMON_REF flags.0 ≡ false → 0 < s.left → legacy ≡ Skips (skip_of s.whole (s.left - 1)))
    → (has_all COMMON flags.0 ≡ false → has_all COMMON_REF flags.0 ≡ false → s.left ≡ 0
    → legacy ≡ Skips (skip_of (distance_after s.whole) (distance_after s.whole)))
    → (is_common ≡ false → s.left ≡ 0 → offered ≡ true) → (any : Bool) → (0 < s.left → any ≡ true → offered ≡ false)
    → (any ≡ false → AllTaken h parents) → (is_common ≡ false → any ≡ false → offered ≡ true) → (any ≡ true → AllTaken h parents → ⊥)
    → MarksNoCommon g i → (legacy ≢ Common → MarksNoCommon i h) → PopsOnly id g i → PopsNone i h
    → (has_all COMMON flags.0 ≡ true → legacy ≡ Common) → (has_all COMMON_REF flags.0 ≡ true → legacy ≡ Common)
    → (legacy ≡ Common → All (IsCommonIfLeft h) parents)
    → Takes old g id offered new h
takes_some old new g i h id flags legacy parents s is_common offered k w ps ss hands common p r reached any early taken ends left none lone
    only pops two four shared
    = record {
      hands = λ there lacks two four q among lacked.
          subst (λ t. skip_in new q ≡ longer (skip_in old q) (handed_on t)) ss
          (hands.handed (handed_on s) q (legacy_is legacy s (p (lack COMMON two) (lack COMMON_REF four)) (r (lack COMMON two)
          (lack COMMON_REF four)))
          (ap (λ ids. is_among ids q) same ∙ among) lacked);
      others = λ q n. hands.others q (ap (λ ids. is_among ids q) same ∙ n);
      reached = λ e. subst (λ (t : Skip). (t.left ≡ 0) ⊎ AllTaken h (parents_in h.held id)) ss (last e (nat_lt 0 s.left) any refl refl);
      passed = λ there lacks not two. (
        subst (λ (t : Skip). 0 < t.left) ss (some s.left (λ e. true≢false (sym (reached (common ∙ lack COMMON two) e) ∙ not))),
        waits (common ∙ lack COMMON two) not any refl,
      );
      settles = λ two four q m. none q (lone (skips two four) q m);
      shares = λ there lacks e. subst (All (IsCommonIfLeft h)) same (shared (⊎_elim
          (λ c. two (sym (was_mark POPPED COMMON g i id flags k refl) ∙ c))
          (λ c. four (sym (was_mark POPPED COMMON_REF g i id flags k refl) ∙ c))
          (or_cases (has_mark COMMON g.held id) (has_mark COMMON_REF g.held id) e)));
      taken = λ there. w.marks POPPED id k.after;
      pops = pops_on id g i h only pops;
    }
  where
    same : parents ≡ parents_in h.held id
    same = ps ∙ sym (w.parents id k.held)

    last : offered ≡ true → (b a : Bool) → nat_lt 0 s.left ≡ b → any ≡ a → (s.left ≡ 0) ⊎ AllTaken h (parents_in h.held id)
    last e false a f n = inl (let z : s.left ≤ 0 = ltb-false 0 s.left f in omega arith)
    last e true true f n = absurd (true≢false (sym e ∙ early (ltb-true 0 s.left f) n))
    last e true false f n = inr (subst (AllTaken h) same (taken n))

    lack : (mark : ℕ) → has_mark mark h.held id ≡ false → has_all mark flags.0 ≡ false
    lack mark f = not_true (has_all mark flags.0) (has_mark mark h.held id) (λ t. w.marks mark id (k.had mark t)) f

    waits : is_common ≡ false → offered ≡ false → (a : Bool) → any ≡ a → AllTaken h (parents_in h.held id) → ⊥
    waits c not true e all = left e (subst (AllTaken h) (sym same) all)
    waits c not false e all = true≢false (sym (ends c e) ∙ not)

    skips : has_mark COMMON g.held id ≡ false → has_mark COMMON_REF g.held id ≡ false → legacy ≢ Common
    skips two four =
        let a = not_true (has_all COMMON flags.0) (has_mark COMMON g.held id) (λ t. k.was COMMON refl t) two in
        let b = not_true (has_all COMMON_REF flags.0) (has_mark COMMON_REF g.held id) (λ t. k.was COMMON_REF refl t) four in
        legacy_apart legacy s (p a b) (r a b)

    some : (n : ℕ) → (n ≡ 0 → ⊥) → 0 < n
    some n f = omega (arith, f)

pub taken_popped : (old before new : Skipped) (g h : GraphData) (id : ObjectId) (offered : Bool) {is : Bool} → before ≡ old
    → offered ≡ is → Takes before g id offered new h → Takes old g id is new h
taken_popped old before new g h id offered {is} e f t = subst (λ b. Takes old g id b new h) f (subst (λ s. Takes s g id offered new h) e t)

-- ---- a line that ends

pub neither_left : (a b : Bool) → (a || b) ≡ false → a ≡ false
neither_left true b e = e
neither_left false b e = refl

pub neither_right : (a b : Bool) → (a || b) ≡ false → b ≡ false
neither_right true b e = absurd (true≢false e)
neither_right false b e = e

-- one more commit that was taken
pub taken_more : (ids : List ObjectId) (k : ℕ) (d : ObjectId) (i h : GraphData) → k < length ids → Grows i h → AllTaken i (take k ids)
    → has_mark POPPED h.held (get_or ids k d) ≡ true → AllTaken h (take (k + 1) ids)
taken_more ids k d i h l w all one = All-more (λ p. has_mark POPPED h.held p ≡ true) ids k d l
    (All-weaker (λ p. has_mark POPPED i.held p ≡ true) (λ p. has_mark POPPED h.held p ≡ true) (λ q m. w.marks POPPED q m)
    (take k ids) all) one

pub taken_all : (ids : List ObjectId) (k : ℕ) (h : GraphData) → length ids ≤ k → AllTaken h (take k ids) → AllTaken h ids
taken_all ids k h l a = subst (AllTaken h) (take_all k ids l) a

-- one more commit that is common, unless it was taken
pub shares_more : (ids : List ObjectId) (k : ℕ) (d : ObjectId) (i h : GraphData) → k < length ids → Grows i h
    → All (IsCommonIfLeft i) (take k ids) → IsCommonIfLeft h (get_or ids k d) → All (IsCommonIfLeft h) (take (k + 1) ids)
shares_more ids k d i h l w all one = All-more (IsCommonIfLeft h) ids k d l
    (All-weaker (IsCommonIfLeft i) (IsCommonIfLeft h) (λ p m there left. w.marks COMMON p
    (m (subst (λ o. IsSome (commit_at o p)) w.objects there)
    (not_true (has_mark POPPED i.held p) (has_mark POPPED h.held p) (w.marks POPPED p) left))) (take k ids) all) one

pub shares_all : (ids : List ObjectId) (k : ℕ) (h : GraphData) → length ids ≤ k → All (IsCommonIfLeft h) (take k ids)
    → All (IsCommonIfLeft h) ids
shares_all ids k h l a = subst (All (IsCommonIfLeft h)) (take_all k ids l) a

-- one of some commits wasn't taken, so the line goes on
pub left_more : (ids : List ObjectId) (k : ℕ) (d : ObjectId) (i h : GraphData) (any waits : Bool) → k < length ids → AddsNone POPPED i h
    → (any ≡ true → AllTaken i (take k ids) → ⊥) → (waits ≡ true → has_mark POPPED h.held (get_or ids k d) ≡ false) → (any || waits) ≡ true
    → AllTaken h (take (k + 1) ids) → ⊥
left_more ids k d i h true waits l none before now e all =
    before refl (All-weaker (λ p. has_mark POPPED h.held p ≡ true) (λ p. has_mark POPPED i.held p ≡ true) (λ q m. none q m) (take k ids)
    (All-pop (λ p. has_mark POPPED h.held p ≡ true) (take (k + 1) ids) (take k ids) (Some (get_or ids k d)) (take_more ids k d l) all).0)
left_more ids k d i h false waits l none before now e all =
    true≢false (sym (All-pop (λ p. has_mark POPPED h.held p ≡ true) (take (k + 1) ids) (take k ids) (Some (get_or ids k d))
    (take_more ids k d l) all).1 ∙ now e)

pub left_all : (ids : List ObjectId) (k : ℕ) (h : GraphData) → length ids ≤ k → (AllTaken h (take k ids) → ⊥) → AllTaken h ids → ⊥
left_all ids k h l a all = a (subst (AllTaken h) (sym (take_all k ids l)) all)
