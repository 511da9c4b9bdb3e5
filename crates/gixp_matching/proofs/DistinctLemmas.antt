-- Keys that are all different, and what follows for mappings.
use Rattle.std.proofs.Common.{◌≡◌, ℕ, Bool, false, List, [], ◌∷◌, ◌++◌, length, map, cond, Option, Some, None, Ordering, Less, Equal, Greater, IsPermutation, ap, sym, subst, ◌∙◌, refl, inl, inr}
use Rattle.std.specs.Prelude.{◌&&◌, not, filter, option_to_list}
use Rattle.std.specs.Cmp.{IsTotalOrder}
use Rattle.std.specs.List.{AllAdjacentBelow, AllByRecursion, IsDistinct, flat_map}
use Rattle.std.specs.List.Sorted.{IsStrictlySortedBy}
use Rattle.std.specs.Ordering.{eq_by_cmp, is_eq, ordering_reverse}
use Rattle.std.specs.Str.{bytes_eq}
use Rattle.std.proofs.lemmas.Bool.{cases_Bool, cond-true, cond-false}
use Rattle.std.proofs.lemmas.List.Sorted.{IsPermutation-sym}
use Rattle.std.proofs.lemmas.Map.Keys.{IsDistinct-from_sorted, IsDistinct-IsPermutation, sorted_from_all_adjacent}
use Rattle.std.proofs.lemmas.Map.Text.{is_eq-slice_cmp}
use Rattle.std.proofs.lemmas.Slice.Eq.{bytes_eq-Decides}
use Rattle.gixp_matching.specs.declared.match_group.key.KeyBytes.{KeyBytes}
use Rattle.gixp_matching.specs.Apart.{parts, key_parts, locals}
use Rattle.gixp_matching.specs.Mappings.{Source, Mapped, source_eq, local_eq, is_same, firsts}
use Rattle.gixp_matching.specs.MatchGroup.{key_bytes}
use Rattle.gixp_refspec.specs.Spec.{Spec}
use Rattle.gixp_matching.specs.Validation.{of_local, differ, conflict_over, conflicts, local_names}
use Rattle.gixp_matching.proofs.DifferLemmas.{differ-first}
use Rattle.gixp_matching.proofs.KeyLemmas.{Key, by_key, by_bytes, is_eq-key, bytes_eq-turned}

pub is_eq-reverse : (o : Ordering) → is_eq (ordering_reverse o) ≡ is_eq o
is_eq-reverse Less = refl
is_eq-reverse Equal = refl
is_eq-reverse Greater = refl

-- keys in ascending order
rising_sorted : {K : Type 0} {R : K → K → Ordering} → IsTotalOrder R → (ks : List K)
    → AllAdjacentBelow (λ x y. R x y ≡ Less) ks (length ks) → IsStrictlySortedBy R ks
unfolding IsStrictlySortedBy
rising_sorted o [] h = tt
rising_sorted o (k ∷ ks) h = sorted_from_all_adjacent o (k ∷ ks) k (λ i l. h i k l)

-- keys that are all different once they are sorted
pub distinct_sorted : {K : Type 0} {R : K → K → Ordering} → IsTotalOrder R → (ks sorted : List K) → IsPermutation ks sorted
    → AllAdjacentBelow (λ x y. R x y ≡ Less) sorted (length sorted) → IsDistinct (eq_by_cmp R) ks
distinct_sorted {K} {R} o ks sorted same rising =
    IsDistinct-IsPermutation (eq_by_cmp R) (λ x y. ap is_eq (o.antisymm x y) ∙ is_eq-reverse (R y x)) sorted ks
    (IsPermutation-sym ks sorted same)
    (IsDistinct-from_sorted R sorted (rising_sorted o sorted rising))

-- the values of keys are all different where the keys are
all_apart : {K P : Type 0} (e : K → K → Bool) (t : P → P → Bool) (f : K → P) → ((x y : K) → e x y ≡ t (f x) (f y))
    → (k : K) (ks : List K) → AllByRecursion (λ y. e k y ≡ false) ks → AllByRecursion (λ y. t (f k) y ≡ false) (map f ks)
all_apart e t f same k [] h = tt
all_apart e t f same k (x ∷ xs) h = (sym (same k x) ∙ h.0, all_apart e t f same k xs h.1)

pub distinct-map : {K P : Type 0} (e : K → K → Bool) (t : P → P → Bool) (f : K → P) → ((x y : K) → e x y ≡ t (f x) (f y)) → (ks : List K)
    → IsDistinct e ks → IsDistinct t (map f ks)
unfolding IsDistinct
distinct-map e t f same [] h = tt
distinct-map e t f same (k ∷ ks) h = (all_apart e t f same k ks h.0, distinct-map e t f same ks h.1)

-- equal sources and equal local names
abbrev pub parts_eq : Source × Option (List ℕ) → Source × Option (List ℕ) → Bool
parts_eq a b = source_eq a.0 b.0 && local_eq a.1 b.1

all_kept : (m : Mapped) (ms : List Mapped) → AllByRecursion (λ y. parts_eq (parts m) y ≡ false) (map parts ms)
    → filter (λ later. not (is_same m later)) ms ≡ ms
all_kept m [] h = refl
all_kept m (x ∷ xs) h = cond-true _ _ _ (ap not h.0) ∙ ap (λ r. x ∷ r) (all_kept m xs h.1)

pub no_repeats : (ms : List Mapped) → IsDistinct parts_eq (map parts ms) → firsts ms ≡ ms
unfolding IsDistinct
no_repeats [] h = refl
no_repeats (m ∷ ms) h = ap (λ l. m ∷ filter (λ later. not (is_same m later)) l) (no_repeats ms h.1) ∙ ap (λ l. m ∷ l) (all_kept m ms h.0)

-- where the keys of mappings are all different, all mappings are first ones
pub firsts_are_all : (keys : List Key) (ms : List Mapped) → map key_parts keys ≡ map parts ms → IsDistinct (eq_by_cmp by_key) keys
    → firsts ms ≡ ms
firsts_are_all keys ms is h =
    no_repeats ms (subst (IsDistinct parts_eq) is (distinct-map (eq_by_cmp by_key) parts_eq key_parts is_eq-key keys h))

-- where local names are all different, so are their keys
pub locals_are_apart : (keys : List KeyBytes) (ms : List Mapped) → map key_bytes keys ≡ locals ms → IsDistinct (eq_by_cmp by_bytes) keys
    → IsDistinct bytes_eq (locals ms)
locals_are_apart keys ms is h =
    subst (IsDistinct bytes_eq) is (distinct-map (eq_by_cmp by_bytes) bytes_eq key_bytes
    (λ x y. is_eq-slice_cmp (key_bytes x) (key_bytes y)) keys h)

-- no mapping has a name that differs from all local names
none_named : (name : List ℕ) (ms : List Mapped) → AllByRecursion (λ y. bytes_eq name y ≡ false) (locals ms) → of_local name ms ≡ []
none_named name [] h = refl
none_named name (m ∷ ms) h = at (λ k. none_named name ms k) m.local h where
  at : (AllByRecursion (λ y. bytes_eq name y ≡ false) (locals ms) → of_local name ms ≡ []) → (o : Option (List ℕ))
      → AllByRecursion (λ y. bytes_eq name y ≡ false) (option_to_list o ++ locals ms)
      → cond (local_eq o (Some name)) (m ∷ of_local name ms) (of_local name ms) ≡ []
  at rest None h = rest h
  at rest (Some other) h = cond-false _ _ _ (bytes_eq-turned other name ∙ h.0) ∙ rest h.1

-- mappings with different local names have one source for each name
one_source : (name : List ℕ) (ms : List Mapped) → IsDistinct bytes_eq (locals ms) → differ (of_local name ms) ≡ false
unfolding IsDistinct
one_source name [] h = refl
one_source name (m ∷ ms) h = at (λ k. one_source name ms k) m.local h where
  at : (IsDistinct bytes_eq (locals ms) → differ (of_local name ms) ≡ false) → (o : Option (List ℕ))
      → IsDistinct bytes_eq (option_to_list o ++ locals ms)
      → differ (cond (local_eq o (Some name)) (m ∷ of_local name ms) (of_local name ms)) ≡ false
  at rest None h = rest h
  at rest (Some other) h = elim (cases_Bool (bytes_eq other name)) [
    | inl t ↦ (
        let is : other ≡ name = (bytes_eq-Decides other name).0 t in
        ap differ (cond-true _ _ _ t)
        ∙ ap (λ l. differ (m ∷ l)) (none_named name ms (subst (λ n. AllByRecursion (λ y. bytes_eq n y ≡ false) (locals ms)) is h.0))
        ∙ sym (differ-first m []))
    | inr f ↦ ap differ (cond-false _ _ _ f) ∙ rest h.1
  ]

none_made : {A B : Type 0} (f : A → List B) (xs : List A) → ((x : A) → f x ≡ []) → flat_map f xs ≡ []
none_made f [] h = refl
none_made f (x ∷ xs) h = ap (λ l. l ++ flat_map f xs) (h x) ∙ none_made f xs h

-- mappings with different local names have no conflicts
pub no_conflicts : (specs : List Spec) (ms : List Mapped) → IsDistinct bytes_eq (locals ms) → [] ≡ conflicts specs ms
unfolding conflicts
no_conflicts specs ms apart = sym (none_made (λ name. conflict_over specs name (of_local name ms)) (local_names ms)
    (λ name. cond-false _ _ _ (one_source name ms apart)))
