-- Keys with different hashes are different.
use Rattle.std.proofs.Common.{rules, ◌≡◌, ℕ, Bool, true, false, List, [], ◌∷◌, map, Option, Ordering, refl, sym, ap, ◌∙◌}
use Rattle.std.specs.List.{AllByRecursion, IsDistinct}
use Rattle.std.specs.Borrow.{Bor}
use Rattle.std.specs.Prelude.{◌&&◌}
use Rattle.std.specs.Ordering.{nat_cmp, eq_by_cmp, ordering_then}
use Rattle.std.specs.Str.{bytes_eq}
use Rattle.std.proofs.lemmas.Bool.{and_parts, false≢true}
use Rattle.std.proofs.lemmas.Slice.Eq.{bytes_eq-Decides}
use Rattle.gixp_matching.specs.Apart.{parts}
use Rattle.gixp_matching.specs.Digest.{digest, parts_digest, with_digest, number_parts}
use Rattle.gixp_matching.specs.Mappings.{Source, Mapped, source_eq, local_eq, is_same, firsts}
use Rattle.gixp_matching.proofs.DistinctLemmas.{parts_eq, distinct-map, no_repeats}
use Rattle.gixp_matching.proofs.KeyLemmas.{Key, by_key, is_eq-key, is_eq-then, same_source_is, same_local_is}

pub same_number : (a : ℕ) → eq_by_cmp nat_cmp a a ≡ true
same_number a = search rules

apart_by : {K : Type 0} (eq : K → K → Bool) (f : K → ℕ) → ((x y : K) → eq x y ≡ true → f x ≡ f y) → (k : K) (ks : List K)
    → AllByRecursion (λ y. eq_by_cmp nat_cmp (f k) y ≡ false) (map f ks)
    → AllByRecursion (λ y. eq k y ≡ false) ks
apart_by eq f alike k [] h = tt
apart_by eq f alike k (x ∷ xs) h = (at (eq k x) refl, apart_by eq f alike k xs h.1)
  where
    at : (b : Bool) → eq k x ≡ b → eq k x ≡ false
    at true e = absurd (false≢true (sym h.0 ∙ ap (eq_by_cmp nat_cmp (f k)) (sym (alike k x e)) ∙ same_number (f k)))
    at false e = e

apart : {K : Type 0} (eq : K → K → Bool) (f : K → ℕ) → ((x y : K) → eq x y ≡ true → f x ≡ f y) → (ks : List K)
    → IsDistinct (eq_by_cmp nat_cmp) (map f ks) → IsDistinct eq ks
unfolding IsDistinct
apart eq f alike [] h = tt
apart eq f alike (k ∷ ks) h = (apart_by eq f alike k ks h.0, apart eq f alike ks h.1)

-- names with different hashes are different
pub names_apart : (names : List (List ℕ)) → IsDistinct (eq_by_cmp nat_cmp) (map digest names) → IsDistinct bytes_eq names
names_apart = apart bytes_eq digest (λ x y e. ap digest ((bytes_eq-Decides x y).0 e))

-- ---- the hashes of keys

-- two hashed keys are equal where the hashes and the keys are
abbrev pub numbered_eq : ℕ × (Source × Option (List ℕ)) → ℕ × (Source × Option (List ℕ)) → Bool
numbered_eq a b = eq_by_cmp nat_cmp a.0 b.0 && (source_eq a.1.0 b.1.0 && local_eq a.1.1 b.1.1)

-- the order of hashed keys
abbrev pub by_number : ℕ × Bor Key → ℕ × Bor Key → Ordering
by_number a b = ordering_then (nat_cmp a.0 b.0) (by_key a.1.now b.1.now)

pub numbered_tied : (x y : ℕ × Bor Key) → eq_by_cmp by_number x y ≡ numbered_eq (number_parts x) (number_parts y)
numbered_tied x y =
    is_eq-then (nat_cmp x.0 y.0) (by_key x.1.now y.1.now) ∙ ap (λ b. eq_by_cmp nat_cmp x.0 y.0 && b) (is_eq-key x.1.now y.1.now)

both_are_second : (a b : Bool) → (b ≡ true → a ≡ true) → (a && b) ≡ b
both_are_second true b h = refl
both_are_second false true h = h refl
both_are_second false false h = refl

-- equal mappings have equal hashes
same_parts_number : (a b : Mapped) → is_same a b ≡ true → parts_digest (parts a) ≡ parts_digest (parts b)
same_parts_number a b e =
    let both = and_parts _ _ e in
    ap (λ s. parts_digest (s, a.local)) (same_source_is a.source b.source both.0)
    ∙ ap (λ l. parts_digest (b.source, l)) (same_local_is a.local b.local both.1)

-- hashed keys are equal exactly where the mappings are
pub numbered_same : (a b : Mapped) → numbered_eq (with_digest (parts a)) (with_digest (parts b)) ≡ is_same a b
numbered_same a b = both_are_second _ (is_same a b) (λ e.
    ap (λ n. eq_by_cmp nat_cmp n (parts_digest (parts b))) (same_parts_number a b e) ∙ same_number (parts_digest (parts b)))

-- mappings with different hashes are all first ones
pub firsts_by_number : (ms : List Mapped) → IsDistinct (eq_by_cmp nat_cmp) (map (λ m. parts_digest (parts m)) ms) → firsts ms ≡ ms
firsts_by_number ms h =
    no_repeats ms (distinct-map is_same parts_eq parts (λ x y. refl) ms
    (apart is_same (λ m. parts_digest (parts m)) same_parts_number ms h))
