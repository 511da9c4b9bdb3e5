-- A binary search among elements with rising keys finds the same as a scan.
use Rattle.std.proofs.Common.{◌≡◌, ℕ, zero, suc, ◌+◌, ◌-◌, ◌<◌, ◌≤◌, Bool, true, false, cond, if◌then◌else◌, List, [], ◌∷◌, ◌++◌, length, length-append, get_or, map, Some, None, Result, Ok, Err, refl, sym, ap, subst, ◌∙◌, inl, inr, arith}
use Rattle.std.specs.declared.cmp.Ordering.{Ordering}
use Rattle.std.specs.declared.cmp.Ordering.TheVariants.{Less, Equal, Greater}
use Rattle.std.specs.Ordering.{is_lt, is_eq, eq_by_cmp, ordering_reverse}
use Rattle.std.specs.Cmp.{IsTotalOrder, alike_right}
use Rattle.std.specs.FinMap as finite
use Rattle.std.specs.FinMap.{find}
use Rattle.std.specs.List.Sorted.{IsBinarySearchResult, IsSearchInRange, IsSortedBy}
use Rattle.std.proofs.lemmas.Bool.{cases_lt}
use Rattle.std.proofs.lemmas.List.{get_or_append_left}
use Rattle.std.proofs.Math.Seq.{get_or-append_seam}
use Rattle.std.proofs.lemmas.List.Sorted.{searchable_from_sorted}
use Rattle.gixp_watcher.specs.Sorted.{Rises, IsAboveLast}

module _ {X K : Type 0} {R : K → K → Ordering} (o : IsTotalOrder R) (key : X → K) where
  -- the keys still rise after one more element, above the last
  rises_more : (xs : List X) (y : X) → Rises R key xs → IsAboveLast R key xs y → Rises R key (xs ++ y ∷ [])
  rises_more xs y h last i j d lt within =
      let end : length (xs ++ y ∷ []) ≡ length xs + 1 = length-append xs (y ∷ []) in
      let below : i < length xs → R (key (get_or xs i d)) (key y) ≡ Less = λ inside. elim (cases_lt i (length xs - 1)) [
        | inl before ↦ o.trans _ _ _ (h i (length xs - 1) d before (omega arith)) (last d (omega arith))
        | inr at ↦ subst (λ n. R (key (get_or xs n d)) (key y) ≡ Less) {x = length xs - 1} (omega arith) (last d (omega arith))
      ] in
      elim (cases_lt j (length xs)) [
        | inl before ↦ rw (get_or_append_left xs (y ∷ []) d i (omega arith), get_or_append_left xs (y ∷ []) d j before) (h i j d lt before)
        | inr at ↦ subst (λ n. R (key (get_or (xs ++ y ∷ []) i d)) (key (get_or (xs ++ y ∷ []) n d)) ≡ Less) {x = length xs} (omega arith)
            (rw (get_or_append_left xs (y ∷ []) d i (omega arith), get_or-append_seam xs y [] d) (below (omega arith)))
      ]

  -- the same if the element is added only when an allocation succeeds
  pub rises_pushed : (is_ok : Bool) (xs : List X) (y : X) → Rises R key xs → IsAboveLast R key xs y → Rises R key (if is_ok then xs ++ y ∷ [] else xs)
  rises_pushed true xs y h last = rises_more xs y h last
  rises_pushed false xs y h last = h

  -- the keys rise, so the elements are sorted by them
  sorted : (xs : List X) → Rises R key xs → IsSortedBy (λ a b. is_lt (R (key a) (key b))) xs
  sorted xs h k d low within = ap is_lt (o.antisymm _ _ ∙ ap ordering_reverse (h k (k + 1) d (omega arith) within))

module _ {X K V : Type 0} {R : K → K → Ordering} (o : IsTotalOrder R) (key : X → K) (value : X → V) where
  abbrev entry : X → K × V
  entry x = (key x, value x)

  -- an element whose key equals q is the one that is found
  find_at : (xs : List X) (q : K) (i : ℕ) (d : X) → Rises R key xs → i < length xs → R (key (get_or xs i d)) q ≡ Equal
      → find R q (map entry xs) ≡ Some (value (get_or xs i d))
  find_at [] q i d h within e = absurd (omega arith)
  find_at (x ∷ xs) q zero d h within e =
      ap (λ r. cond (is_eq r) (Some (value x)) (find R q (map entry xs))) (o.antisymm q (key x) ∙ ap ordering_reverse e)
  find_at (x ∷ xs) q (suc i) d h within e =
      let first : R (key x) q ≡ Less = sym (alike_right o _ q (key x) e) ∙ h 0 (suc i) d (omega arith) within in
      ap (λ r. cond (is_eq r) (Some (value x)) (find R q (map entry xs))) (o.antisymm q (key x) ∙ ap ordering_reverse first)
      ∙ find_at xs q i d (λ a b z lt inside. h (suc a) (suc b) z (omega arith) (omega arith)) (omega arith) e

  -- without such an element none is found
  find_none : (xs : List X) (q : K) → ((k : ℕ) (d : X) → k < length xs → eq_by_cmp R q (key (get_or xs k d)) ≡ false) → find R q (map entry xs) ≡ None
  find_none [] q apart = refl
  find_none (x ∷ xs) q apart =
      ap (λ b. cond b (Some (value x)) (find R q (map entry xs))) (apart 0 x (omega arith))
      ∙ find_none xs q (λ k d within. apart (suc k) d (omega arith))

  module _ (xs : List X) (q : K) (h : Rises R key xs) where
    -- the map of the entries has the value at the index that the search found
    pub found : (i : ℕ) (d : X) → i < length xs → R (key (get_or xs i d)) q ≡ Equal
        → finite.get (finite.from_entries {R = R} (map entry xs)) q ≡ Some (value (get_or xs i d))
    found i d within e = finite.get-from_entries o (map entry xs) q ∙ find_at xs q i d h within e

    -- the map has no value for q if the search found none
    pub absent : (i : ℕ) → IsBinarySearchResult (λ x. R (key x) q) xs (Err i) → finite.get (finite.from_entries {R = R} (map entry xs)) q ≡ None
    absent i parted =
        let parts = parted (searchable_from_sorted o key xs q (sorted o key xs h)) in
        finite.get-from_entries o (map entry xs) q ∙ find_none xs q (λ k d within. elim (cases_lt k i) [
          | inl before ↦ ap is_eq (o.antisymm q _ ∙ ap ordering_reverse (parts.0 k d (omega arith) before))
          | inr following ↦ ap is_eq (o.antisymm q _ ∙ ap ordering_reverse (parts.1 k d following within))
        ])
