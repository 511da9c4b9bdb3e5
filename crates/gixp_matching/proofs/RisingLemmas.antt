-- One more key above the last one.
use Rattle.std.proofs.Common.{◌≡◌, List, [], ◌∷◌, ◌++◌, Option, Some, None, Ordering, Less, ap, sym, subst, refl}
use Rattle.std.specs.Cmp.{IsTotalOrder}
use Rattle.std.specs.List.{AllByRecursion}
use Rattle.std.specs.List.Sorted.{IsStrictlySortedBy}
use Rattle.gixp_matching.specs.Rising.{IsAbove, RisesTo}

module _ {K : Type 0} {R : K → K → Ordering} (o : IsTotalOrder R) where
  -- a key below all others is below a key that is above the last
  all_below_more : (x last key : K) (front : List K) → AllByRecursion (λ y. R x y ≡ Less) (front ++ last ∷ []) → R last key ≡ Less
      → AllByRecursion (λ y. R x y ≡ Less) ((front ++ last ∷ []) ++ key ∷ [])
  all_below_more x last key [] h above = (h.0, (o.trans x last key h.0 above, tt))
  all_below_more x last key (y ∷ front) h above = (h.0, all_below_more x last key front h.1 above)

  sorted_more : (last key : K) (front : List K) → IsStrictlySortedBy R (front ++ last ∷ []) → R last key ≡ Less
      → IsStrictlySortedBy R ((front ++ last ∷ []) ++ key ∷ [])
  unfolding IsStrictlySortedBy
  sorted_more last key [] h above = ((above, tt), (tt, tt))
  sorted_more last key (x ∷ front) h above = (all_below_more x last key front h.0 above, sorted_more last key front h.1 above)

  only_one : (key : K) → IsStrictlySortedBy R (key ∷ [])
  unfolding IsStrictlySortedBy
  only_one key = (tt, tt)

  -- one more key
  pub rises_more : (last : Option K) (key : K) → IsAbove R last key → (keys : List K) → RisesTo R keys last
      → RisesTo R (keys ++ key ∷ []) (Some key)
  rises_more None key above keys h =
      (([], ap (λ ks. ks ++ key ∷ []) h), subst (λ ks. IsStrictlySortedBy R (ks ++ key ∷ [])) (sym h) (only_one key))
  rises_more (Some last) key above keys h = (
    (keys, refl),
    subst (λ ks. IsStrictlySortedBy R (ks ++ key ∷ [])) (sym h.0.1)
        (sorted_more last key h.0.0 (subst (IsStrictlySortedBy R) h.0.1 h.1) above),
  )

-- keys that ascend to a last one are sorted
pub sorted_from_rising : {K : Type 0} (R : K → K → Ordering) (keys : List K) (last : Option K) → RisesTo R keys last
    → IsStrictlySortedBy R keys
unfolding IsStrictlySortedBy
sorted_from_rising R keys None h = subst (IsStrictlySortedBy R) (sym h) tt
sorted_from_rising R keys (Some last) h = h.1
