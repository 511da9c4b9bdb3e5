-- Keys in strictly ascending order.
use Rattle.std.specs.Prelude.{◌≡◌, ⊤, List, [], ◌∷◌, ◌++◌, Option, Some, None}
use Rattle.std.specs.List.Sorted.{IsStrictlySortedBy}
use Rattle.std.specs.declared.cmp.Ordering.{Ordering}
use Rattle.std.specs.declared.cmp.Ordering.TheVariants.{Less}

module _ {K : Type 0} (R : K → K → Ordering) where
  -- a key is above the last one, if there is one
  abbrev pub IsAbove : Option K → K → Type 0
  IsAbove None key = ⊤
  IsAbove (Some last) key = R last key ≡ Less

  -- the keys are strictly ascending up to the last one; without a last one there are none
  abbrev pub RisesTo : List K → Option K → Type 0
  RisesTo keys None = keys ≡ []
  RisesTo keys (Some last) = ((front : List K) × (keys ≡ front ++ last ∷ [])) × IsStrictlySortedBy R keys
