-- The only positive refspec of a list.
use Rattle.std.specs.Prelude.{ℕ, ◌≡◌, ◌+◌, ◌<◌, Bool, false, not, List, [], ◌∷◌, length, drop, filter, Option, Some, None}
use Rattle.std.specs.List.{list_any, position}
use Rattle.gixp_refspec.specs.declared.spec.RefSpecRef.{RefSpecRef}
use Rattle.gixp_refspec.specs.Spec.{is_negative}

-- a refspec isn't negative
abbrev pub is_positive : RefSpecRef → Bool
is_positive s = not (is_negative s.sign)

-- the refspec at this index is positive, and no other is
pub record IsOnlyPositive (specs : List RefSpecRef) (i : ℕ) : Type 0 where
  pub within : i < length specs
  pub first : position is_positive specs ≡ Some i
  pub last : list_any is_positive (drop (i + 1) specs) ≡ false

-- the index of the only positive refspec; none where none is positive, or several are
abbrev pub IsPlaceOfOnly : List RefSpecRef → Option ℕ → Type 0
IsPlaceOfOnly specs (Some i) = IsOnlyPositive specs i
IsPlaceOfOnly specs None = (s : RefSpecRef) → ¬ (filter is_positive specs ≡ s ∷ [])
