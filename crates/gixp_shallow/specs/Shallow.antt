-- How a fetch changes the shallow boundary.
use Rattle.std.specs.Prelude.{◌==◌, ℕ, ℤ, Bool, true, false, List, map, Option}
use Rattle.std.specs.Int.NonZero.{non_zero_u32_get}
use Rattle.gixp_refspec.specs.PartialName.{name_bytes}
use Rattle.gixp_shallow.specs.declared.shallow.Shallow.{Shallow}
use Rattle.gixp_shallow.specs.declared.shallow.Shallow.TheVariants.{NoChange, DepthAtRemote, Deepen, Since, Exclude}

-- the change as plain data
pub data ShallowValue : Type 0 where
  no_change : ShallowValue
  at_remote : (depth : ℕ) → ShallowValue
  deepens : (depth : ℕ) → ShallowValue
  since : (cutoff : ℤ) → ShallowValue
  excludes : (names : List (List ℕ)) → (cutoff : Option ℤ) → ShallowValue

abbrev pub shallow_value : Shallow → ShallowValue
shallow_value NoChange = no_change
shallow_value (DepthAtRemote depth) = at_remote (non_zero_u32_get depth)
shallow_value (Deepen depth) = deepens depth
shallow_value (Since cutoff) = since cutoff
shallow_value (Exclude refs cutoff) = excludes (map name_bytes refs.items) cutoff

abbrev pub is_no_change : Shallow → Bool
is_no_change NoChange = true
is_no_change _ = false

abbrev pub is_deepen_zero : Shallow → Bool
is_deepen_zero (Deepen depth) = depth == 0
is_deepen_zero _ = false
