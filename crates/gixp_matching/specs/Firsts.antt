-- The first of equal mappings, as a flag for each mapping.
use Rattle.std.specs.Prelude.{◌≡◌, Bool, not, List, [], ◌∷◌, ◌++◌, filter, map, Option, Some, None, Vec}
use Rattle.std.specs.List.{list_any, zip}
use Rattle.std.specs.declared.alloc.Global.{Global}
use Rattle.gixp_matching.specs.Mappings.{Mapped, is_same, firsts}

-- no earlier mapping has the same source and local name
abbrev pub is_fresh : List Mapped → Mapped → Bool
is_fresh earlier m = not (list_any (λ e. is_same e m) earlier)

-- for each mapping, whether it is the first with its source and local name
abbrev pub first_flags : List Mapped → List Mapped → List Bool
first_flags earlier [] = []
first_flags earlier (m ∷ ms) = is_fresh earlier m ∷ first_flags (earlier ++ m ∷ []) ms

-- the elements whose flag is set
abbrev pub flagged : {A : Type 0} → List A → List Bool → List A
flagged xs flags = map (λ p. p.0) (filter (λ p. p.1) (zip xs flags))

-- a flag for each mapping, set for the first ones; or none where each mapping is a first one
abbrev pub FlagsFirsts : List Mapped → Option (Vec Bool Global) → Type 0
FlagsFirsts ms None = firsts ms ≡ ms
FlagsFirsts ms (Some flags) = flags.items ≡ first_flags [] ms
