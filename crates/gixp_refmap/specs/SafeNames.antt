-- Mappings whose local name is valid (git-check-ref-format).
use Rattle.std.specs.Prelude.{◌≡◌, Bool, true, false, not, List, map, filter, Vec}
use Rattle.std.specs.Borrow.{Bor}
use Rattle.std.specs.Option.{option_map}
use Rattle.std.specs.declared.alloc.Global.{Global}
use Rattle.bstr.specs.Owned.{bstring_bytes}
use Rattle.gixp_matching.specs.Validation.{is_safe_local}
use Rattle.gixp_refmap.specs.declared.refmap.mapping.Mapping.{Mapping}

-- the mapping has a valid local name, or none
abbrev pub has_safe_name : Mapping → Bool
has_safe_name m = is_safe_local (option_map bstring_bytes m.local)

-- the mapping is safe or, with `false`, isn't
abbrev pub is_of_safety : Bool → Mapping → Bool
is_of_safety true m = has_safe_name m
is_of_safety false m = not (has_safe_name m)

-- the values of references
abbrev pub pointed_to : List (Bor Mapping) → List Mapping
pointed_to ms = map (λ (m : Bor Mapping). m.now) ms

-- the mappings that are safe, and the others, both in order
abbrev pub PartsByName : List Mapping → Vec (Bor Mapping) Global → Vec (Bor Mapping) Global → Type 0
PartsByName ms safe others = (pointed_to safe.items ≡ filter (is_of_safety true) ms)
    × (pointed_to others.items ≡ filter (is_of_safety false) ms)
