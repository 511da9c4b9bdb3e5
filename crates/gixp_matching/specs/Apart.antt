-- The parts of mappings that are compared.
use Rattle.std.specs.Prelude.{ℕ, List, Option, option_to_list}
use Rattle.std.specs.Cmp.Lexicographic.{slice_cmp}
use Rattle.std.specs.declared.cmp.Ordering.{Ordering}
use Rattle.std.specs.List.{flat_map}
use Rattle.std.specs.Ordering.{nat_cmp}
use Rattle.std.specs.Option.{option_map}
use Rattle.gixp_matching.specs.declared.match_group.key.KeyBytes.{KeyBytes}
use Rattle.gixp_matching.specs.declared.match_group.key.KeySource.{KeySource}
use Rattle.gixp_matching.specs.Mappings.{Source, Mapped}
use Rattle.gixp_matching.specs.MatchGroup.{key_bytes, key_source}

-- the order by bytes
abbrev pub by_bytes : KeyBytes → KeyBytes → Ordering
by_bytes a b = slice_cmp nat_cmp (key_bytes a) (key_bytes b)

-- the source and the local name of a mapping
abbrev pub parts : Mapped → Source × Option (List ℕ)
parts m = (m.source, m.local)

-- the source and the local name of a key
abbrev pub key_parts : KeySource × Option KeyBytes → Source × Option (List ℕ)
key_parts key = (key_source key.0, option_map key_bytes key.1)

-- the local names of mappings, in their order
abbrev pub locals : List Mapped → List (List ℕ)
locals ms = flat_map (λ m. option_to_list m.local) ms
