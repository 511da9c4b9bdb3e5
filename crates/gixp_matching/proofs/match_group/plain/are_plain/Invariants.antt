-- Keys and local names ascend so far; no local name so far is partial.
use Rattle.std.proofs.Common.{◌≡◌, false, List, take, map}
use Rattle.std.specs.List.{list_any}
use Rattle.gixp_matching.specs.declared.match_group.key.KeyBytes.{KeyBytes}
use Rattle.gixp_matching.specs.Apart.{by_bytes, locals, parts, key_parts}
use Rattle.gixp_matching.specs.MatchGroup.{key_bytes}
use Rattle.gixp_matching.specs.Rising.{RisesTo}
use Rattle.gixp_matching.specs.Validation.{is_partial}
use Rattle.gixp_matching.proofs.KeyLemmas.{Key, by_key}
use Rattle.gixp_matching.proofs.match_group.plain.are_plain.Given as goal

abbrev pub invariant-mappings : goal.invariant-mappings
invariant-mappings g l =
    let front = take l.mapping-index (map g.M.AsMapping.mapped l.mappings) in
    ((keys : List Key) × (map key_parts keys ≡ map parts front) × RisesTo by_key keys l.last)
    × ((names : List KeyBytes) × (map key_bytes names ≡ locals front) × RisesTo by_bytes names l.last_local)
    × (list_any is_partial front ≡ false)
