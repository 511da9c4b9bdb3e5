use Rattle.std.proofs.Common.{◌≡◌, List, take, map}
use Rattle.gixp_matching.specs.Apart.{parts, key_parts}
use Rattle.gixp_matching.specs.Rising.{RisesTo}
use Rattle.gixp_matching.proofs.KeyLemmas.{Key, by_key}
use Rattle.gixp_matching.proofs.match_group.distinct.are_in_order.Given as goal

abbrev pub invariant-mappings : goal.invariant-mappings
invariant-mappings g l =
    (keys : List Key) × (map key_parts keys ≡ map parts (take l.mapping-index
    (map g.M.AsMapping.mapped l.mappings))) × RisesTo by_key keys l.last
