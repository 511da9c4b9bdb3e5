use Rattle.std.proofs.Common.{◌≡◌, List, take, map}
use Rattle.gixp_matching.specs.declared.match_group.key.KeyBytes.{KeyBytes}
use Rattle.gixp_matching.specs.Apart.{by_bytes, locals}
use Rattle.gixp_matching.specs.MatchGroup.{key_bytes}
use Rattle.gixp_matching.specs.Rising.{RisesTo}
use Rattle.gixp_matching.proofs.match_group.validate.apart.are_in_order.Given as goal

abbrev pub invariant-mappings : goal.invariant-mappings
invariant-mappings g l =
    (keys : List KeyBytes) × (map key_bytes keys ≡ locals (take l.mapping-index (map g.M.AsMapping.mapped l.mappings)))
    × RisesTo by_bytes keys l.last
