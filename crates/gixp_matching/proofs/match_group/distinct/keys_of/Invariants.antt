use Rattle.std.proofs.Common.{◌≡◌, take, map}
use Rattle.gixp_matching.specs.Apart.{parts, key_parts}
use Rattle.gixp_matching.proofs.match_group.distinct.keys_of.Given as goal

abbrev pub invariant-mappings : goal.invariant-mappings
invariant-mappings g l = map key_parts l.keys.items ≡ map parts (take l.mapping-index (map g.M.AsMapping.mapped l.mappings))
