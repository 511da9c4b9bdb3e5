use Rattle.std.proofs.Common.{◌≡◌, take, map}
use Rattle.gixp_matching.specs.Apart.{parts}
use Rattle.gixp_matching.specs.Digest.{parts_digest}
use Rattle.gixp_matching.proofs.match_group.distinct.key_digests.Given as goal

abbrev pub invariant-mappings : goal.invariant-mappings
invariant-mappings g l = l.digests.items ≡ map (λ m. parts_digest (parts m)) (take l.mapping-index (map g.M.AsMapping.mapped l.mappings))
