use Rattle.std.proofs.Common.{◌≡◌, take, map}
use Rattle.gixp_matching.specs.Groups.{lent}
use Rattle.gixp_matching.specs.Validate.{sources_in}
use Rattle.gixp_matching.proofs.match_group.validate.conflicts.sources.Given as goal

abbrev pub invariant-group : goal.invariant-group
invariant-group g l = sources_in l.sources ≡ map (λ m. m.source) (take l.mapping-index (lent g.M.AsMapping.mapped l.group))
