use Rattle.std.proofs.Common.{◌≡◌, take}
use Rattle.std.specs.Prelude.{filter}
use Rattle.gixp_matching.specs.Groups.{lent}
use Rattle.gixp_matching.specs.Validation.{has_local}
use Rattle.gixp_matching.proofs.match_group.validate.conflicts.mappings_with.Given as goal

abbrev pub invariant-mappings : goal.invariant-mappings
invariant-mappings g l =
    lent g.M.AsMapping.mapped l.own.items ≡ filter (has_local l.name) (take l.mapping-index (lent g.M.AsMapping.mapped l.mappings))
