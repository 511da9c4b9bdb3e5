use Rattle.std.proofs.Common.{◌≡◌, take, map}
use Rattle.std.specs.Prelude.{filter}
use Rattle.gixp_matching.specs.Validation.{removed_at, is_partial}
use Rattle.gixp_matching.specs.MatchGroup.{values}
use Rattle.gixp_matching.specs.Validate.{fixes_in}
use Rattle.gixp_matching.proofs.match_group.validate.fixes.fixes_of.Given as goal

abbrev pub invariant-mappings : goal.invariant-mappings
invariant-mappings g l =
    fixes_in l.found ≡ map (removed_at (values l.specs)) (filter is_partial (take l.mapping-index (map g.M.AsMapping.mapped l.mappings)))
