use Rattle.gixp_matching.specs.Validation.{removed_at, is_partial}
use Rattle.gixp_matching.specs.MatchGroup.{values}
use Rattle.gixp_matching.specs.Validate.{fixes_in}
use Rattle.gixp_matching.proofs.ListLemmas.{filtered_more}
use Rattle.gixp_matching.proofs.match_group.validate.fixes.fixes_of.Goals as goal

pub mappings-preserved : goal.mappings-preserved
mappings-preserved g c =
    filtered_more g.M.AsMapping.mapped is_partial (removed_at (values c.args.specs.now)) (fixes_in c.mappings.found)
    (fixes_in c.push_fix.new.found)
    c.args.mappings.now c.mappings.mapping-index c.mapping-item.result c.mapping-item.is c.mappings-test.true c.mappings.invariant
    c.in_ok-push_fix.ensures
