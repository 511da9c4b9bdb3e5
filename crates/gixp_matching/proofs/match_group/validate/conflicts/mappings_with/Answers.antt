use Rattle.gixp_matching.specs.Groups.{lent}
use Rattle.gixp_matching.specs.Validation.{has_local}
use Rattle.gixp_matching.proofs.FoundLemmas.{kept_more}
use Rattle.gixp_matching.proofs.match_group.validate.conflicts.mappings_with.Goals as goal

pub mappings-preserved : goal.mappings-preserved
mappings-preserved g c =
    let f = g.M.AsMapping.mapped in
    kept_more (λ m. f m.now) (has_local c.args.name.now) (lent f c.mappings.own.items) (lent f c.push_with.new.own.items)
    c.args.mappings.now c.mappings.mapping-index c.mapping-item.result c.mapping-item.is c.mappings-test.true c.mappings.invariant
    c.in_ok-push_with.ensures
