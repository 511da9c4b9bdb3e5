use Rattle.std.proofs.Common.{map}
use Rattle.gixp_matching.specs.Groups.{shown, numbered}
use Rattle.gixp_matching.proofs.ListLemmas.{gathered_more}
use Rattle.gixp_matching.proofs.match_group.validate.groups.rows_of.Goals as goal

pub mappings-preserved : goal.mappings-preserved
mappings-preserved g c =
    let f = g.M.AsMapping.mapped in
    gathered_more f numbered (map (shown f) c.mappings.rows.items) (map (shown f) c.push_named.new.rows.items)
    c.args.mappings.now c.mappings.mapping-index c.mapping-item.result c.mapping-item.is c.mappings-test.true c.mappings.invariant
    c.in_ok-push_named.ensures
