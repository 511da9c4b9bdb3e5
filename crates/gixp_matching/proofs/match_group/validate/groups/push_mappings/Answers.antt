use Rattle.gixp_matching.proofs.FoundLemmas.{mappings_more}
use Rattle.gixp_matching.proofs.match_group.validate.groups.push_mappings.Goals as goal

pub rows-preserved : goal.rows-preserved
rows-preserved g c =
    mappings_more c.args.mappings.now.items c.rows.mappings.items c.push.new.self.items c.args.rows.now c.rows.row-index c.row-item.result
    c.row-item.is c.rows-test.true c.rows.invariant c.in_ok-push.ensures.items
