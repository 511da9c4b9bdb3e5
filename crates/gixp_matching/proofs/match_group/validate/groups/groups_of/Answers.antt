-- The order of the groups doesn't matter.
use Rattle.gixp_matching.proofs.GroupLemmas.{groups_moved}
use Rattle.gixp_matching.proofs.match_group.validate.groups.groups_of.Goals as goal

pub returns : goal.returns
returns g c =
    groups_moved c.args.rows.now c.in_ok-groups.groups.items c.sort_groups.new.groups.items c.sort_groups.ensures c.in_ok-groups.ensures
