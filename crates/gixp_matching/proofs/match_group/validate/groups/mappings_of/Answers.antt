use Rattle.std.proofs.Common.{[], ◌++◌, ◌∙◌, ap}
use Rattle.gixp_matching.specs.Groups.{mappings_of}
use Rattle.gixp_matching.proofs.ListLemmas.{gathered_here}
use Rattle.gixp_matching.proofs.match_group.validate.groups.mappings_of.Goals as goal

pub groups-preserved : goal.groups-preserved
groups-preserved g c =
    gathered_here (λ group. mappings_of group.rows.now) [] c.groups.mappings.items c.push_mappings.new.mappings.items c.args.groups.now
    c.groups.group-index c.group-item.result c.groups-test.true c.groups.invariant
    (c.in_ok-push_mappings.ensures ∙ ap (λ group. c.groups.mappings.items ++ mappings_of group.rows.now) c.group-item.is)
