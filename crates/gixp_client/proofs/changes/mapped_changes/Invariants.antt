use Rattle.std.proofs.Common.{◌≡◌, ◌++◌, length}
use Rattle.std.specs.List.{filter_map}
use Rattle.gixp_client.specs.Changes.{change_values, change_by}
use Rattle.gixp_client.proofs.changes.mapped_changes.Given as goal

abbrev pub invariant-loop-mapping : goal.invariant-loop-mapping
invariant-loop-mapping g l = change_values l.changes.items ++ filter_map (change_by (g.R.RefStore.refs l.refs)) l.rest
    ≡ filter_map (change_by (g.R.RefStore.refs l.refs)) l.mappings

abbrev pub decreases-loop-mapping : goal.decreases-loop-mapping
decreases-loop-mapping g l = length l.rest
