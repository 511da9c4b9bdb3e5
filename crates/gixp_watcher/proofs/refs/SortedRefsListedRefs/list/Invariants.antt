use Rattle.std.proofs.Common.{◌≡◌, ◌++◌, map, length}
use Rattle.gix_protocol.specs.Changes.{listed_value}
use Rattle.gixp_watcher.specs.Sorted.{name_and_id}
use Rattle.gixp_watcher.proofs.refs.SortedRefsListedRefs.list.Given as goal

abbrev pub invariant-loop-row : goal.invariant-loop-row
invariant-loop-row l = map listed_value l.refs.items ++ map name_and_id l.rest ≡ map name_and_id l.self.rows.items

abbrev pub decreases-loop-row : goal.decreases-loop-row
decreases-loop-row l = length l.rest
