-- The loop of `complete`.
use Rattle.std.proofs.Common.{map, not}
use Rattle.std.specs.Prelude.{All}
use Rattle.gixp_hash.specs.declared.object_id.ObjectId.{ObjectId}
use Rattle.gixp_graph.specs.declared.objects.CommitData.{CommitData}
use Rattle.gixp_graph.specs.Object.{commit_at}
use Rattle.gixp_test_lower.specs.Listed.{objects_of}
use Rattle.gixp_graph.specs.Complete.{IsComplete}
use Rattle.gixp_graph.specs.Walk.{count}
use Rattle.gixp_test_lower.proofs.SlowLemmas.{holds}
use Rattle.gixp_test_lower.proofs.graph.slow.complete.Given as goal

-- the known commits are complete
abbrev pub invariant-loop-id : goal.invariant-loop-id
invariant-loop-id l = All (IsComplete (commit_at (objects_of l.commits.entries)) l.tips l.cutoff) l.known.items

-- the number of commits that aren't known
abbrev pub decreases-loop-id : goal.decreases-loop-id
decreases-loop-id l = count (λ q. not (holds l.known.items q)) (map (λ (e : ObjectId × CommitData). e.0) l.commits.entries)
