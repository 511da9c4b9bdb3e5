-- The loop of `unknown`.
use Rattle.std.proofs.Common.{take}
use Rattle.gixp_graph.specs.Object.{commit_at}
use Rattle.gixp_test_lower.specs.Listed.{objects_of}
use Rattle.gixp_test_lower.specs.Slow.{AreKnown}
use Rattle.gixp_test_lower.proofs.graph.slow.unknown.Given as goal

-- the existing commits so far are known
abbrev pub invariant-loop-id : goal.invariant-loop-id
invariant-loop-id l = AreKnown (commit_at (objects_of l.commits.entries)) l.known (take l.id-index l.ids)
