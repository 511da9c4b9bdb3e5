-- The loop of `unknown_parent`.
use Rattle.std.proofs.Common.{take}
use Rattle.std.specs.Prelude.{All}
use Rattle.gixp_graph.specs.Object.{commit_at}
use Rattle.gixp_test_lower.specs.Listed.{objects_of}
use Rattle.gixp_test_lower.specs.Slow.{ParentsAreKnown}
use Rattle.gixp_test_lower.proofs.graph.slow.unknown_parent.Given as goal

-- the parents of the commits so far are known
abbrev pub invariant-loop-id : goal.invariant-loop-id
invariant-loop-id l = All (ParentsAreKnown (commit_at (objects_of l.commits.entries)) l.fn.cutoff l.known) (take l.id-index l.known)
