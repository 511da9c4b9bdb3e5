use Rattle.std.proofs.Common.{map}
use Rattle.gixp_refs.specs.Ref.{ref_value}
use Rattle.gixp_refs.specs.Refs.{RefsSoFar}
use Rattle.gixp_refs.proofs.handshake.refs.from_v2_refs.Given as goal

abbrev pub invariant-loop-refs : goal.invariant-loop-refs
invariant-loop-refs g l = RefsSoFar (g.R.ExtendedBufRead.reading l.fn.in_refs) (g.R.ExtendedBufRead.reading l.in_refs)
    (map ref_value l.refs.items)

abbrev pub decreases-loop-refs : goal.decreases-loop-refs
decreases-loop-refs g l = (g.R.ExtendedBufRead.reading l.in_refs).left
