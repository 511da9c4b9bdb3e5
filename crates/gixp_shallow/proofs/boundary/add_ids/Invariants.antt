use Rattle.std.proofs.Common.{◌≡◌, length}
use Rattle.gixp_shallow.specs.Boundary.{with_ids}
use Rattle.gixp_shallow.proofs.boundary.add_ids.Given as goal

abbrev pub invariant-loop-id : goal.invariant-loop-id
invariant-loop-id l = with_ids l.set.keys l.rest ≡ with_ids l.fn.set.keys l.fn.ids

abbrev pub decreases-loop-id : goal.decreases-loop-id
decreases-loop-id l = length l.rest
