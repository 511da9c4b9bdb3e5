use Rattle.std.proofs.Common.{◌≡◌, length}
use Rattle.gixp_shallow.specs.Boundary.{with_updates}
use Rattle.gixp_shallow.proofs.boundary.apply_all.Given as goal

abbrev pub invariant-loop-update : goal.invariant-loop-update
invariant-loop-update l = with_updates l.set.keys l.rest ≡ with_updates l.fn.set.keys l.fn.updates

abbrev pub decreases-loop-update : goal.decreases-loop-update
decreases-loop-update l = length l.rest
