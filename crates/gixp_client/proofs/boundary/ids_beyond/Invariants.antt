use Rattle.std.proofs.Common.{◌≡◌, ◌++◌, length}
use Rattle.gixp_client.specs.Boundaries.{ids_beyond}
use Rattle.gixp_client.proofs.boundary.ids_beyond.Given as goal

abbrev pub invariant-loop-id : goal.invariant-loop-id
invariant-loop-id l = l.found.items ++ ids_beyond l.rest l.others ≡ ids_beyond l.ids l.others

abbrev pub decreases-loop-id : goal.decreases-loop-id
decreases-loop-id l = length l.rest
