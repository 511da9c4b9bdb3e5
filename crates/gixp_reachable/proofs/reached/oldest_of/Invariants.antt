use Rattle.std.proofs.Common.{◌≡◌, length}
use Rattle.gixp_reachable.specs.Reached.{oldest_from, oldest_of}
use Rattle.gixp_reachable.proofs.reached.oldest_of.Given as goal

abbrev pub invariant-loop-id : goal.invariant-loop-id
invariant-loop-id g l = oldest_from (g.F.Find.contents l.objects) l.oldest l.rest ≡ oldest_of (g.F.Find.contents l.objects) l.ids

abbrev pub decreases-loop-id : goal.decreases-loop-id
decreases-loop-id g l = length l.rest
