use Rattle.std.proofs.Common.{◌≡◌, drop}
use Rattle.std.specs.FinMap as finite
use Rattle.gixp_engine.specs.Handed.{objects_held}
use Rattle.gixp_engine.proofs.read.objects_of.Given as goal

abbrev pub invariant-loop-id : goal.invariant-loop-id
invariant-loop-id l = objects_held finite.empty l.haves ≡ objects_held l.objects (drop l.id-index l.haves)
