-- The commits of the refs so far.
use Rattle.std.proofs.Common.{take}
use Rattle.gixp_fetch_common.specs.Tips.{AddsTips}
use Rattle.gixp_fetch_common.proofs.repository.tips_of.Given as goal

abbrev pub invariant-loop-id : goal.invariant-loop-id
invariant-loop-id l = AddsTips l.objects (take l.id-index l.id-items) l.initial.tips l.tips
