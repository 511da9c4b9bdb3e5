use Rattle.std.proofs.Common.{length, ◌-◌}
use Rattle.gixp_packetline.specs.Packets.{Settling}
use Rattle.gixp_packetline.proofs.packets.Packets.fill_header.Given as goal

abbrev pub invariant-loop-head : goal.invariant-loop-head
invariant-loop-head g l = Settling g.R.Read.remaining l.fn.self l.self

abbrev pub decreases-loop-head : goal.decreases-loop-head
decreases-loop-head g l = 65520 - length l.self.window.pending
