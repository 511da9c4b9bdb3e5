use Rattle.std.proofs.Common.{◌++◌, length, flat_map}
use Rattle.gixp_packetline.specs.Frames.{frames_of}
use Rattle.gixp_planner.specs.Text.{frame_shown}
use Rattle.gixp_planner.specs.Written.{WritesPart}
use Rattle.gixp_planner.proofs.print.write_packet_lines.Given as goal

abbrev pub invariant-lines : goal.invariant-lines
invariant-lines g l = WritesPart (g.W.Write.contents l.fn.writer) (g.W.Write.contents l.writer)
    (l.pending.items ++ flat_map frame_shown (frames_of l.rest).list)
    (l.fn.pending.items ++ flat_map frame_shown (frames_of l.fn.request).list)

abbrev pub decreases-lines : goal.decreases-lines
decreases-lines g l = length l.rest
