-- The lines so far were written.
use Rattle.std.proofs.Common.{take}
use Rattle.gixp_packetline.specs.FrameText.{texts_of}
use Rattle.gixp_transport.specs.Transport.{Wrote}
use Rattle.gixp_requests.specs.Line.{all_line_frames}
use Rattle.gixp_requests.proofs.fetch.arguments.part.write_lines.Given as goal

abbrev pub invariant-loop-line : goal.invariant-loop-line
invariant-loop-line g l =
    Wrote (g.T.ExtendedBufRead.reading l.fn.transport) (g.T.ExtendedBufRead.reading l.transport)
    (texts_of (all_line_frames (take l.line-index l.lines)))
