-- The parts so far were written.
use Rattle.std.proofs.Common.{take, map}
use Rattle.gixp_packetline.specs.FrameText.{texts_of}
use Rattle.gixp_transport.specs.Message.{value_frame}
use Rattle.gixp_transport.specs.Transport.{Wrote}
use Rattle.gixp_requests.specs.Line.{parts_values}
use Rattle.gixp_requests.proofs.fetch.arguments.part.write_parts.Given as goal

abbrev pub invariant-loop-part : goal.invariant-loop-part
invariant-loop-part g l =
    Wrote (g.T.ExtendedBufRead.reading l.fn.transport) (g.T.ExtendedBufRead.reading l.transport)
    (texts_of (map value_frame (parts_values (take l.part-index l.parts))))
