-- The haves so far were written.
use Rattle.std.proofs.Common.{take}
use Rattle.gixp_packetline.specs.FrameText.{texts_of}
use Rattle.gixp_transport.specs.Transport.{Wrote}
use Rattle.gixp_requests.specs.Line.{have_frames}
use Rattle.gixp_requests.proofs.fetch.arguments.part.write_haves.Given as goal

abbrev pub invariant-loop-id : goal.invariant-loop-id
invariant-loop-id g l =
    Wrote (g.T.ExtendedBufRead.reading l.fn.transport) (g.T.ExtendedBufRead.reading l.transport)
    (texts_of (have_frames (take l.id-index l.ids)))
