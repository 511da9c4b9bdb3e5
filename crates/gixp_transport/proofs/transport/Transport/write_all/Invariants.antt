use Rattle.std.proofs.Common.{take}
use Rattle.gixp_packetline.specs.FrameText.{texts_of}
use Rattle.gixp_transport.specs.Message.{request_frames}
use Rattle.gixp_transport.specs.Transport.{Wrote}
use Rattle.gixp_transport.proofs.transport.Transport.write_all.Given as goal

abbrev pub invariant-loop-message : goal.invariant-loop-message
invariant-loop-message g l =
    Wrote (g.Self.ExtendedBufRead.reading l.fn.self) (g.Self.ExtendedBufRead.reading l.self)
    (texts_of (request_frames (take l.message-index l.messages)))
