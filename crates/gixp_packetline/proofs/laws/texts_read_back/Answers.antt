use Rattle.gixp_packetline.specs.Frames.{ended}
use Rattle.gixp_packetline.specs.FrameText.{texts_of}
use Rattle.gixp_packetline.proofs.GrammarLemmas.{only_frames}
use Rattle.gixp_packetline.proofs.FrameTextLemmas.{are_read_back}
use Rattle.gixp_packetline.proofs.laws.texts_read_back.Goals as goal

pub returns : goal.returns
returns c = λ frames lawful. only_frames frames (texts_of frames) ended (are_read_back frames lawful)
