use Rattle.gixp_packetline.proofs.GrammarLemmas.{are_frames}
use Rattle.gixp_packetline.proofs.laws.frames_are_grammar.Goals as goal

pub returns : goal.returns
returns c = are_frames
