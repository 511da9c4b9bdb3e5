use Rattle.gixp_packetline.proofs.GrammarLemmas.{only_frames}
use Rattle.gixp_packetline.proofs.laws.no_other_frames_are.Goals as goal

pub returns : goal.returns
returns c = λ bytes frames end h. only_frames frames bytes end h
