use Rattle.gixp_response_end.proofs.FrameEndLemmas.{stream_is}
use Rattle.gixp_response_end.proofs.laws.packet_lines_are_of_whole_answers.Goals as goal

pub returns : goal.returns
returns c = λ bytes frames end h. stream_is frames bytes end h
