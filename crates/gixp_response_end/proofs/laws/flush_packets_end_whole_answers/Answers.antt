use Rattle.gixp_response_end.proofs.WholeLemmas.{stream_closed}
use Rattle.gixp_response_end.proofs.laws.flush_packets_end_whole_answers.Goals as goal

pub returns : goal.returns
returns c = λ frames first second after end h. stream_closed frames first second after end h
