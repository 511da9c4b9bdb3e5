use Rattle.gixp_response.proofs.RefusedBeginningLemmas.{refusal_read}
use Rattle.gixp_response.proofs.laws.answers_without_end_are_refused.Goals as goal

pub returns : goal.returns
returns c = λ version a p e h. refusal_read version a p e h
