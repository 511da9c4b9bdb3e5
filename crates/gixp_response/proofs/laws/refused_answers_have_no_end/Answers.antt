use Rattle.gixp_response.proofs.RefusedBeginningLemmas.{refusal_found}
use Rattle.gixp_response.proofs.laws.refused_answers_have_no_end.Goals as goal

pub returns : goal.returns
returns c = λ version a p e h. refusal_found version a p e h
