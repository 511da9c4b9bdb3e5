use Rattle.gixp_response.proofs.SectionGrammarLemmas.{sections_read}
use Rattle.gixp_response.proofs.laws.sections_are_answers.Goals as goal

pub returns : goal.returns
returns c = λ ps end ss last rest h. sections_read ps ss last rest end h
