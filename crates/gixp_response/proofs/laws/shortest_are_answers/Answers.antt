use Rattle.gixp_response.proofs.BeginningGrammarLemmas.{shortest_read}
use Rattle.gixp_response.proofs.laws.shortest_are_answers.Goals as goal

pub returns : goal.returns
returns c = λ version a p value rest h. shortest_read version a p value rest h
