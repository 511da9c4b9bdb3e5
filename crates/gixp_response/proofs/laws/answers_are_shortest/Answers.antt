use Rattle.gixp_response.proofs.BeginningGrammarLemmas.{shortest_found}
use Rattle.gixp_response.proofs.laws.answers_are_shortest.Goals as goal

pub returns : goal.returns
returns c = λ version a p value rest h. shortest_found version a p value rest h
