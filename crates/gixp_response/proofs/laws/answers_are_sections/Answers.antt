use Rattle.gixp_response.proofs.SectionGrammarLemmas.{sections_found}
use Rattle.gixp_response.proofs.laws.answers_are_sections.Goals as goal

pub returns : goal.returns
returns c = λ p value rest h. sections_found p.list p.end value rest h
