use Rattle.gixp_response.proofs.RefusedSectionLemmas.{refused_found}
use Rattle.gixp_response.proofs.laws.refused_sections_are_cut.Goals as goal

pub returns : goal.returns
returns c = λ p e h. refused_found p.list p.end e h
