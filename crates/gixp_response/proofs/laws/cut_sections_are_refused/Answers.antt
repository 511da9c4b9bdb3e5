use Rattle.gixp_response.proofs.RefusedSectionLemmas.{refused_read}
use Rattle.gixp_response.proofs.laws.cut_sections_are_refused.Goals as goal

pub returns : goal.returns
returns c = λ ps end ss e h. refused_read ps end ss e h
