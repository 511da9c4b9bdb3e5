use Rattle.gixp_refs.proofs.RefusedGroupLemmas.{refusal_found}
use Rattle.gixp_refs.proofs.laws.refused_advertisements_are_cut.Goals as goal

pub returns : goal.returns
returns c = λ t texts end e h. refusal_found t texts end e h
