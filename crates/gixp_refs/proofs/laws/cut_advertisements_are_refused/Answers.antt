use Rattle.gixp_refs.proofs.RefusedGroupLemmas.{refusal_read}
use Rattle.gixp_refs.proofs.laws.cut_advertisements_are_refused.Goals as goal

pub returns : goal.returns
returns c = λ t texts end e h. refusal_read t texts end e h
