use Rattle.gixp_refs.proofs.GroupLemmas.{groups_read}
use Rattle.gixp_refs.proofs.laws.groups_are_advertised_refs.Goals as goal

pub returns : goal.returns
returns c = λ t texts gs values h k. groups_read t texts gs values h k
