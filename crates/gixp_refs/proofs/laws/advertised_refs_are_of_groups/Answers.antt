use Rattle.gixp_refs.proofs.GroupLemmas.{groups_found}
use Rattle.gixp_refs.proofs.laws.advertised_refs_are_of_groups.Goals as goal

pub returns : goal.returns
returns c = λ t texts values h. groups_found t texts values h
