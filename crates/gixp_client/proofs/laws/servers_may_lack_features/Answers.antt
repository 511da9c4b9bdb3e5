use Rattle.gixp_client.proofs.ArgumentLemmas.{tags_never_fail, no_refs_by_name}
use Rattle.gixp_client.proofs.laws.servers_may_lack_features.Goals as goal

pub returns-clause-tags : goal.returns-clause-tags
returns-clause-tags c = tags_never_fail

pub returns-clause-ids : goal.returns-clause-ids
returns-clause-ids c = no_refs_by_name
