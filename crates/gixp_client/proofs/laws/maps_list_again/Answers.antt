use Rattle.gixp_client.proofs.MapLemmas.{maps_refs_here, maps_ids, lists_for_map}
use Rattle.gixp_client.proofs.laws.maps_list_again.Goals as goal

pub returns-clause-here : goal.returns-clause-here
returns-clause-here c = maps_refs_here

pub returns-clause-again : goal.returns-clause-again
returns-clause-again c = lists_for_map

pub returns-clause-ids : goal.returns-clause-ids
returns-clause-ids c = maps_ids
