use Rattle.gixp_client.proofs.SpecLemmas.{sees_made}
use Rattle.gixp_client.proofs.by_id.seen_refs.Goals as goal

pub returns-then-are_ids : goal.returns-then-are_ids
returns-then-are_ids c = sees_made _ _ _ c.if-are_ids.true c.in-None.is c.new.ensures.items
