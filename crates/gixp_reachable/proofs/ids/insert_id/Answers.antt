use Rattle.gixp_reachable.proofs.IdLemmas.{id_added}
use Rattle.gixp_reachable.proofs.ids.insert_id.Goals as goal

pub returns : goal.returns
returns c = λ q. id_added c.args.set.now c.insert.new.self c.args.id q c.in_ok-insert.ensures.updates
