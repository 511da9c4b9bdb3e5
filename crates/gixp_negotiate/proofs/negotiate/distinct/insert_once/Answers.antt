use Rattle.gixp_negotiate.proofs.DistinctLemmas.{index_more}
use Rattle.gixp_negotiate.proofs.negotiate.distinct.insert_once.Goals as goal

pub returns-in-Ok-clause-indexed : goal.returns-in-Ok-clause-indexed
returns-in-Ok-clause-indexed c =
    rw c.in_ok-push.ensures.items
    (index_more c.args.seen.now.keys c.insert.new.self.keys c.args.ids.now.items c.args.id c.requires c.in-Ok.ensures.updates.0)
