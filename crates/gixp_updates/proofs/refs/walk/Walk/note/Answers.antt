use Rattle.std.proofs.Common.{◌∙◌}
use Rattle.std.specs.Ordering.{eq_by_cmp}
use Rattle.std.specs.BTreeSet as tree
use Rattle.gixp_hash.specs.ObjectId.{id_cmp}
use Rattle.gixp_updates.proofs.LookLemmas.{as_or}
use Rattle.gixp_updates.proofs.refs.walk.Walk.note.Goals as goal

pub returns-in-Ok-clause-ok : goal.returns-in-Ok-clause-ok
returns-in-Ok-clause-ok c q = c.in-Ok.ensures.updates.0 q
    ∙ as_or (eq_by_cmp id_cmp c.args.id.now q) (tree.contains id_cmp c.args.self.now.seen q)
