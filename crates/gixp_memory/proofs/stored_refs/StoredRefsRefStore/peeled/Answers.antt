use Rattle.std.proofs.Common.{◌∙◌, ap}
use Rattle.gixp_memory.specs.Repository.{peeled_ids}
use Rattle.gixp_memory.proofs.StoredLemmas.{peeled_stored}
use Rattle.gixp_memory.proofs.stored_refs.StoredRefsRefStore.peeled.Goals as goal

pub returns-clause-peeled : goal.returns-clause-peeled
returns-clause-peeled c = c.in-Ok.ensures ∙ peeled_stored c.self.inside.names.entries ∙ ap peeled_ids c.self.view_is
