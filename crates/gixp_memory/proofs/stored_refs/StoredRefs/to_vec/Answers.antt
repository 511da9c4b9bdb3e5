use Rattle.std.proofs.Common.{◌∙◌, ap, map}
use Rattle.gixp_memory.specs.Repository.{held_ref}
use Rattle.gixp_memory.proofs.StoredLemmas.{held_refs_stored}
use Rattle.gixp_memory.proofs.stored_refs.StoredRefs.to_vec.Goals as goal

pub returns-in-Ok : goal.returns-in-Ok
returns-in-Ok c = c.in-Ok.ensures ∙ held_refs_stored c.self.inside.names.entries ∙ ap (map held_ref) c.self.view_is
