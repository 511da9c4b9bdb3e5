use Rattle.std.proofs.Common.{◌∙◌, List, sym, ap}
use Rattle.gixp_memory.specs.Repository.{PeeledRef, ref_named}
use Rattle.gixp_memory.proofs.StoredLemmas.{held_stored, id_stored}
use Rattle.gixp_memory.proofs.stored_refs.StoredRefs.held.Goals as goal

pub returns-in-Some : goal.returns-in-Some
returns-in-Some c = ap id_stored c.in-Some.ensures.value ∙ sym (held_stored c.self.inside.names.entries c.args.name.now)
    ∙ ap (λ (rs : List PeeledRef). ref_named rs c.args.name.now) c.self.view_is

pub returns-in-None : goal.returns-in-None
returns-in-None c = ap id_stored c.in-None.ensures.value ∙ sym (held_stored c.self.inside.names.entries c.args.name.now)
    ∙ ap (λ (rs : List PeeledRef). ref_named rs c.args.name.now) c.self.view_is
