use Rattle.std.proofs.Common.{◌∙◌, List, ap, map}
use Rattle.gixp_memory.specs.Repository.{PeeledRef, with_ref}
use Rattle.gixp_memory.specs.RefEntries.{named_ref}
use Rattle.gixp_memory.proofs.StoredLemmas.{refs_put}
use Rattle.gixp_memory.proofs.stored_refs.StoredRefs.add.Goals as goal

pub returns-clause-ok : goal.returns-clause-ok
returns-clause-ok c =
    ap (map named_ref) c.in_ok-insert.ensures.entries
    ∙ refs_put c.self.inside.names.entries c.args.name (record { id = c.args.id; peeled = c.args.peeled })
    ∙ ap (λ (rs : List PeeledRef). with_ref rs (record { name = c.args.name.items; id = c.args.id; peeled = c.args.peeled })) c.self.view_is
