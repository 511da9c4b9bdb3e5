use Rattle.std.proofs.Common.{◌∙◌, sym, ap}
use Rattle.std.specs.FinMap as finite
use Rattle.gixp_graph.specs.Object.{Objects}
use Rattle.gixp_memory.proofs.StoredLemmas.{key_stored}
use Rattle.gixp_memory.proofs.stored_objects.StoredObjectsFind.has_object.Goals as goal

pub returns : goal.returns
returns c = c.contains_key.ensures ∙ sym (key_stored c.self.inside.objects.entries c.args.id.now)
    ∙ ap (λ (m : Objects). finite.contains_key m c.args.id.now) c.self.view_is
