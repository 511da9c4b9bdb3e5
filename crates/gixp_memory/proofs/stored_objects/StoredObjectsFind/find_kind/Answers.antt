use Rattle.std.proofs.Common.{◌∙◌, sym, ap}
use Rattle.gixp_graph.specs.Object.{Objects, kind_at}
use Rattle.gixp_memory.proofs.StoredLemmas.{kind_in, kind_stored}
use Rattle.gixp_memory.proofs.stored_objects.StoredObjectsFind.find_kind.Goals as goal

pub returns-in-Some : goal.returns-in-Some
returns-in-Some c = ap kind_in c.in-Some.ensures.value ∙ sym (kind_stored c.self.inside.objects.entries c.args.id.now)
    ∙ ap (λ (m : Objects). kind_at m c.args.id.now) c.self.view_is

pub returns-in-None : goal.returns-in-None
returns-in-None c = ap kind_in c.in-None.ensures.value ∙ sym (kind_stored c.self.inside.objects.entries c.args.id.now)
    ∙ ap (λ (m : Objects). kind_at m c.args.id.now) c.self.view_is
