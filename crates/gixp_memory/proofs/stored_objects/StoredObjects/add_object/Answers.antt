use Rattle.std.proofs.Common.{◌∙◌, ap}
use Rattle.std.specs.Prelude.{option_map}
use Rattle.std.specs.FinMap as finite
use Rattle.gixp_graph.specs.Object.{Objects, commit_of}
use Rattle.gixp_memory.proofs.StoredLemmas.{objects_put}
use Rattle.gixp_memory.proofs.stored_objects.StoredObjects.add_object.Goals as goal

pub returns-in-Ok-clause-ok : goal.returns-in-Ok-clause-ok
returns-in-Ok-clause-ok c =
    objects_put c.self.inside.objects.entries c.insert.new.self.entries c.args.id _ c.in-Ok.ensures.updates.0
    ∙ ap (λ (m : Objects). finite.insert m c.args.id
    (record { kind = c.args.kind; commit = option_map commit_of c.args.commit })) c.self.view_is
