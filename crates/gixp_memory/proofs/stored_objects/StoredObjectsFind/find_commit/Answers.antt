use Rattle.std.proofs.Common.{◌∙◌, sym, ap, subst}
use Rattle.std.specs.Prelude.{IfOk, option_map, ◌≡◌}
use Rattle.gixp_graph.specs.Object.{Objects, commit_at, commit_of}
use Rattle.gixp_memory.proofs.StoredLemmas.{commit_in, commit_stored}
use Rattle.gixp_memory.proofs.stored_objects.StoredObjectsFind.find_commit.Goals as goal

pub returns-in-None-clause-found : goal.returns-in-None-clause-found
returns-in-None-clause-found c = ap commit_in c.in-None.ensures.value ∙ sym (commit_stored c.self.inside.objects.entries c.args.id.now)
    ∙ ap (λ (m : Objects). commit_at m c.args.id.now) c.self.view_is

pub returns-in-Some-clause-found : goal.returns-in-Some-clause-found
returns-in-Some-clause-found c = subst (λ found. IfOk c.copied.result (λ copy. option_map commit_of copy ≡ found))
    (ap commit_in c.in-Some.ensures.value ∙ sym (commit_stored c.self.inside.objects.entries c.args.id.now)
    ∙ ap (λ (m : Objects). commit_at m c.args.id.now) c.self.view_is) c.copied.ensures.found
