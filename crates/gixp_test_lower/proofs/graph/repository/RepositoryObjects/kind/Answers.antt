use Rattle.std.proofs.Common.{◌∙◌, sym, ap}
use Rattle.std.specs.Prelude.{option_map}
use Rattle.gixp_graph.specs.declared.objects.ObjectKind.TheVariants.{Commit}
use Rattle.gixp_graph.specs.declared.objects.CommitData.{CommitData}
use Rattle.gixp_test_lower.proofs.ListedLemmas.{kind_listed}
use Rattle.gixp_test_lower.proofs.graph.repository.RepositoryObjects.kind.Goals as goal

pub returns-in-Some : goal.returns-in-Some
returns-in-Some c = ap (option_map (λ (_ : CommitData). Commit)) c.in-Some.ensures.value
    ∙ sym (kind_listed c.args.self.now.commits.entries c.args.id.now)

pub returns-in-None : goal.returns-in-None
returns-in-None c = ap (option_map (λ (_ : CommitData). Commit)) c.in-None.ensures.value
    ∙ sym (kind_listed c.args.self.now.commits.entries c.args.id.now)
