use Rattle.std.proofs.Common.{◌∙◌, sym, ap, ℤ, rules}
use Rattle.std.specs.Prelude.{option_map}
use Rattle.std.proofs.lemmas.Int.{to_z-of_z}
use mir.Val.{SFits}
use mir.Syntax.{w64}
use Rattle.gixp_graph.specs.Object.{commit_of}
use Rattle.gixp_test_lower.proofs.ListedLemmas.{some_commit, commit_listed}
use Rattle.gixp_test_lower.proofs.graph.repository.RepositoryObjects.commit.Goals as goal

pub returns-in-Ok-clause-found : goal.returns-in-Ok-clause-found
returns-in-Ok-clause-found c =
    let fits : SFits w64 c.in-Some.commit.now.time = search rules in
    ap (λ (z : ℤ). some_commit (record { time = z; parents = c.in-Ok.parents.items })) (to_z-of_z w64 c.in-Some.commit.now.time fits)
    ∙ ap (λ ps. some_commit (record { time = c.in-Some.commit.now.time; parents = ps })) (c.in-Ok.ensures.items ∙ c.as_slice.ensures.value)
    ∙ ap (option_map commit_of) c.in-Some.ensures.value ∙ sym (commit_listed c.args.self.now.commits.entries c.args.id.now)

pub returns-in-None-clause-found : goal.returns-in-None-clause-found
returns-in-None-clause-found c = ap (option_map commit_of) c.in-None.ensures.value
    ∙ sym (commit_listed c.args.self.now.commits.entries c.args.id.now)
