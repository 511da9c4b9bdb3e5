use Rattle.std.proofs.Common.{◌∙◌, sym, ap, ℤ, rules}
use Rattle.std.specs.Prelude.{option_map}
use Rattle.std.proofs.lemmas.Int.{to_z-of_z}
use mir.Val.{SFits}
use mir.Syntax.{w64}
use Rattle.gixp_graph.specs.Object.{commit_of}
use Rattle.gixp_memory.proofs.StoredLemmas.{some_commit}
use Rattle.gixp_memory.proofs.stored_objects.copied.Goals as goal

pub returns-in_ok-parents-in-Some-clause-found : goal.returns-in_ok-parents-in-Some-clause-found
returns-in_ok-parents-in-Some-clause-found c =
    let fits : SFits w64 c.in-Some.commit.time = search rules in
    ap (λ (z : ℤ). some_commit (record { time = z; parents = c.in_ok-parents-in-Some.parents.items }))
    (to_z-of_z w64 c.in-Some.commit.time fits)
    ∙ ap (λ ps. some_commit (record { time = c.in-Some.commit.time; parents = ps }))
    (c.in_ok-parents-in-Some.ensures.items ∙ c.as_slice.ensures.value)
    ∙ ap (option_map commit_of) (sym c.in-Some.is)
