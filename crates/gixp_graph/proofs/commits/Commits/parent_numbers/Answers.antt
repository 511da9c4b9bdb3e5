use Rattle.std.proofs.Common.{◌≡◌, ℕ, ◌<◌, ◌++◌, ◌∙◌, if◌then◌else◌, List, ap, length}
use Rattle.std.specs.Prelude.{Result, Ok, Err, OnOk, is_ok}
use Rattle.std.proofs.lemmas.Result.{on_ok_weaker}
use Rattle.gixp_graph.specs.Table.{ids_at}
use Rattle.gixp_graph.specs.Node.{ids_of, parent_numbers_of}
use Rattle.gixp_graph.proofs.NodeLemmas.{parents_at_node}
use Rattle.gixp_graph.proofs.commits.Commits.parent_numbers.Goals as goal

added : {T E : Type 0} (r : Result T E) (new more old : List ℕ) → new ≡ if is_ok r then more else old → OnOk r (new ≡ more)
added (Ok x) new more old e = e
added (Err x) new more old e = tt

pub returns-clause-parents : goal.returns-clause-parents
returns-clause-parents c =
    let nodes = c.self.inside.nodes.items in
    let parents = c.self.inside.parents.items in
    let l : c.args.number < length (ids_of nodes) = rw (← c.self.view_is) at c.requires in
    let is : c.parents_of.result.now ≡ parent_numbers_of parents c.index.result.now = c.parents_of.ensures
    ∙ ap (λ ps. parent_numbers_of ps c.index.result.now) c.as_slice.ensures.value in
    on_ok_weaker c.extend_from_slice.result (λ e. rw (← c.self.view_is)
    (ap (ids_at (ids_of nodes)) (e ∙ ap (λ ns. ns ++ c.parents_of.result.now) c.clear.ensures.items ∙ is)
    ∙ parents_at_node nodes parents c.self.invariant.once c.args.number l c.index.result.now c.index.ensures))
    (added c.extend_from_slice.result _ _ _ c.extend_from_slice.ensures.items)
