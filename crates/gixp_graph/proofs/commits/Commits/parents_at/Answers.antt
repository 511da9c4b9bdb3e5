use Rattle.std.proofs.Common.{◌<◌, ◌∙◌, ap, length}
use Rattle.std.proofs.lemmas.Result.{IfOk-weaker}
use Rattle.gixp_graph.specs.GraphData.{parents_in}
use Rattle.gixp_graph.specs.Table.{Table, id_at, ids_at}
use Rattle.gixp_graph.specs.Node.{ids_of, parent_numbers_of}
use Rattle.gixp_graph.proofs.NodeLemmas.{parents_at_node}
use Rattle.gixp_graph.proofs.commits.Commits.parents_at.Goals as goal

pub returns : goal.returns
returns c =
    let l : c.args.number < length (ids_of c.self.inside.nodes.items) = rw (← c.self.view_is) at c.requires in
    IfOk-weaker c.ids_named.result _ _ (λ ids e. e
    ∙ ap (λ ns. ids_at (ids_of ns) c.parents_of-parents.result.now) c.as_slice-2.ensures.value
    ∙ ap (ids_at (ids_of c.self.inside.nodes.items))
    (c.parents_of-parents.ensures ∙ ap (λ ps. parent_numbers_of ps c.index.result.now) c.as_slice.ensures.value)
    ∙ parents_at_node c.self.inside.nodes.items c.self.inside.parents.items c.self.invariant.once c.args.number l
    c.index.result.now c.index.ensures
    ∙ ap (λ (t : Table). parents_in t.held (id_at t.ids c.args.number)) c.self.view_is) c.ids_named.ensures
