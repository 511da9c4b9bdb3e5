-- After a look-up the held commits are still equal to the objects' commits.
use Rattle.std.proofs.Common.{◌∙◌, ap, rules}
use Rattle.std.proofs.lemmas.Result.{IfOk-weaker}
use Rattle.gixp_graph.specs.GraphData.{GraphData, graph_of, shown_time}
use Rattle.gixp_graph.specs.GraphLaws.{faithful_time}
use Rattle.gixp_graph.proofs.FaithfulLemmas.{faithful_lookup}
use Rattle.gixp_graph.proofs.graph.Graph.lookup.Goals as goal

pub invariant_of-self : goal.invariant_of-self
invariant_of-self g c =
    faithful_lookup c.lookup.result (graph_of
    (g.O.Objects.contents c.self.inside.objects) c.self.inside.commits.held) c.self.invariant _ _ _ c.lookup.ensures.contents
    c.lookup.ensures.ok c.lookup.ensures.err

pub returns-clause-time : goal.returns-clause-time
returns-clause-time g c =
    let start : GraphData = graph_of (g.O.Objects.contents c.self.inside.objects) c.self.inside.commits.held in
    rw (← c.self.view_is) (IfOk-weaker c.lookup.result _ _
    (λ found e. ap shown_time e ∙ faithful_time start c.self.invariant c.args.id.now) c.lookup.ensures.found)

pub returns-clause-asked : goal.returns-clause-asked
returns-clause-asked g c = search rules
