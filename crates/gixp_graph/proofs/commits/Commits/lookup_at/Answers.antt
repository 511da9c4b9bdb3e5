use Rattle.std.proofs.Common.{sym}
use Rattle.gixp_graph.specs.GraphData.{GraphData, graph_of}
use Rattle.gixp_graph.proofs.HeldLemmas.{known_looked_up}
use Rattle.gixp_graph.proofs.commits.Commits.lookup_at.Goals as goal

pub returns-in-Some-clause-ok : goal.returns-in-Some-clause-ok
returns-in-Some-clause-ok g c =
    let graph : GraphData = graph_of (g.O.Objects.contents c.args.objects.now) c.args.self.now.held in
    sym (known_looked_up graph _ _ c.in-Some.ensures.value)
