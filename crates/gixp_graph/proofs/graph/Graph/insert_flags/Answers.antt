-- Held commits with more marks are still equal to the objects' commits.
use Rattle.std.proofs.Common.{rules}
use Rattle.gixp_graph.specs.GraphData.{graph_of}
use Rattle.gixp_graph.proofs.FaithfulLemmas.{faithful_flagged}
use Rattle.gixp_graph.proofs.graph.Graph.insert_flags.Goals as goal

pub invariant_of-self : goal.invariant_of-self
invariant_of-self g c = rw c.insert_flags.ensures.flagged
    (faithful_flagged (graph_of (g.O.Objects.contents c.self.inside.objects) c.self.inside.commits.held) c.self.invariant _ _)

pub returns-clause-flagged : goal.returns-clause-flagged
returns-clause-flagged g c = search rules
