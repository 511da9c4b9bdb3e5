use Rattle.std.proofs.Common.{rules}
use Rattle.gixp_graph.proofs.FaithfulLemmas.{faithful_empty}
use Rattle.gixp_graph.proofs.graph.Graph.new.Goals as goal

pub invariant_of-result : goal.invariant_of-result
invariant_of-result g c = rw c.new.ensures (faithful_empty _)

pub returns-clause-failures : goal.returns-clause-failures
returns-clause-failures g c = search rules

pub returns-clause-asked : goal.returns-clause-asked
returns-clause-asked g c = search rules
