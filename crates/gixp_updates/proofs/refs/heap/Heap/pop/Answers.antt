use Rattle.gixp_updates.proofs.LookLemmas.{popped}
use Rattle.gixp_updates.proofs.refs.heap.Heap.pop.Goals as goal

pub returns-clause-taken : goal.returns-clause-taken
returns-clause-taken c = popped c.pop.result _ _ c.pop.ensures.permutation
