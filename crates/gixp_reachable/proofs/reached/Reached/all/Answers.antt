use Rattle.std.proofs.Common.{refl}
use Rattle.gixp_graph.specs.GraphData.{is_marked}
use Rattle.gixp_reachable.proofs.ReachedLemmas.{hides_none}
use Rattle.gixp_reachable.proofs.reached.Reached.all.Goals as goal

pub returns : goal.returns
returns g c = λ tips. (
  _,
  hides_none c.new.result (λ q. is_marked c.new-3.result.graph.held q) _ c.new.ensures.empty,
  refl,
)
