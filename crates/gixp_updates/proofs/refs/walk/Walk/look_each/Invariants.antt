use Rattle.std.proofs.Common.{◌≡◌, ◌≤◌, take}
use Rattle.gixp_updates.specs.Search.{search_of, Explores, HoldsWaiting, LooksUp, KeepsAsked}
use Rattle.gixp_updates.proofs.refs.walk.Walk.look_each.Given as goal

-- the ids so far were looked up
abbrev pub invariant-loop-id : goal.invariant-loop-id
invariant-loop-id g l = record {
  explores : Explores l.fn.graph.graph.objects (take l.id-index l.ids) (search_of l.fn.self) (search_of l.self);
  holds : HoldsWaiting l.fn.graph.graph (search_of l.fn.self) → HoldsWaiting l.graph.graph (search_of l.self);
  graph : LooksUp l.fn.graph.graph l.graph.graph;
  asked : KeepsAsked l.fn.graph.graph (search_of l.fn.self) (search_of l.self) l.fn.graph.asked l.graph.asked;
  refusals : l.graph.refusals ≡ l.fn.graph.refusals;
  failures : l.fn.graph.failures ≤ l.graph.failures;
}
