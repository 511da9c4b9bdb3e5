use Rattle.std.proofs.Common.{◌≡◌, None}
use Rattle.gixp_negotiators.specs.AddedMarks.{ListsNone}
use Rattle.gixp_negotiators.specs.Calls.{Steps}
use Rattle.gixp_negotiators.specs.Offered.{TakesCommon}
use Rattle.gixp_negotiators.specs.LooksUpCommits.{LookedUp}
use Rattle.gixp_negotiators.specs.Work.{to_take}
use Rattle.gixp_negotiators.specs.Spread.{is_there, StaysSpread}
use Rattle.gixp_negotiators.specs.NewlySeen.{SeesCommon}
use Rattle.gixp_negotiators.proofs.consecutive.Consecutive.next.Given as goal

abbrev pub invariant-loop-first : goal.invariant-loop-first
invariant-loop-first g l = record {
  keeps : Steps l.fn.self l.fn.graph.graph l.self l.graph.graph;
  spreads : StaysSpread is_there l.fn.graph.graph l.graph.graph;
  finds : SeesCommon l.fn.graph.graph l.graph.graph;
  lists : ListsNone l.fn.graph.graph l.graph.graph;
  takes : TakesCommon l.fn.graph.graph None l.graph.graph;
  rests : l.fn.self.uncommon ≡ 0 → (l.self ≡ l.fn.self) × (l.graph.graph ≡ l.fn.graph.graph);
  looks : LookedUp l.fn.graph l.graph;
}

-- the number of objects that weren't seen, and of queued commits
abbrev pub decreases-loop-first : goal.decreases-loop-first
decreases-loop-first g l = to_take l.self.queue l.graph.graph
