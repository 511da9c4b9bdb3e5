use Rattle.std.proofs.Common.{◌≡◌, ◌≤◌, take, true}
use Rattle.std.specs.Prelude.{All}
use Rattle.gixp_negotiators.specs.Marks.{COMMON, has_mark}
use Rattle.gixp_negotiators.specs.AddedMarks.{SeesNone}
use Rattle.gixp_negotiators.specs.CommitMarks.{IsMarkedIfThere}
use Rattle.gixp_negotiators.specs.Calls.{QueuesInTurn}
use Rattle.gixp_negotiators.specs.LooksUpCommits.{LookedUp}
use Rattle.gixp_negotiators.specs.Work.{to_mark}
use Rattle.gixp_negotiators.specs.Spread.{is_there, KeepsSpread}
use Rattle.gixp_negotiators.specs.NewlyCommon.{MarksCommonWithin, OwesAmong}
use Rattle.gixp_negotiators.proofs.consecutive.Consecutive.reach_all.Given as goal

abbrev pub invariant-loop-id : goal.invariant-loop-id
invariant-loop-id g l = record {
  steps : QueuesInTurn l.fn.self l.fn.graph.graph l.self l.graph.graph;
  less : to_mark l.due.items l.graph.graph ≤ to_mark l.fn.due.items l.fn.graph.graph;
  queue : l.self.queue ≡ l.fn.self.queue;
  spreads : KeepsSpread is_there l.fn.due.items l.fn.graph.graph l.due.items l.graph.graph;
  marked : All (IsMarkedIfThere COMMON l.fn.graph.graph l.graph.graph) (take l.id-index l.ids);
  sees : SeesNone l.fn.graph.graph l.graph.graph;
  common : All (λ q. has_mark COMMON l.fn.graph.graph.held q ≡ true) l.fn.due.items
      → All (λ q. has_mark COMMON l.graph.graph.held q ≡ true) l.due.items;
  among : MarksCommonWithin l.ids l.fn.graph.graph l.graph.graph;
  owes : OwesAmong l.ids l.fn.due.items l.due.items;
  looks : LookedUp l.fn.graph l.graph;
}
