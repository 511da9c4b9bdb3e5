use Rattle.std.proofs.Common.{◌≡◌, ◌≤◌, take, false}
use Rattle.std.specs.Prelude.{All, IsTrue}
use Rattle.gixp_negotiators.specs.Marks.{SEEN}
use Rattle.gixp_negotiators.specs.AddedMarks.{MarksNoCommon}
use Rattle.gixp_negotiators.specs.CommitMarks.{IsMarkedIfThere}
use Rattle.gixp_negotiators.specs.Calls.{QueuesInTurn}
use Rattle.gixp_negotiators.specs.LooksUpCommits.{LookedUp}
use Rattle.gixp_negotiators.specs.Work.{to_take}
use Rattle.gixp_negotiators.specs.Spread.{is_there, StaysSpread}
use Rattle.gixp_negotiators.specs.NewlySeen.{SeesCommon, SeesAmong}
use Rattle.gixp_negotiators.proofs.consecutive.Consecutive.follow_all.Given as goal

abbrev pub invariant-loop-parent : goal.invariant-loop-parent
invariant-loop-parent g l = record {
  steps : QueuesInTurn l.fn.self l.fn.graph.graph l.self l.graph.graph;
  room : to_take l.self.queue l.graph.graph ≤ to_take l.fn.self.queue l.fn.graph.graph;
  waits : All (IsMarkedIfThere SEEN l.fn.graph.graph l.graph.graph) (take l.parent-index l.parents);
  spreads : StaysSpread is_there l.fn.graph.graph l.graph.graph;
  finds : IsTrue l.fn.is_common → SeesCommon l.fn.graph.graph l.graph.graph;
  others : l.fn.is_common ≡ false → SeesAmong l.parents l.fn.graph.graph l.graph.graph;
  settles : l.fn.is_common ≡ false → MarksNoCommon l.fn.graph.graph l.graph.graph;
  looks : LookedUp l.fn.graph l.graph;
}
