use Rattle.std.proofs.Common.{◌≡◌, ◌≤◌, [], true}
use Rattle.std.specs.Prelude.{All, IsSome, ◌||◌}
use Rattle.gixp_negotiators.specs.Marks.{COMMON, SEEN, has_mark}
use Rattle.gixp_negotiators.specs.Calls.{QueuesInTurn}
use Rattle.gixp_graph.specs.Object.{commit_at}
use Rattle.gixp_negotiators.specs.LooksUpCommits.{LookedUp}
use Rattle.gixp_negotiators.specs.Work.{to_take, to_mark}
use Rattle.gixp_negotiators.specs.Spread.{is_there, HasCommonParents, SpreadsFrom}
use Rattle.gixp_negotiators.specs.NewlyCommon.{IsFrom, MarksCommonFrom}
use Rattle.gixp_negotiators.specs.NewlySeen.{SeesCommon}
use Rattle.gixp_negotiators.proofs.consecutive.Consecutive.spread_all.Given as goal

abbrev pub invariant-loop-next : goal.invariant-loop-next
invariant-loop-next g l = record {
  steps : QueuesInTurn l.fn.self l.fn.graph.graph l.self l.graph.graph;
  room : to_take l.self.queue l.graph.graph ≤ to_take l.fn.self.queue l.fn.graph.graph;
  spreads : SpreadsFrom is_there l.fn.id [] l.fn.graph.graph l.due.items l.graph.graph;
  ancestors : has_mark SEEN l.fn.graph.graph.held l.fn.id ≡ true → HasCommonParents is_there l.fn.graph.graph l.graph.graph l.fn.id;
  finds : (IsSome (commit_at l.fn.graph.graph.objects l.fn.id)
      → (has_mark SEEN l.fn.graph.graph.held l.fn.id || has_mark COMMON l.fn.graph.graph.held l.fn.id) ≡ true)
      → SeesCommon l.fn.graph.graph l.graph.graph;
  common : All (λ q. has_mark COMMON l.graph.graph.held q ≡ true) l.due.items;
  only : MarksCommonFrom l.fn.id l.fn.graph.graph l.graph.graph;
  owed : All (IsFrom l.graph.graph l.fn.id) l.due.items;
  looks : LookedUp l.fn.graph l.graph;
}

-- the number of commits that aren't common, and of due commits
abbrev pub decreases-loop-next : goal.decreases-loop-next
decreases-loop-next g l = to_mark l.due.items l.graph.graph
