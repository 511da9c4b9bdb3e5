use Rattle.std.proofs.Common.{ℕ, ◌≤◌, List, take}
use Rattle.std.specs.Prelude.{All}
use Rattle.gixp_graph.specs.GraphData.{GraphData}
use Rattle.gixp_negotiators.specs.declared.queue.Waiting.{Waiting}
use Rattle.gixp_negotiators.specs.LooksUpCommits.{LookedUp}
use Rattle.gixp_negotiators.specs.Work.{to_mark}
use Rattle.gixp_negotiators.specs.AddedMarks.{Grows, MarksOnlyAsCommon}
use Rattle.gixp_negotiators.specs.Owed.{FitsOwing}
use Rattle.gixp_negotiators.specs.Spread.{was_seen, BecomesCommon, KeepsSpread}
use Rattle.gixp_negotiators.specs.NewlyCommon.{IsNewlyCommon, MarksCommonAmong}
use Rattle.gixp_negotiators.proofs.skipping.reach_all.Given as goal

abbrev pub invariant-loop-id : goal.invariant-loop-id
invariant-loop-id g l = record {
  fits : (lost u : ℕ) (ws : List Waiting) → FitsOwing lost u ws l.fn.graph.graph l.fn.due.items
      → FitsOwing lost u ws l.graph.graph l.due.items;
  among : MarksCommonAmong l.ids l.fn.graph.graph l.graph.graph;
  marks : MarksOnlyAsCommon l.fn.graph.graph l.graph.graph;
  spreads : KeepsSpread was_seen l.fn.due.items l.fn.graph.graph l.due.items l.graph.graph;
  newly : (f : GraphData) → Grows f l.fn.graph.graph → All (IsNewlyCommon f l.fn.graph.graph) l.fn.due.items
      → All (IsNewlyCommon f l.graph.graph) l.due.items;
  common : All (BecomesCommon was_seen l.fn.graph.graph l.graph.graph) (take l.id-index l.ids);
  less : to_mark l.due.items l.graph.graph ≤ to_mark l.fn.due.items l.fn.graph.graph;
  looks : LookedUp l.fn.graph l.graph;
}
