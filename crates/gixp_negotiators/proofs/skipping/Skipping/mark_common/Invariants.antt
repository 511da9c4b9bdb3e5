use Rattle.std.proofs.Common.{◌≡◌, ℕ, true}
use Rattle.std.specs.Prelude.{All}
use Rattle.std.specs.BinaryHeap.{heap_items}
use Rattle.gixp_negotiators.specs.LooksUpCommits.{LookedUp}
use Rattle.gixp_negotiators.specs.Work.{to_mark}
use Rattle.gixp_negotiators.specs.Marks.{COMMON, SEEN, has_mark}
use Rattle.gixp_negotiators.specs.AddedMarks.{MarksOnlyAsCommon}
use Rattle.gixp_hash.specs.declared.object_id.ObjectId.{ObjectId}
use Rattle.gixp_negotiators.specs.Queued.{FitsSeen}
use Rattle.gixp_negotiators.specs.Owed.{FitsOwing}
use Rattle.gixp_negotiators.specs.Spread.{was_seen, SpreadsBut}
use Rattle.gixp_negotiators.specs.NewlyCommon.{MarksThrough, IsNewlyCommon}
use Rattle.gixp_negotiators.proofs.skipping.Skipping.mark_common.Given as goal

abbrev pub invariant-loop-next : goal.invariant-loop-next
invariant-loop-next g l = record {
  fits : (lost : ℕ) → FitsSeen lost l.fn.self.uncommon (heap_items l.fn.self.queue.waiting) l.fn.graph.graph
      → FitsOwing lost l.self.uncommon (heap_items l.fn.self.queue.waiting) l.graph.graph l.due.items;
  through : MarksThrough l.fn.self.unread l.fn.graph.graph l.fn.id l.graph.graph;
  old : (q : ObjectId) → IsNewlyCommon l.fn.graph.graph l.graph.graph q → has_mark SEEN l.fn.graph.graph.held q ≡ true;
  marks : MarksOnlyAsCommon l.fn.graph.graph l.graph.graph;
  common : has_mark SEEN l.fn.graph.graph.held l.fn.id ≡ true → has_mark COMMON l.graph.graph.held l.fn.id ≡ true;
  spreads : SpreadsBut was_seen l.due.items l.fn.graph.graph l.graph.graph;
  newly : All (IsNewlyCommon l.fn.graph.graph l.graph.graph) l.due.items;
  unread : l.self.unread ≡ l.fn.self.unread;
  queue : l.self.queue ≡ l.fn.self.queue;
  skips : l.self.skips ≡ l.fn.self.skips;
  looks : LookedUp l.fn.graph l.graph;
}

-- the number of commits that aren't common, and of due commits
abbrev pub decreases-loop-next : goal.decreases-loop-next
decreases-loop-next g l = to_mark l.due.items l.graph.graph
