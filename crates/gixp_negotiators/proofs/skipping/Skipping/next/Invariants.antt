use Rattle.std.proofs.Common.{◌≡◌, ℕ}
use Rattle.std.specs.BinaryHeap.{heap_items}
use Rattle.gixp_negotiators.specs.LooksUpCommits.{LookedUp}
use Rattle.gixp_negotiators.specs.Work.{to_take}
use Rattle.gixp_negotiators.specs.AddedMarks.{ListsNone}
use Rattle.gixp_negotiators.specs.NewlyCommon.{AllHeld}
use Rattle.gixp_negotiators.specs.Passing.{TakesUnoffered}
use Rattle.gixp_negotiators.specs.Queued.{KeepsCount, FitsSeen, AllCommon}
use Rattle.gixp_negotiators.specs.Unread.{KeepsUnread}
use Rattle.gixp_negotiators.specs.Dated.{QueuesNew}
use Rattle.gixp_negotiators.proofs.skipping.Skipping.next.Given as goal

abbrev pub invariant-loop-first : goal.invariant-loop-first
invariant-loop-first g l = record {
  fits : KeepsCount (AllHeld l.fn.self.unread l.fn.graph.graph l.graph.graph) l.fn.self.uncommon (heap_items l.fn.self.queue.waiting)
      l.fn.graph.graph l.self.uncommon (heap_items l.self.queue.waiting) l.graph.graph;
  rests : l.fn.self.uncommon ≡ 0 → (l.self ≡ l.fn.self) × (l.graph.graph ≡ l.fn.graph.graph);
  common : (lost : ℕ) → FitsSeen lost l.fn.self.uncommon (heap_items l.fn.self.queue.waiting) l.fn.graph.graph
      → AllCommon l.fn.graph.graph → AllCommon l.graph.graph;
  lists : ListsNone l.fn.graph.graph l.graph.graph;
  unread : KeepsUnread l.fn.self.unread l.fn.graph.graph l.self.unread l.graph.graph;
  queues : QueuesNew (heap_items l.fn.self.queue.waiting) l.fn.graph.graph (heap_items l.self.queue.waiting);
  passes : TakesUnoffered l.fn.self.skips.entries l.fn.graph.graph l.self.skips.entries l.graph.graph;
  looks : LookedUp l.fn.graph l.graph;
}

-- the number of objects that weren't seen, and of queued commits
abbrev pub decreases-loop-first : goal.decreases-loop-first
decreases-loop-first g l = to_take l.self.queue l.graph.graph
