use Rattle.std.proofs.Common.{◌≡◌, ◌≤◌, take, true, false}
use Rattle.std.specs.Prelude.{◌≢◌, All}
use Rattle.gixp_negotiators.specs.declared.skipping.Legacy.TheVariants.{Common}
use Rattle.gixp_negotiators.specs.NewlyCommon.{AllHeld}
use Rattle.std.specs.BinaryHeap.{heap_items}
use Rattle.gixp_negotiators.specs.LooksUpCommits.{LookedUp}
use Rattle.gixp_negotiators.specs.Work.{to_take}
use Rattle.gixp_negotiators.specs.Marks.{SEEN}
use Rattle.gixp_negotiators.specs.AddedMarks.{MarksNoCommon, ListsNone, PopsNone}
use Rattle.gixp_negotiators.specs.CommitMarks.{IsMarkedIfThere}
use Rattle.gixp_negotiators.specs.Passing.{Hands, AllTaken, IsCommonIfLeft}
use Rattle.gixp_negotiators.specs.Queued.{KeepsCount, AllCommon}
use Rattle.gixp_negotiators.specs.Unread.{KeepsUnread}
use Rattle.gixp_negotiators.specs.Dated.{QueuesNew}
use Rattle.gixp_negotiators.proofs.skipping.Skipping.follow_all.Given as goal

abbrev pub invariant-loop-parent : goal.invariant-loop-parent
invariant-loop-parent g l = record {
  fits : KeepsCount (AllHeld l.fn.self.unread l.fn.graph.graph l.graph.graph) l.fn.self.uncommon (heap_items l.fn.self.queue.waiting)
      l.fn.graph.graph l.self.uncommon (heap_items l.self.queue.waiting) l.graph.graph;
  settles : l.legacy ≢ Common → MarksNoCommon l.fn.graph.graph l.graph.graph;
  common : l.legacy ≡ Common → AllCommon l.fn.graph.graph → AllCommon l.graph.graph;
  shares : l.legacy ≡ Common → All (IsCommonIfLeft l.graph.graph) (take l.parent-index l.parents);
  lists : ListsNone l.fn.graph.graph l.graph.graph;
  pops : PopsNone l.fn.graph.graph l.graph.graph;
  unread : KeepsUnread l.fn.self.unread l.fn.graph.graph l.self.unread l.graph.graph;
  leaves : l.any ≡ true → AllTaken l.graph.graph (take l.parent-index l.parents) → ⊥;
  room : to_take l.self.queue l.graph.graph ≤ to_take l.fn.self.queue l.fn.graph.graph;
  waits : All (IsMarkedIfThere SEEN l.fn.graph.graph l.graph.graph) (take l.parent-index l.parents);
  queues : QueuesNew (heap_items l.fn.self.queue.waiting) l.fn.graph.graph (heap_items l.self.queue.waiting);
  taken : l.any ≡ false → AllTaken l.graph.graph (take l.parent-index l.parents);
  hands : Hands l.legacy (take l.parent-index l.parents) l.graph.graph l.fn.self.skips.entries l.self.skips.entries;
  looks : LookedUp l.fn.graph l.graph;
}
