-- What the calls of git's negotiators do (git-config, `fetch.negotiationAlgorithm`).
use Rattle.std.specs.Prelude.{◌≡◌, ℕ, ◌∷◌, [], Option, true}
use Rattle.std.specs.BinaryHeap.{heap_items}
use Rattle.gixp_hash.specs.declared.object_id.ObjectId.{ObjectId}
use Rattle.gixp_graph.specs.GraphData.{GraphData}
use Rattle.gixp_negotiators.specs.declared.consecutive.Consecutive.{Consecutive}
use Rattle.gixp_negotiators.specs.declared.queue.Waiting.{Waiting}
use Rattle.gixp_negotiators.specs.declared.skipping.Skipping.{Skipping}
use Rattle.gixp_negotiators.specs.Marks.{COMMON, SEEN, has_mark}
use Rattle.gixp_negotiators.specs.AddedMarks.{Grows, SeesNone, SeesOnly, MarksNoCommon, ListsNone, ListsOnly, PopsNone}
use Rattle.gixp_negotiators.specs.CommitMarks.{StaysIfSeen, IsMarkedIfThere, IsListedIfNew}
use Rattle.gixp_negotiators.specs.Offered.{Offers, TakesCommon}
use Rattle.gixp_negotiators.specs.Spread.{is_there, was_seen, WhereNew, HasCommonParents, StaysSpread, Spreads}
use Rattle.gixp_negotiators.specs.NewlyCommon.{AllRead, AllHeld, MarksThrough, MarksCommonFrom}
use Rattle.gixp_negotiators.specs.NewlySeen.{SeesCommon, SeesAmong, FindsCommon}
use Rattle.gixp_negotiators.specs.Passing.{Distances}
use Rattle.gixp_negotiators.specs.Queued.{FitsSeen, KeepsCount, EndsAtOnce, OffersNone}
use Rattle.gixp_negotiators.specs.Newest.{KeepsTimed, Picks}
use Rattle.gixp_negotiators.specs.Dated.{QueuesNew, PicksDated}
use Rattle.gixp_negotiators.specs.Unread.{KeepsUnread, IsUnreadIfNew}

-- ---- `consecutive`

-- a step keeps the invariant of the queue and its count
abbrev pub Steps : Consecutive → GraphData → Consecutive → GraphData → Type 0
Steps n g m h = KeepsTimed n.uncommon (heap_items n.queue.waiting) g m.uncommon (heap_items m.queue.waiting) h

-- a step that takes this queued commit keeps the invariant
abbrev pub StepsTaking : Waiting → Consecutive → GraphData → Consecutive → GraphData → Type 0
StepsTaking first n g m h = KeepsTimed n.uncommon (first ∷ heap_items n.queue.waiting) g m.uncommon (heap_items m.queue.waiting) h

-- a step that may queue commits, takes none, and marks none as a ref of the server
pub record QueuesInTurn (n : Consecutive) (g : GraphData) (m : Consecutive) (h : GraphData) : Type 0 where
  pub keeps : Steps n g m h
  pub lists : ListsNone g h
  pub pops : PopsNone g h

-- `known_common`: the commit is queued, and is the only one that is newly marked as a ref of the server; its parents
-- become common, unless it is common itself; every other commit that is queued is common; only the commit and its
-- ancestors become common
pub record KnowsInTurn (n : Consecutive) (g : GraphData) (id : ObjectId) (m : Consecutive) (h : GraphData) : Type 0 where
  pub grows : Grows g h
  pub seen : IsMarkedIfThere SEEN g h id
  pub listed : IsListedIfNew g h id
  pub lists : ListsOnly id g h
  pub pops : PopsNone g h
  pub parents : WhereNew g id (HasCommonParents is_there g h id)
  pub finds : SeesAmong (id ∷ []) g h
  pub only : MarksCommonFrom id g h
  pub spreads : StaysSpread is_there g h
  pub again : StaysIfSeen n g id m h
  pub steps : Steps n g m h

-- `add_tip`: only this commit is newly queued; none becomes common, and none is newly marked as a ref of the server
pub record AddsInTurn (n : Consecutive) (g : GraphData) (id : ObjectId) (m : Consecutive) (h : GraphData) : Type 0 where
  pub grows : Grows g h
  pub seen : IsMarkedIfThere SEEN g h id
  pub sees : SeesOnly id g h
  pub settles : MarksNoCommon g h
  pub unlisted : ListsNone g h
  pub pops : PopsNone g h
  pub again : StaysIfSeen n g id m h
  pub steps : Steps n g m h

-- `in_common_with_remote`: the commit becomes common, and so do the parents of each seen commit that becomes common;
-- only the commit and its ancestors do; each commit that is queued is common
pub record LearnsInTurn (n : Consecutive) (g : GraphData) (id : ObjectId) (m : Consecutive) (h : GraphData) : Type 0 where
  pub grows : Grows g h
  pub common : IsMarkedIfThere COMMON g h id
  pub finds : SeesCommon g h
  pub only : MarksCommonFrom id g h
  pub unlisted : ListsNone g h
  pub pops : PopsNone g h
  pub spreads : StaysSpread is_there g h
  pub steps : Steps n g m h

-- `next_have`: it offers the newest queued commit that isn't common; each other commit that it takes is common. Where
-- all queued commits are common, it offers, reads and takes nothing
pub record OffersInTurn (n : Consecutive) (g : GraphData) (have : Option ObjectId) (m : Consecutive) (h : GraphData) : Type 0 where
  pub grows : Grows g h
  pub offers : Offers g have h
  pub picks : Picks n.uncommon (heap_items n.queue.waiting) g have (heap_items m.queue.waiting) h
  pub takes : TakesCommon g have h
  pub ends : EndsAtOnce n.uncommon (heap_items n.queue.waiting) n g have m h
  pub unlisted : ListsNone g h
  pub finds : FindsCommon g have h
  pub spreads : StaysSpread is_there g h
  pub steps : Steps n g m h

-- ---- `skipping`

-- the queue and its count fit the graph, but for so many common commits that are still counted
abbrev pub FitsSkipping : ℕ → Skipping → GraphData → Type 0
FitsSkipping lost n g = FitsSeen lost n.uncommon (heap_items n.queue.waiting) g

-- a step keeps this. Like in git, marking ends at a commit that wasn't read. Others that are common already then stay
-- counted, so the count may be too high by more, but not where each commit that became common was read
abbrev pub CountsStill : Type 0 → Skipping → GraphData → Skipping → GraphData → Type 0
CountsStill Read n g m h = KeepsCount Read n.uncommon (heap_items n.queue.waiting) g m.uncommon (heap_items m.queue.waiting) h

-- the same for a step that takes this queued commit
abbrev pub CountsTaking : Type 0 → Waiting → Skipping → GraphData → Skipping → GraphData → Type 0
CountsTaking Read first n g m h =
    KeepsCount Read n.uncommon (first ∷ heap_items n.queue.waiting) g m.uncommon (heap_items m.queue.waiting) h

-- a step that counts no further common commit
abbrev pub CountsAll : Skipping → GraphData → Skipping → GraphData → Type 0
CountsAll n g m h = (lost : ℕ) → FitsSkipping lost n g → FitsSkipping lost m h

-- each newly queued commit wasn't seen before, and is queued under its time, or under 0 where it wasn't read before
abbrev pub QueuesDated : Skipping → GraphData → Skipping → Type 0
QueuesDated n g m = QueuesNew (heap_items n.queue.waiting) g (heap_items m.queue.waiting)

-- `known_common`: only this commit is newly queued, and only it is newly marked as a ref of the server
pub record KnowsSkipping (n : Skipping) (g : GraphData) (id : ObjectId) (m : Skipping) (h : GraphData) : Type 0 where
  pub grows : Grows g h
  pub seen : IsMarkedIfThere SEEN g h id
  pub sees : SeesOnly id g h
  pub listed : IsListedIfNew g h id
  pub lists : ListsOnly id g h
  pub settles : MarksNoCommon g h
  pub pops : PopsNone g h
  pub queues : QueuesDated n g m
  pub skips : m.skips ≡ n.skips
  pub unread : KeepsUnread n.unread g m.unread h
  pub unread_if_new : IsUnreadIfNew g id m.unread
  pub again : StaysIfSeen n g id m h
  pub fits : CountsAll n g m h

-- `add_tip`: only this commit is newly queued; none becomes common, and none is newly marked as a ref of the server
pub record AddsSkipping (n : Skipping) (g : GraphData) (id : ObjectId) (m : Skipping) (h : GraphData) : Type 0 where
  pub grows : Grows g h
  pub seen : IsMarkedIfThere SEEN g h id
  pub sees : SeesOnly id g h
  pub settles : MarksNoCommon g h
  pub unlisted : ListsNone g h
  pub pops : PopsNone g h
  pub queues : QueuesDated n g m
  pub skips : m.skips ≡ n.skips
  pub unread : KeepsUnread n.unread g m.unread h
  pub unread_if_new : IsUnreadIfNew g id m.unread
  pub again : StaysIfSeen n g id m h
  pub fits : CountsAll n g m h

-- `in_common_with_remote`: a commit that was seen becomes common, and so do the seen parents of each commit that
-- becomes common, unless one of these commits wasn't read yet. No other commit does: marking doesn't pass a commit that
-- wasn't read
pub record LearnsSkipping (n : Skipping) (g : GraphData) (id : ObjectId) (m : Skipping) (h : GraphData) : Type 0 where
  pub grows : Grows g h
  pub common : has_mark SEEN g.held id ≡ true → has_mark COMMON h.held id ≡ true
  pub spreads : AllRead n.unread g h → Spreads was_seen g h
  pub through : MarksThrough n.unread g id h
  pub sees : SeesNone g h
  pub unlisted : ListsNone g h
  pub pops : PopsNone g h
  pub queue : m.queue ≡ n.queue
  pub skips : m.skips ≡ n.skips
  pub unread : m.unread ≡ n.unread
  pub fits : CountsStill (AllRead n.unread g h) n g m h

-- `next_have`: it offers the newest queued commit, at the distances that are passed on; each newly queued commit
-- wasn't seen before. Where all queued commits are common, it offers nothing; where the count is exact too, it reads and
-- takes nothing
pub record OffersSkipping (n : Skipping) (g : GraphData) (have : Option ObjectId) (m : Skipping) (h : GraphData) : Type 0 where
  pub grows : Grows g h
  pub offers : Offers g have h
  pub unlisted : ListsNone g h
  pub distances : Distances n.skips.entries g have m.skips.entries h
  pub picks : PicksDated n.uncommon (heap_items n.queue.waiting) g have (heap_items m.queue.waiting) h
  pub ends : EndsAtOnce n.uncommon (heap_items n.queue.waiting) n g have m h
  pub offers_none : OffersNone n.uncommon (heap_items n.queue.waiting) g have
  pub queues : QueuesDated n g m
  pub unread : KeepsUnread n.unread g m.unread h
  pub fits : CountsStill (AllHeld n.unread g h) n g m h
