-- Commits that are queued under their own time: the newest is offered.
use Rattle.std.specs.Prelude.{◌≡◌, ℕ, ℤ, ◌≤◌, ◌≤ℤ◌, true, List, All, Option, Some, None}
use Rattle.gixp_hash.specs.declared.object_id.ObjectId.{ObjectId}
use Rattle.gixp_graph.specs.Object.{Objects, time_at}
use Rattle.gixp_graph.specs.GraphData.{GraphData}
use Rattle.gixp_negotiators.specs.declared.queue.Waiting.{Waiting}
use Rattle.gixp_negotiators.specs.Marks.{SEEN, has_mark}
use Rattle.gixp_negotiators.specs.AddedMarks.{Grows}
use Rattle.gixp_negotiators.specs.Queued.{Fits, AllCommon}

-- each commit is queued under its own time
abbrev pub AllTimed : Objects → List Waiting → Type 0
AllTimed objects ws = All (λ (w : Waiting). time_at objects w.id ≡ Some w.time) ws

-- no queued commit that was seen by then is newer than this
abbrev pub NoneNewer : ℤ → GraphData → List Waiting → Type 0
NoneNewer time g ws = All (λ (w : Waiting). has_mark SEEN g.held w.id ≡ true → w.time ≤ℤ time) ws

-- a step keeps the invariant of queue, count and graph; each commit that it queues wasn't seen before
pub record KeepsQueue (u : ℕ) (ws : List Waiting) (g : GraphData) (v : ℕ) (xs : List Waiting) (h : GraphData) : Type 0 where
  pub fits : Fits 0 u ws g → Fits 0 v xs h
  pub order : (f : GraphData) (time : ℤ) → Grows f g → NoneNewer time f ws → NoneNewer time f xs

-- a step also keeps it that each commit is queued under its own time
pub record KeepsTimed (u : ℕ) (ws : List Waiting) (g : GraphData) (v : ℕ) (xs : List Waiting) (h : GraphData) : Type 0 where
  pub keeps : KeepsQueue u ws g v xs h
  pub timed : AllTimed g.objects ws → AllTimed h.objects xs

-- no queued commit is newer than the one that was taken, and none with its time was queued earlier
pub record IsNewestWaiting (ws : List Waiting) (first : Waiting) : Type 0 where
  pub newest : All (λ (w : Waiting). w.time ≤ℤ first.time) ws
  pub earliest : All (λ (w : Waiting). w.time ≡ first.time → w.rank ≤ first.rank) ws

-- of the commits that were seen before the offer, none that is still queued is newer
abbrev pub IsNewestAt : GraphData → ObjectId → List Waiting → Type 0
IsNewestAt g id xs = (time : ℤ) → time_at g.objects id ≡ Some time → NoneNewer time g xs

-- where each commit is queued under its own time, the offered commit is the newest
abbrev pub IsNewestTimed : List Waiting → GraphData → ObjectId → List Waiting → Type 0
IsNewestTimed ws g id xs = AllTimed g.objects ws → IsNewestAt g id xs

-- the newest commit is offered; without an offer, all queued commits are common
abbrev pub Picks : ℕ → List Waiting → GraphData → Option ObjectId → List Waiting → GraphData → Type 0
Picks u ws g None xs h = Fits 0 u ws g → AllCommon h
Picks u ws g (Some id) xs h = IsNewestTimed ws g id xs
