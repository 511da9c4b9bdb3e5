-- Commits that may be queued under time 0, since they weren't read before.
use Rattle.std.specs.Prelude.{◌≡◌, ◌⊎◌, ℕ, ℤ, pos, List, All, Contains, Option, Some, None}
use Rattle.std.specs.FinMap as finite
use Rattle.gixp_hash.specs.declared.object_id.ObjectId.{ObjectId}
use Rattle.gixp_graph.specs.Object.{time_at}
use Rattle.gixp_graph.specs.GraphData.{GraphData}
use Rattle.gixp_negotiators.specs.declared.queue.Waiting.{Waiting}
use Rattle.gixp_negotiators.specs.AddedMarks.{Grows}
use Rattle.gixp_negotiators.specs.Queued.{FitsSeen, AllCommon}
use Rattle.gixp_negotiators.specs.Newest.{NoneNewer}

-- a commit is queued under its own time, or under 0 where it wasn't read before
abbrev pub IsDated : GraphData → Waiting → Type 0
IsDated g w = (time_at g.objects w.id ≡ Some w.time) ⊎ ((w.time ≡ pos 0) × (finite.get g.held w.id ≡ None))

-- each commit that a step queues wasn't seen before, and is queued under its time, or under 0 where it wasn't read before
pub record QueuesNew (ws : List Waiting) (g : GraphData) (xs : List Waiting) : Type 0 where
  pub order : (f : GraphData) (time : ℤ) → Grows f g → NoneNewer time f ws → NoneNewer time f xs
  pub dated : All (λ (w : Waiting). Contains ws w ⊎ IsDated g w) xs

-- a commit that was queued before or in this step: of those that were seen before it, none that is still queued is
-- newer than the time under which it was queued
abbrev pub IsNewestIn : List Waiting → GraphData → ObjectId → List Waiting → Type 0
IsNewestIn ws g id xs = (w : Waiting) × (w.id ≡ id) × (Contains ws w ⊎ IsDated g w) × NoneNewer w.time g xs

-- the newest queued commit is offered; without an offer, all queued commits are common
abbrev pub PicksDated : ℕ → List Waiting → GraphData → Option ObjectId → List Waiting → GraphData → Type 0
PicksDated u ws g None xs h = (lost : ℕ) → FitsSeen lost u ws g → AllCommon h
PicksDated u ws g (Some id) xs h = IsNewestIn ws g id xs
