-- A walk from a commit to its ancestors: its invariant.
use Rattle.std.specs.Prelude.{◌≡◌, ◌≢◌, ◌⊎◌, ℕ, ◌+◌, ◌≤◌, Bool, true, not, List, Option, Some, None, IsSome, Contains, All}
use Rattle.std.specs.List.{list_any}
use Rattle.std.specs.Ordering.{eq_by_cmp}
use Rattle.std.specs.FinMap as finite
use Rattle.std.specs.BTreeSet as tree
use Rattle.std.specs.BinaryHeap.{heap_items, heap_len}
use Rattle.gixp_hash.specs.declared.object_id.ObjectId.{ObjectId}
use Rattle.gixp_hash.specs.ObjectId.{id_cmp}
use Rattle.gixp_graph.specs.Object.{Objects, Commit, commit_at, time_at}
use Rattle.gixp_graph.specs.GraphData.{GraphData}
use Rattle.gixp_graph.specs.Asked.{AsksEach}
use Rattle.gixp_graph.specs.Walk.{count}
use Rattle.gixp_updates.specs.declared.refs.heap.Pending.{Pending}
use Rattle.gixp_updates.specs.declared.refs.heap.Heap.{Heap}
use Rattle.gixp_updates.specs.declared.refs.walk.Walk.{Walk}
pub use Rattle.gixp_updates.specs.LookUps.{LooksUp}
use Rattle.gixp_updates.specs.Ancestors.{IsAncestor, IsReachedFrom}

-- whether a commit is queued
abbrev pub waits_in : Heap → ObjectId → Bool
waits_in h id = list_any (λ (p : Pending). eq_by_cmp id_cmp id p.id) (heap_items h.waiting)

-- how many commits are queued
abbrev pub waiting_len : Heap → ℕ
waiting_len h = heap_len h.waiting

-- each commit is queued under its time
abbrev pub WaitByTime : Objects → Heap → Type 0
WaitByTime objects h = All (λ (p : Pending). time_at objects p.id ≡ Some p.time) (heap_items h.waiting)

-- the state of a walk: the ids that were looked up, the queued commits, whose parents weren't, and their number
pub record Search : Type 0 where
  pub seen : ObjectId → Bool
  pub waits : ObjectId → Bool
  pub waiting : ℕ

abbrev pub search_of : Walk → Search
search_of w = record { seen = tree.contains id_cmp w.seen; waits = waits_in w.heap; waiting = waiting_len w.heap }

-- how many objects weren't looked up
abbrev pub unseen : Objects → Search → ℕ
unseen objects s = count (λ q. not (s.seen q)) (finite.keys objects)

-- some of these ids are looked up; each id looked up before still is
pub record SeesMore (ids : List ObjectId) (old new : Search) : Type 0 where
  pub keeps : (q : ObjectId) → old.seen q ≡ true → new.seen q ≡ true
  pub only : (q : ObjectId) → new.seen q ≡ true → (old.seen q ≡ true) ⊎ Contains ids q

-- each of these ids is looked up; those that weren't before and are found are queued
pub record Explores (objects : Objects) (ids : List ObjectId) (old new : Search) : Type 0 where
  pub more : SeesMore ids old new
  pub sees : All (λ q. new.seen q ≡ true) ids
  pub stays : (q : ObjectId) → old.waits q ≡ true → new.waits q ≡ true
  pub waits : (q : ObjectId) → new.seen q ≡ true → IsSome (commit_at objects q) → (old.seen q ≡ true) ⊎ (new.waits q ≡ true)
  pub found : (q : ObjectId) → new.waits q ≡ true → (old.waits q ≡ true) ⊎ (IsSome (commit_at objects q) × Contains ids q)
  pub less : unseen objects new + new.waiting ≤ unseen objects old + old.waiting

-- each queued commit is held
abbrev pub HoldsWaiting : GraphData → Search → Type 0
HoldsWaiting g s = (q : ObjectId) → s.waits q ≡ true → IsSome (finite.get g.held q)

-- the objects were asked for ids that were looked up and whose commits weren't held, each once
abbrev pub HasAskedFor : GraphData → Search → List ObjectId → List ObjectId → Type 0
HasAskedFor g s start asked = AsksEach (λ q. (s.seen q ≡ true) × (finite.get g.held q ≡ None)) start asked

-- a step keeps `HasAskedFor`
abbrev pub KeepsAsked : GraphData → Search → Search → List ObjectId → List ObjectId → Type 0
KeepsAsked g old new before after = (first : GraphData) (start : List ObjectId) → LooksUp first g → HasAskedFor first old start before
    → HasAskedFor first new start after

-- the parents of a commit were looked up, and it isn't the one that is searched for
pub record IsSeenThrough (read : ObjectId → Option Commit) (target : ObjectId) (seen : ObjectId → Bool) (id : ObjectId) : Type 0 where
  pub other : id ≢ target
  pub parents : (c : Commit) (p : ObjectId) → read id ≡ Some c → Contains c.parents p → seen p ≡ true

-- a search for one commit among the ancestors of another
pub record IsSearch (read : ObjectId → Option Commit) (start target : ObjectId) (s : Search) : Type 0 where
  pub begun : s.seen start ≡ true
  pub reached : (q : ObjectId) → s.seen q ≡ true → IsReachedFrom read start q
  pub ancestors : (q : ObjectId) → s.waits q ≡ true → IsAncestor read start q
  pub closed : (q : ObjectId) → s.seen q ≡ true → IsSome (read q) → (s.waits q ≡ true) ⊎ IsSeenThrough read target s.seen q
