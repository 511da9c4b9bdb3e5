-- The walk: its invariant.
use Rattle.std.specs.Prelude.{◌≡◌, ◌⊎◌, ℕ, ℤ, ◌+◌, ◌≤◌, ◌≤ℤ◌, Bool, true, false, not, ◌||◌, if◌then◌else◌, List, [], ◌∷◌, ◌++◌, length, Option, Some, None, option_map, IsSome, Contains, All}
use Rattle.std.specs.List.{list_any}
use Rattle.std.specs.Ordering.{eq_by_cmp}
use Rattle.std.specs.FinMap as finite
use Rattle.gixp_hash.specs.declared.object_id.ObjectId.{ObjectId}
use Rattle.gixp_hash.specs.ObjectId.{id_cmp}
use Rattle.gixp_graph.specs.Object.{Objects, Commit}
use Rattle.gixp_graph.specs.Asked.{AsksEach}
use Rattle.gixp_graph.specs.GraphData.{Commits, GraphData, graph_of, found_in, commit_in, is_marked, marked_found, OnlyMarks}
use Rattle.gixp_graph.specs.Complete.{IsComplete, IsDue}
use Rattle.gixp_graph.specs.Table.{Table}
use Rattle.gixp_graph.specs.declared.queue.Entry.{Entry}
use Rattle.gixp_graph.specs.Visited.{is_visited}
use Rattle.gixp_graph.specs.Waiting.{Waiting, waiting_in, Queues}

-- the state of a walk: the held commits, the visited ids, and the queued commits, whose parents weren't visited yet
pub record Walk : Type 0 where
  pub held : Commits
  pub visited : ObjectId → Bool
  pub waiting : List Waiting

-- the state from a table of commits, a set of numbers and a queue
abbrev pub walk_of : Table → List Bool → List Entry → Walk
walk_of commits visited queue =
    record { held = commits.held; visited = is_visited commits.ids visited; waiting = waiting_in commits.ids queue }

-- the state with other commits queued too
abbrev pub beside : List Waiting → Walk → Walk
beside others w = record { held = w.held; visited = w.visited; waiting = others ++ w.waiting }

-- whether a commit is queued
abbrev pub waits : List Waiting → ObjectId → Bool
waits queue id = list_any (λ (x : Waiting). eq_by_cmp id_cmp id x.id) queue

-- the parents of a commit were visited, where they have to be
abbrev pub IsExpanded : GraphData → Option ℤ → (ObjectId → Bool) → ObjectId → Type 0
IsExpanded g cutoff visited id = (c : Commit) (least : ℤ) (p : ObjectId) → commit_in g id ≡ Some c → cutoff ≡ Some least
    → least ≤ℤ c.time → Contains c.parents p → visited p ≡ true

-- each newly marked commit is complete, and nothing else changed
pub record IsMarking (g : GraphData) (ids : List ObjectId) (cutoff : Option ℤ) (held : Commits) : Type 0 where
  pub only_marks : OnlyMarks g held
  pub sound : (id : ObjectId) → is_marked held id ≡ true → (is_marked g.held id ≡ true) ⊎ IsComplete (commit_in g) ids cutoff id

-- a queued commit is complete, is queued under its own time, and is marked
pub record IsQueued (g : GraphData) (ids : List ObjectId) (cutoff : Option ℤ) (held : Commits) (x : Waiting) : Type 0 where
  pub complete : IsComplete (commit_in g) ids cutoff x.id
  pub timed : option_map (λ (c : Commit). c.time) (commit_in g x.id) ≡ Some x.time
  pub marked : is_marked held x.id ≡ true

-- each visited commit is marked, and it is queued or its parents were visited
pub record IsWalk (g : GraphData) (ids : List ObjectId) (cutoff : Option ℤ) (w : Walk) : Type 0 where
  pub marking : IsMarking g ids cutoff w.held
  pub queued : All (IsQueued g ids cutoff w.held) w.waiting
  pub marked : (id : ObjectId) → w.visited id ≡ true → IsSome (commit_in g id) → is_marked w.held id ≡ true
  pub closed : (id : ObjectId) → w.visited id ≡ true → IsSome (commit_in g id) → (waits w.waiting id ≡ true)
      ⊎ IsExpanded g cutoff w.visited id

-- each of these ids may be read
abbrev pub AreDue : GraphData → List ObjectId → Option ℤ → List ObjectId → Type 0
AreDue g ids cutoff wanted = All (IsDue (commit_in g) ids cutoff) wanted

abbrev pub AllVisited : (ObjectId → Bool) → List ObjectId → Type 0
AllVisited visited wanted = All (λ id. visited id ≡ true) wanted

-- how many ids pass a test
abbrev pub count : (ObjectId → Bool) → List ObjectId → ℕ
count p [] = 0
count p (x ∷ xs) = (if p x then 1 else 0) + count p xs

-- the ids of the objects and of the held commits
abbrev pub all_ids : GraphData → List ObjectId
all_ids g = finite.keys g.objects ++ finite.keys g.held

-- how many of these ids weren't visited
abbrev pub left : GraphData → (ObjectId → Bool) → ℕ
left g visited = count (λ q. not (visited q)) (all_ids g)

-- a visit: the id was visited before, and nothing changes; or its commit is marked and queued, where it is found
pub data Visits (objects : Objects) (id : ObjectId) (old new : Walk) : Type 0 where
  again : old.visited id ≡ true → new.held ≡ old.held → ((q : ObjectId) → new.visited q ≡ old.visited q) → new.waiting ≡ old.waiting
      → Visits objects id old new
  first : old.visited id ≡ false → new.held ≡ marked_found (graph_of objects old.held) id → ((q : ObjectId) → new.visited q
      ≡ (eq_by_cmp id_cmp q id || old.visited q)) → Queues (found_in (graph_of objects old.held) id) id old.waiting new.waiting
      → Visits objects id old new

-- visits of some of these ids mark only complete commits
abbrev pub VisitsSome : Objects → List ObjectId → Commits → Commits → Type 0
VisitsSome objects wanted old new = (g : GraphData) (ids : List ObjectId) (cutoff : Option ℤ) → objects ≡ g.objects
    → AreDue g ids cutoff wanted → IsMarking g ids cutoff old → IsMarking g ids cutoff new

-- visits of all these ids keep the invariant, whatever else is queued; each newly queued commit leaves one id less to visit
pub record VisitsEach (objects : Objects) (wanted : List ObjectId) (old new : Walk) : Type 0 where
  pub walk : (g : GraphData) (ids : List ObjectId) (cutoff : Option ℤ) (others : List Waiting) → objects ≡ g.objects
      → AreDue g ids cutoff wanted → IsWalk g ids cutoff (beside others old) → IsWalk g ids cutoff (beside others new)
  pub visited : AllVisited new.visited wanted
  pub keeps : (id : ObjectId) → old.visited id ≡ true → new.visited id ≡ true
  pub less : (g : GraphData) → objects ≡ g.objects → OnlyMarks g old.held → OnlyMarks g new.held
      × (left g new.visited + length new.waiting ≤ left g old.visited + length old.waiting)

-- ---- which ids a walk reads

-- an id that wasn't visited, and whose commit isn't held
abbrev pub IsUnread : Walk → ObjectId → Type 0
IsUnread w id = (w.visited id ≡ false) × (finite.get w.held id ≡ None)

-- each id that was read may be read, and its commit wasn't held at the start
abbrev pub AsksDue : GraphData → List ObjectId → Option ℤ → List ObjectId → List ObjectId → Type 0
AsksDue g ids cutoff start asked = AsksEach (λ q. (finite.get g.held q ≡ None) × IsDue (commit_in g) ids cutoff q) start asked

-- each id that was read may be read, was visited, and its commit wasn't held at the start
abbrev pub HasAsked : GraphData → List ObjectId → Option ℤ → List ObjectId → (ObjectId → Bool) → List ObjectId → Type 0
HasAsked g ids cutoff start visited asked =
    AsksEach (λ q. (visited q ≡ true) × (finite.get g.held q ≡ None) × IsDue (commit_in g) ids cutoff q) start asked

-- visits of all these ids read only such ids
abbrev pub AsksAll : Objects → List ObjectId → Walk → Walk → List ObjectId → List ObjectId → Type 0
AsksAll objects wanted old new before after =
    (g : GraphData) (ids : List ObjectId) (cutoff : Option ℤ) (start : List ObjectId) → objects ≡ g.objects → AreDue g ids cutoff wanted
    → OnlyMarks g old.held → HasAsked g ids cutoff start old.visited before → HasAsked g ids cutoff start new.visited after

-- failed visits read only such ids
abbrev pub AsksSome : Objects → List ObjectId → Walk → List ObjectId → List ObjectId → Type 0
AsksSome objects wanted old before after =
    (g : GraphData) (ids : List ObjectId) (cutoff : Option ℤ) (start : List ObjectId) → objects ≡ g.objects → AreDue g ids cutoff wanted
    → OnlyMarks g old.held → HasAsked g ids cutoff start old.visited before → AsksDue g ids cutoff start after
