-- Queued commits, whose parents weren't visited yet.
use Rattle.std.specs.Prelude.{◌≡◌, ℤ, ◌<◌, List, ◌∷◌, map, length, All, Option, Some, None}
use Rattle.std.specs.List.Sorted.{IsPermutation}
use Rattle.gixp_hash.specs.declared.object_id.ObjectId.{ObjectId}
use Rattle.gixp_graph.specs.GraphData.{HeldCommit}
use Rattle.gixp_graph.specs.Table.{id_at}
use Rattle.gixp_graph.specs.declared.queue.Entry.{Entry}

-- a queued commit with its time
pub record Waiting : Type 0 where
  pub time : ℤ
  pub id : ObjectId

-- the commit of an entry
abbrev pub waiting_of : List ObjectId → Entry → Waiting
waiting_of ids e = record { time = e.time; id = id_at ids e.number }

-- the commits of a queue
abbrev pub waiting_in : List ObjectId → List Entry → List Waiting
waiting_in ids queue = map (waiting_of ids) queue

-- each number in a queue names an id
abbrev pub AllQueuedNamed : List ObjectId → List Entry → Type 0
AllQueuedNamed ids queue = All (λ (e : Entry). e.number < length ids) queue

-- a new commit is queued; where there is none, the queue stays the same
abbrev pub Queues : Option HeldCommit → ObjectId → List Waiting → List Waiting → Type 0
Queues None id old new = new ≡ old
Queues (Some h) id old new = IsPermutation (record { time = h.time; id = id } ∷ old) new
