-- The commits that a repository has for certain, from some ids and a cutoff.
use Rattle.std.specs.Prelude.{◌≡◌, ℤ, ◌≤ℤ◌, List, Option, Some, IsSome, Contains}
use Rattle.gixp_hash.specs.declared.object_id.ObjectId.{ObjectId}
use Rattle.gixp_graph.specs.Object.{Commit}

-- the least set that contains the given ids that are found and, with a cutoff, the parents that are found of each
-- member whose own time is at least the cutoff
pub data IsComplete (read : ObjectId → Option Commit) (ids : List ObjectId) (cutoff : Option ℤ) : ObjectId → Type 0 where
  tip : {id : ObjectId} → Contains ids id → IsSome (read id) → IsComplete read ids cutoff id
  parent : {id p : ObjectId} {c : Commit} {least : ℤ} → IsComplete read ids cutoff id → read id ≡ Some c → cutoff ≡ Some least
      → least ≤ℤ c.time → Contains c.parents p → IsSome (read p) → IsComplete read ids cutoff p

-- the ids that a walk may read: the given ids and, with a cutoff, the parents of each complete commit whose own
-- time is at least the cutoff, whether they are found or not
pub data IsDue (read : ObjectId → Option Commit) (ids : List ObjectId) (cutoff : Option ℤ) (id : ObjectId) : Type 0 where
  tip : Contains ids id → IsDue read ids cutoff id
  parent : {child : ObjectId} {c : Commit} {least : ℤ} → IsComplete read ids cutoff child → read child ≡ Some c → cutoff ≡ Some least
      → least ≤ℤ c.time → Contains c.parents id → IsDue read ids cutoff id
