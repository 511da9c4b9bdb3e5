-- The ancestors of a commit (git-merge-base, "--is-ancestor").
use Rattle.std.specs.Prelude.{◌≡◌, ℕ, ◌<◌, List, length, Option, Some, None, IsSome, Contains, All}
use Rattle.std.specs.List.{IsDistinct}
use Rattle.std.specs.Ordering.{eq_by_cmp}
use Rattle.gixp_hash.specs.declared.object_id.ObjectId.{ObjectId}
use Rattle.gixp_hash.specs.ObjectId.{id_cmp}
use Rattle.gixp_graph.specs.Object.{Commit}

-- a commit that exists is an ancestor of itself, and so are the existing parents of each of its ancestors
pub data IsAncestor (read : ObjectId → Option Commit) (start : ObjectId) : ObjectId → Type 0 where
  itself : IsSome (read start) → IsAncestor read start start
  parent : {child id : ObjectId} {c : Commit} → IsAncestor read start child → read child ≡ Some c → Contains c.parents id
      → IsSome (read id) → IsAncestor read start id

-- the ids that a search of all ancestors reaches: the commit's own, and the parents of each of its ancestors,
-- whether they exist or not
pub data IsReachedFrom (read : ObjectId → Option Commit) (start : ObjectId) : ObjectId → Type 0 where
  itself : IsReachedFrom read start start
  parent : {child id : ObjectId} {c : Commit} → IsAncestor read start child → read child ≡ Some c → Contains c.parents id
      → IsReachedFrom read start id

-- a search reaches more than so many ids
pub record ReachesMore (read : ObjectId → Option Commit) (start : ObjectId) (most : ℕ) : Type 0 where
  pub ids : List ObjectId
  pub more : most < length ids
  pub distinct : IsDistinct (eq_by_cmp id_cmp) ids
  pub each : All (IsReachedFrom read start) ids

-- so many ids are more than the limit allows
abbrev pub IsBeyond : ℕ → Option ℕ → Type 0
IsBeyond seen None = ⊥
IsBeyond seen (Some most) = most < seen
