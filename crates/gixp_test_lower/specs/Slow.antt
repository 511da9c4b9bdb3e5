-- One step of the slow reference program for complete commits.
use Rattle.std.specs.Prelude.{◌≡◌, ℤ, ◌≤ℤ◌, List, Option, Some, IsSome, Contains, All}
use Rattle.gixp_hash.specs.declared.object_id.ObjectId.{ObjectId}
use Rattle.gixp_graph.specs.Object.{Commit}
use Rattle.gixp_graph.specs.Complete.{IsComplete}

-- the existing commits among these ids are known
abbrev pub AreKnown : (ObjectId → Option Commit) → List ObjectId → List ObjectId → Type 0
AreKnown read known ids = All (λ id. IsSome (read id) → Contains known id) ids

-- a commit exists and isn't known; if the known ones are complete, it is complete too
abbrev pub IsMissingCommit : (ObjectId → Option Commit) → List ObjectId → Option ℤ → List ObjectId → ObjectId → Type 0
IsMissingCommit read tips cutoff known id = IsSome (read id) × ¬ (Contains known id)
    × (All (IsComplete read tips cutoff) known → IsComplete read tips cutoff id)

-- if a commit is not older than the cutoff, its existing parents are known
abbrev pub ParentsAreKnown : (ObjectId → Option Commit) → ℤ → List ObjectId → ObjectId → Type 0
ParentsAreKnown read least known id = (c : Commit) → read id ≡ Some c → least ≤ℤ c.time → AreKnown read known c.parents

-- no commit is missing
pub record IsClosed (read : ObjectId → Option Commit) (tips : List ObjectId) (cutoff : Option ℤ) (known : List ObjectId) : Type 0 where
  pub tips_known : AreKnown read known tips
  pub parents_known : (least : ℤ) → cutoff ≡ Some least → All (ParentsAreKnown read least known) known
