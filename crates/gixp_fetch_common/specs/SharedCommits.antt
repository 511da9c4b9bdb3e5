-- Common commits: with a commit the server has its ancestors, as far as these were read.
use Rattle.std.specs.Prelude.{◌≡◌, ◌⊎◌, true, List, [], ◌∷◌, All}
use Rattle.std.specs.List.{Contains}
use Rattle.std.specs.BTreeSet.{BTreeSet, contains}
use Rattle.gixp_hash.specs.declared.object_id.ObjectId.{ObjectId}
use Rattle.gixp_hash.specs.ObjectId.{id_cmp}
use Rattle.gixp_graph.specs.Object.{Objects, commit_at}
use Rattle.gixp_updates.specs.Ancestors.{IsReachedFrom}
use Rattle.gixp_fetch_common.specs.declared.known_commits.KnownCommits.{KnownCommits}
use Rattle.gixp_fetch_common.specs.KnownCommits.{parents_of, KeepsIds, HasIdsOf, LosesNone, AwaitsUnknown}

-- the parents of a common commit are common, unless the commit is among those that wait
abbrev pub IsSharedBut : Objects → BTreeSet ObjectId → List ObjectId → Type 0
IsSharedBut read common waiting = (id : ObjectId) → contains id_cmp common id ≡ true
    → HasIdsOf common (parents_of read id) ⊎ Contains waiting id

-- the parents of a common commit are common, and so all its ancestors
abbrev pub IsSharedWhole : Objects → BTreeSet ObjectId → Type 0
IsSharedWhole read common = (id : ObjectId) → contains id_cmp common id ≡ true → HasIdsOf common (parents_of read id)

-- only ancestors of a commit become common
abbrev pub AddsReached : Objects → ObjectId → BTreeSet ObjectId → BTreeSet ObjectId → Type 0
AddsReached read id old new = (q : ObjectId) → contains id_cmp new q ≡ true
    → (contains id_cmp old q ≡ true) ⊎ IsReachedFrom (commit_at read) id q

-- the ancestors of a commit are common
pub record Shares (old : KnownCommits) (id : ObjectId) (new : KnownCommits) : Type 0 where
  pub parents : HasIdsOf new.common (parents_of old.read id)
  pub whole : IsSharedBut old.read old.common (id ∷ []) → IsSharedWhole new.read new.common

-- some of its ancestors became common, and no other commit
pub record SharesSome (old : KnownCommits) (id : ObjectId) (new : KnownCommits) : Type 0 where
  pub read : new.read ≡ old.read
  pub keeps : KeepsIds old.common new.common
  pub adds : AddsReached old.read id old.common new.common
  pub tracked : LosesNone old new
  pub unknown : AwaitsUnknown old → AwaitsUnknown new

-- ---- how common commits spread

-- no other id than this one was added to a set
abbrev pub AddsId : BTreeSet ObjectId → ObjectId → BTreeSet ObjectId → Type 0
AddsId old id new = (q : ObjectId) → contains id_cmp new q ≡ true → (contains id_cmp old q ≡ true) ⊎ (id ≡ q)

-- only some of these commits became common
pub record MarksSome (old : KnownCommits) (ids : List ObjectId) (new : KnownCommits) : Type 0 where
  pub read : new.read ≡ old.read
  pub keeps : KeepsIds old.common new.common
  pub adds : (q : ObjectId) → contains id_cmp new.common q ≡ true → (contains id_cmp old.common q ≡ true) ⊎ Contains ids q
  pub tracked : LosesNone old new
  pub unknown : AwaitsUnknown old → AwaitsUnknown new

-- these commits are common, and those that weren't now wait too
pub record MarksCommon (old : KnownCommits) (waiting ids : List ObjectId) (new : KnownCommits) (later : List ObjectId) : Type 0 where
  pub has : HasIdsOf new.common ids
  pub waits : (q : ObjectId) → contains id_cmp new.common q ≡ true → (contains id_cmp old.common q ≡ true) ⊎ Contains later q
  pub stays : (q : ObjectId) → Contains waiting q → Contains later q
  pub comes : (q : ObjectId) → Contains later q → Contains waiting q ⊎ Contains ids q

-- only ancestors of the commits that waited became common, and each common commit has common parents, unless it waits later
pub record SpreadsOn (read : Objects) (old : BTreeSet ObjectId) (waiting : List ObjectId) (new : BTreeSet ObjectId)
    (later : List ObjectId) : Type 0 where
  pub adds : (id : ObjectId) → All (IsReachedFrom (commit_at read) id) waiting → AddsReached read id old new
  pub reached : (id : ObjectId) → All (IsReachedFrom (commit_at read) id) waiting → All (IsReachedFrom (commit_at read) id) later
  pub whole : IsSharedBut read old waiting → IsSharedBut read new later
