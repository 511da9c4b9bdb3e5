-- Commits that are read one after the other: which of them the server has, and which are awaited.
use Rattle.std.specs.Prelude.{◌≡◌, ◌⊎◌, Bool, true, false, List, [], Option, Some, None, option_map, unwrap_or, All}
use Rattle.std.specs.BTreeSet.{BTreeSet, contains}
use Rattle.std.specs.FinMap as finite
use Rattle.gixp_hash.specs.declared.object_id.ObjectId.{ObjectId}
use Rattle.gixp_hash.specs.ObjectId.{id_cmp}
use Rattle.gixp_graph.specs.Object.{Objects, Commit, commit_at}
use Rattle.gixp_fetch_common.specs.declared.known_commits.KnownCommits.{KnownCommits}

-- the parents of a commit, none where it isn't read
abbrev pub parents_of : Objects → ObjectId → List ObjectId
parents_of read id = unwrap_or (option_map (λ (c : Commit). c.parents) (commit_at read id)) []

-- no id leaves a set
abbrev pub KeepsIds : BTreeSet ObjectId → BTreeSet ObjectId → Type 0
KeepsIds old new = (id : ObjectId) → contains id_cmp old id ≡ true → contains id_cmp new id ≡ true

abbrev pub HasIdsOf : BTreeSet ObjectId → List ObjectId → Type 0
HasIdsOf set ids = All (λ id. contains id_cmp set id ≡ true) ids

-- whether a commit is awaited, where the tips of the history are known
abbrev pub is_awaited : Option (BTreeSet ObjectId) → ObjectId → Bool
is_awaited None id = false
is_awaited (Some awaited) id = contains id_cmp awaited id

-- no commit is awaited, though it is known which are
abbrev pub AwaitsNone : Option (BTreeSet ObjectId) → Type 0
AwaitsNone None = ⊥
AwaitsNone (Some awaited) = awaited.keys ≡ []

-- a commit is awaited, or is read, or the server has it
abbrev pub IsAwaitedOrKnown : Objects → BTreeSet ObjectId → BTreeSet ObjectId → ObjectId → Type 0
IsAwaitedOrKnown read common awaited id = (contains id_cmp awaited id ≡ true)
    ⊎ ((contains id_cmp common id ≡ true) ⊎ (finite.contains_key read id ≡ true))

-- the same of all of these, where it is known which are awaited
abbrev pub AreAwaitedOrKnown : Objects → BTreeSet ObjectId → Option (BTreeSet ObjectId) → List ObjectId → Type 0
AreAwaitedOrKnown read common None ids = Unit {0}
AreAwaitedOrKnown read common (Some awaited) ids = All (IsAwaitedOrKnown read common awaited) ids

-- a commit wasn't read, and isn't known to be common
abbrev pub IsUnknown : Objects → BTreeSet ObjectId → ObjectId → Type 0
IsUnknown read common id = (contains id_cmp common id ≡ false) × (finite.contains_key read id ≡ false)

-- each commit that is added to a set is unknown
abbrev pub AddsUnknown : Objects → BTreeSet ObjectId → (old new : BTreeSet ObjectId) → Type 0
AddsUnknown read common old new = (id : ObjectId) → contains id_cmp new id ≡ true
    → (contains id_cmp old id ≡ true) ⊎ IsUnknown read common id

-- each awaited commit is unknown, so that none of them was offered or needn't be
abbrev pub AwaitsUnknown : KnownCommits → Type 0
AwaitsUnknown known = (id : ObjectId) → is_awaited known.awaited id ≡ true → IsUnknown known.read known.common id

-- each awaited commit but this one is unknown
abbrev pub AwaitsUnknownBut : KnownCommits → ObjectId → Type 0
AwaitsUnknownBut known one = (id : ObjectId) → is_awaited known.awaited id ≡ true
    → IsUnknown known.read known.common id ⊎ (one ≡ id)

-- a commit is awaited, common, or was read
abbrev pub IsTracked : KnownCommits → ObjectId → Type 0
IsTracked known id = (is_awaited known.awaited id ≡ true)
    ⊎ ((contains id_cmp known.common id ≡ true) ⊎ (finite.contains_key known.read id ≡ true))

-- a tracked commit stays tracked: where none is awaited any longer, each tip was read or is common
abbrev pub LosesNone : KnownCommits → KnownCommits → Type 0
LosesNone old new = (id : ObjectId) → IsTracked old id → IsTracked new id
