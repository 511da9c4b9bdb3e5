-- How many ids a call reads, where the caller limits each search of ancestors.
use Rattle.std.specs.Prelude.{◌≡◌, ◌⊎◌, ℕ, ◌≤◌, ⊤, zero, suc, List, [], ◌∷◌, ◌++◌, length, Contains, Option, Some, None, Result, Ok, Err}
use Rattle.gixp_hash.specs.declared.object_id.ObjectId.{ObjectId}
use Rattle.gixp_graph.specs.Object.{Commit}
use Rattle.gixp_refmap.specs.declared.refmap.mapping.Mapping.{Mapping}
use Rattle.gixp_refmap.specs.Mapping.{source_id}
use Rattle.gixp_updates.specs.declared.refs.error.Error.{Error}
use Rattle.gixp_updates.specs.declared.refs.error.Error.TheVariants.{FindObject, TooManyCommits, Memory}
use Rattle.gixp_updates.specs.Ancestors.{IsAncestor, ReachesMore}

-- the commit is the source of a mapping
abbrev pub IsOfMapping : List Mapping → ObjectId → Type 0
IsOfMapping ms id = (m : Mapping) × Contains ms m × (source_id m.remote ≡ Some id)

module _ (read : ObjectId → Option Commit) where
  -- the ids that a search reached last: the commit's own, or the parents of one of its ancestors
  abbrev pub ComesLast : ObjectId → List ObjectId → Type 0
  ComesLast start last = (last ≡ start ∷ [])
      ⊎ ((id : ObjectId) × (c : Commit) × IsAncestor read start id × (read id ≡ Some c) × (last ≡ c.parents))

  -- the search reached at most so many ids before the last ones
  pub record LooksWithin (start : ObjectId) (most : ℕ) (Seen : ObjectId → Type 0) : Type 0 where
    pub before : List ObjectId
    pub few : length before ≤ most
    pub last : List ObjectId
    pub comes_last : ComesLast start last
    pub covers : (q : ObjectId) → Seen q → Contains before q ⊎ Contains last q

  -- the same, if the caller sets a limit
  abbrev pub LooksBy : ObjectId → Option ℕ → (ObjectId → Type 0) → Type 0
  LooksBy start None Seen = ⊤
  LooksBy start (Some most) Seen = LooksWithin start most Seen

  -- only such ids were read
  pub record AsksWithin (start : ObjectId) (limit : Option ℕ) (old new : List ObjectId) : Type 0 where
    pub ids : List ObjectId
    pub asked : new ≡ old ++ ids
    pub within : LooksBy start limit (Contains ids)

  module _ (IsStart : ObjectId → Type 0) (limit : Option ℕ) where
    -- at most so many ids were looked up, and then the ancestors of such a commit were searched at most once
    pub record AsksFew (most : ℕ) (old new : List ObjectId) : Type 0 where
      pub looked : List ObjectId
      pub few : length looked ≤ most
      pub mid : List ObjectId
      pub asked : mid ≡ old ++ looked
      pub walked : (new ≡ mid) ⊎ ((start : ObjectId) × IsStart start × AsksWithin start limit mid new)

    -- the limit was exceeded: a search from such a commit reaches more ids
    pub record IsExceeded : Type 0 where
      pub most : ℕ
      pub limited : limit ≡ Some most
      pub start : ObjectId
      pub is_start : IsStart start
      pub more : ReachesMore read start most

    -- a success keeps the limit, and exceeding it is reported only if it was exceeded
    abbrev pub KeepsLimit : {T : Type 0} → ℕ → Result T Error → List ObjectId → List ObjectId → Type 0
    KeepsLimit most (Ok x) old new = AsksFew most old new
    KeepsLimit most (Err TooManyCommits) old new = IsExceeded
    KeepsLimit most (Err (FindObject e)) old new = ⊤
    KeepsLimit most (Err Memory) old new = ⊤

    -- the same so many times
    abbrev pub AsksFewEach : ℕ → ℕ → List ObjectId → List ObjectId → Type 0
    AsksFewEach most zero old new = new ≡ old
    AsksFewEach most (suc n) old new = (mid : List ObjectId) × AsksFewEach most n old mid × AsksFew most mid new

  -- for each mapping at most two ids are looked up, and then the ancestors of its commit are searched at most once
  abbrev pub KeepsLimitOfEach : {T : Type 0} → List Mapping → Option ℕ → Result T Error → List ObjectId → List ObjectId → Type 0
  KeepsLimitOfEach ms limit (Ok x) old new = (n : ℕ) × (n ≤ length ms) × AsksFewEach (IsOfMapping ms) limit 2 n old new
  KeepsLimitOfEach ms limit (Err TooManyCommits) old new = IsExceeded (IsOfMapping ms) limit
  KeepsLimitOfEach ms limit (Err (FindObject e)) old new = ⊤
  KeepsLimitOfEach ms limit (Err Memory) old new = ⊤
