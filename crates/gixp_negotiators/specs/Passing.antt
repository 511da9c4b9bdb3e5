-- How many commits are skipped along a line (git-config, `fetch.negotiationAlgorithm`, "skipping").
use Rattle.std.specs.Prelude.{◌≡◌, ◌⊎◌, ◌<◌, ◌-◌, ◌||◌, All, nat_lt, if◌then◌else◌, List, Bool, true, false, Option, Some, None, IsSome, unwrap_or}
use Rattle.std.specs.List.{list_any}
use Rattle.std.specs.Map.{lookup}
use Rattle.std.specs.BTreeMap.{is_at}
use Rattle.std.specs.Ordering.{eq_by_cmp}
use Rattle.gixp_hash.specs.declared.object_id.ObjectId.{ObjectId}
use Rattle.gixp_hash.specs.ObjectId.{id_cmp}
use Rattle.gixp_graph.specs.Object.{commit_at}
use Rattle.gixp_graph.specs.GraphData.{GraphData, parents_in}
use Rattle.gixp_negotiators.specs.declared.skipping.Skip.{Skip}
use Rattle.gixp_negotiators.specs.declared.skipping.Legacy.{Legacy}
use Rattle.gixp_negotiators.specs.declared.skipping.Legacy.TheVariants.{Common, Skips}
use Rattle.gixp_negotiators.specs.Distance.{distance_after, skip_of}
use Rattle.gixp_negotiators.specs.Marks.{COMMON, COMMON_REF, POPPED, has_mark}
use Rattle.gixp_negotiators.specs.AddedMarks.{MarksNoCommon, PopsOnly}

-- the distances of commits, by id
abbrev pub Skipped : Type 0
Skipped = List (ObjectId × Skip)

-- the distance of a commit; 0 where none is recorded
abbrev pub skip_in : Skipped → ObjectId → Skip
skip_in skips id = unwrap_or (lookup (is_at (id_cmp id)) skips) (skip_of 0 0)

-- the longer of two distances
abbrev pub longer : Skip → Skip → Skip
longer s t = if nat_lt s.whole t.whole then t else s

-- the distance that a commit passes on to its parents: one fewer to skip; or, where none is left to skip, the next distance
abbrev pub handed_on : Skip → Skip
handed_on s = if nat_lt 0 s.left then skip_of s.whole (s.left - 1) else skip_of (distance_after s.whole) (distance_after s.whole)

-- whether a list has a commit
abbrev pub is_among : List ObjectId → ObjectId → Bool
is_among ids q = list_any (λ p. eq_by_cmp id_cmp q p) ids

-- a commit gets a distance, if any, and keeps its own where that is longer; no other commit's distance changes
abbrev pub HandsOne : Legacy → ObjectId → Skipped → Skipped → Type 0
HandsOne Common id old new = new ≡ old
HandsOne (Skips s) id old new = (skip_in new id ≡ longer (skip_in old id) s)
    × ((q : ObjectId) → eq_by_cmp id_cmp q id ≡ false → skip_in new q ≡ skip_in old q)

-- the same for several commits, except those that were taken
pub record Hands (legacy : Legacy) (ids : List ObjectId) (h : GraphData) (old new : Skipped) : Type 0 where
  pub handed : (s : Skip) (q : ObjectId) → legacy ≡ Skips s → is_among ids q ≡ true → has_mark POPPED h.held q ≡ false
      → skip_in new q ≡ longer (skip_in old q) s
  pub others : (q : ObjectId) → is_among ids q ≡ false → skip_in new q ≡ skip_in old q

-- all of some commits were taken
abbrev pub AllTaken : GraphData → List ObjectId → Type 0
AllTaken h ids = All (λ p. has_mark POPPED h.held p ≡ true) ids

-- a commit that the objects have is common, unless it was taken
abbrev pub IsCommonIfLeft : GraphData → ObjectId → Type 0
IsCommonIfLeft h id = IsSome (commit_at h.objects id) → has_mark POPPED h.held id ≡ false → has_mark COMMON h.held id ≡ true

-- a commit is taken from the queue, and no other is. Where it is neither common nor a ref of the server, its parents
-- that weren't taken get the distance that it passes on, and no commit becomes common. No other commit's distance
-- changes. It is offered only where none is left to skip, or as the last of a line, whose parents were all taken. Without
-- an offer, some are left to skip and a parent is queued, or it is common. Where it was common or a ref of the server, its
-- parents that weren't taken become common
pub record Takes (old : Skipped) (g : GraphData) (id : ObjectId) (is_offered : Bool) (new : Skipped) (h : GraphData) : Type 0 where
  pub hands : IsSome (commit_at g.objects id) → has_mark POPPED g.held id ≡ false → has_mark COMMON h.held id ≡ false
      → has_mark COMMON_REF h.held id ≡ false
      → (p : ObjectId) → is_among (parents_in h.held id) p ≡ true → has_mark POPPED h.held p ≡ false
      → skip_in new p ≡ longer (skip_in old p) (handed_on (skip_in old id))
  pub others : (q : ObjectId) → is_among (parents_in h.held id) q ≡ false → skip_in new q ≡ skip_in old q
  pub reached : is_offered ≡ true → ((skip_in old id).left ≡ 0) ⊎ AllTaken h (parents_in h.held id)
  pub passed : IsSome (commit_at g.objects id) → has_mark POPPED g.held id ≡ false → is_offered ≡ false → has_mark COMMON h.held id ≡ false
      → (0 < (skip_in old id).left) × (AllTaken h (parents_in h.held id) → ⊥)
  pub settles : has_mark COMMON g.held id ≡ false → has_mark COMMON_REF g.held id ≡ false → MarksNoCommon g h
  pub shares : IsSome (commit_at g.objects id) → has_mark POPPED g.held id ≡ false
      → (has_mark COMMON g.held id || has_mark COMMON_REF g.held id) ≡ true → All (IsCommonIfLeft h) (parents_in h.held id)
  pub taken : IsSome (commit_at g.objects id) → has_mark POPPED h.held id ≡ true
  pub pops : PopsOnly id g h

-- some commits are taken one after another, and none of them is offered
pub data TakesUnoffered (old : Skipped) (g : GraphData) : Skipped → GraphData → Type 0 where
  none : TakesUnoffered old g old g
  one : {k new : Skipped} {i h : GraphData} {id : ObjectId} → TakesUnoffered old g k i → Takes k i id false new h
      → TakesUnoffered old g new h

-- a commit is offered after some that aren't, or none is offered
abbrev pub Distances : Skipped → GraphData → Option ObjectId → Skipped → GraphData → Type 0
Distances old g None new h = TakesUnoffered old g new h
Distances old g (Some id) new h = (k : Skipped) × (i : GraphData) × TakesUnoffered old g k i × Takes k i id true new h
