-- Which commits get a mark in a step of a negotiation.
use Rattle.std.specs.Prelude.{◌≡◌, ◌||◌, ℕ, true, IsSome}
use Rattle.std.specs.FinMap as finite
use Rattle.std.specs.Ordering.{eq_by_cmp}
use Rattle.gixp_hash.specs.declared.object_id.ObjectId.{ObjectId}
use Rattle.gixp_hash.specs.ObjectId.{id_cmp}
use Rattle.gixp_graph.specs.GraphData.{GraphData, is_marked, parents_in}
use Rattle.gixp_negotiators.specs.Marks.{COMMON, COMMON_REF, SEEN, POPPED, has_mark}

-- marks are only added, and COMPLETE isn't touched
pub record Grows (g h : GraphData) : Type 0 where
  pub objects : h.objects ≡ g.objects
  pub held : (id : ObjectId) → IsSome (finite.get g.held id) → IsSome (finite.get h.held id)
  pub marks : (marks : ℕ) (id : ObjectId) → has_mark marks g.held id ≡ true → has_mark marks h.held id ≡ true
  pub complete : (id : ObjectId) → is_marked h.held id ≡ is_marked g.held id
  pub parents : (id : ObjectId) → IsSome (finite.get g.held id) → parents_in h.held id ≡ parents_in g.held id

-- no commit gets a mark that it didn't have
abbrev pub AddsNone : ℕ → GraphData → GraphData → Type 0
AddsNone mark g h = (id : ObjectId) → has_mark mark h.held id ≡ true → has_mark mark g.held id ≡ true

-- only this commit gets a mark that it didn't have
abbrev pub AddsOnly : ℕ → ObjectId → GraphData → GraphData → Type 0
AddsOnly mark one g h = (id : ObjectId) → has_mark mark h.held id ≡ true → (has_mark mark g.held id || eq_by_cmp id_cmp id one) ≡ true

-- no commit is newly seen
abbrev pub SeesNone : GraphData → GraphData → Type 0
SeesNone g h = AddsNone SEEN g h

-- only this commit is newly seen
abbrev pub SeesOnly : ObjectId → GraphData → GraphData → Type 0
SeesOnly one g h = AddsOnly SEEN one g h

-- no commit becomes common
abbrev pub MarksNoCommon : GraphData → GraphData → Type 0
MarksNoCommon g h = AddsNone COMMON g h

-- only this commit becomes common
abbrev pub MarksCommonOnly : ObjectId → GraphData → GraphData → Type 0
MarksCommonOnly one g h = AddsOnly COMMON one g h

-- no commit is newly marked as a ref of the server
abbrev pub ListsNone : GraphData → GraphData → Type 0
ListsNone g h = AddsNone COMMON_REF g h

-- only this commit is newly marked as a ref of the server
abbrev pub ListsOnly : ObjectId → GraphData → GraphData → Type 0
ListsOnly one g h = AddsOnly COMMON_REF one g h

-- no commit is taken from the queue
abbrev pub PopsNone : GraphData → GraphData → Type 0
PopsNone g h = AddsNone POPPED g h

-- only this commit is taken from the queue
abbrev pub PopsOnly : ObjectId → GraphData → GraphData → Type 0
PopsOnly one g h = AddsOnly POPPED one g h

-- commits may become common; none gets another mark of a negotiator
pub record MarksOnlyAsCommon (g h : GraphData) : Type 0 where
  pub sees : SeesNone g h
  pub lists : ListsNone g h
  pub pops : PopsNone g h
