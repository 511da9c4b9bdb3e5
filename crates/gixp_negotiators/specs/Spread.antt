-- How the mark of a common commit spreads to its parents (gitprotocol-pack, "Packfile Negotiation").
use Rattle.std.specs.Prelude.{◌≡◌, ◌⊎◌, ◌||◌, Bool, true, false, List, [], ◌∷◌, ◌++◌, All, Contains, IsSome, is_some}
use Rattle.gixp_hash.specs.declared.object_id.ObjectId.{ObjectId}
use Rattle.gixp_graph.specs.Object.{commit_at}
use Rattle.gixp_graph.specs.GraphData.{GraphData, parents_in}
use Rattle.gixp_negotiators.specs.Marks.{COMMON, SEEN, has_mark}
use Rattle.gixp_negotiators.specs.AddedMarks.{Grows}

-- which parents of a common commit become common: those that the objects have
abbrev pub is_there : GraphData → ObjectId → Bool
is_there g id = is_some (commit_at g.objects id)

-- which parents of a common commit become common: those that were seen
abbrev pub was_seen : GraphData → ObjectId → Bool
was_seen g id = has_mark SEEN g.held id

-- a commit of this kind becomes common
abbrev pub BecomesCommon : (GraphData → ObjectId → Bool) → GraphData → GraphData → ObjectId → Type 0
BecomesCommon kind g h id = kind g id ≡ true → has_mark COMMON h.held id ≡ true

-- the parents of this kind of a commit become common
abbrev pub HasCommonParents : (GraphData → ObjectId → Bool) → GraphData → GraphData → ObjectId → Type 0
HasCommonParents kind g h id = All (BecomesCommon kind g h) (parents_in h.held id)

-- the statement holds where the commit was seen and wasn't common
abbrev pub WhereOpen : GraphData → ObjectId → Type 0 → Type 0
WhereOpen g id Holds = has_mark SEEN g.held id ≡ true → has_mark COMMON g.held id ≡ false → Holds

-- the statement holds where the objects have the commit, and it was neither seen nor common
abbrev pub WhereNew : GraphData → ObjectId → Type 0 → Type 0
WhereNew g id Holds = IsSome (commit_at g.objects id) → has_mark SEEN g.held id ≡ false → has_mark COMMON g.held id ≡ false → Holds

-- a commit of the objects was seen, or is common
abbrev pub IsKnown : GraphData → ObjectId → Type 0
IsKnown g id = IsSome (commit_at g.objects id) → (has_mark SEEN g.held id || has_mark COMMON g.held id) ≡ true

-- the parents of each seen commit that became common are common
abbrev pub Spreads : (GraphData → ObjectId → Bool) → GraphData → GraphData → Type 0
Spreads kind g h = (id : ObjectId) → has_mark SEEN g.held id ≡ true → has_mark COMMON g.held id ≡ false → has_mark COMMON h.held id ≡ true
    → HasCommonParents kind g h id

-- the same, except for the parents of these commits, which are due
abbrev pub SpreadsBut : (GraphData → ObjectId → Bool) → List ObjectId → GraphData → GraphData → Type 0
SpreadsBut kind due g h = (id : ObjectId) → has_mark SEEN g.held id ≡ true → has_mark COMMON g.held id ≡ false
    → has_mark COMMON h.held id ≡ true
    → Contains due id ⊎ HasCommonParents kind g h id

-- a step keeps this; the commits that are due change with it
unfoldable pub KeepsSpread : (GraphData → ObjectId → Bool) → List ObjectId → GraphData → List ObjectId → GraphData → Type 0
KeepsSpread kind before g due h = (f : GraphData) (xs : List ObjectId) → Grows f g → SpreadsBut kind (xs ++ before) f g
    → SpreadsBut kind (xs ++ due) f h

-- a step keeps it that the marks have spread
unfoldable pub StaysSpread : (GraphData → ObjectId → Bool) → GraphData → GraphData → Type 0
StaysSpread kind g h = (f : GraphData) → Grows f g → Spreads kind f g → Spreads kind f h

-- the marks spread from a commit; others may become due
unfoldable pub SpreadsFrom : (GraphData → ObjectId → Bool) → ObjectId → List ObjectId → GraphData → List ObjectId → GraphData → Type 0
SpreadsFrom kind id before g due h = (f : GraphData) → Grows f g → SpreadsBut kind (id ∷ before) f g → SpreadsBut kind due f h

-- the marks spread from a commit, and none stays due
unfoldable pub SpreadsAllFrom : (GraphData → ObjectId → Bool) → ObjectId → GraphData → GraphData → Type 0
SpreadsAllFrom kind id g h = (f : GraphData) → Grows f g → SpreadsBut kind (id ∷ []) f g → Spreads kind f h

-- the commits that the mark spreads to from a commit: itself, and the parents of each of them that was seen and wasn't common
pub data LeadsTo (kind : GraphData → ObjectId → Bool) (g : GraphData) (id : ObjectId) : ObjectId → Type 0 where
  itself : LeadsTo kind g id id
  parent : {child : ObjectId} {p : ObjectId} → LeadsTo kind g id child → has_mark SEEN g.held child ≡ true
      → has_mark COMMON g.held child ≡ false → Contains (parents_in g.held child) p → kind g p ≡ true → LeadsTo kind g id p
