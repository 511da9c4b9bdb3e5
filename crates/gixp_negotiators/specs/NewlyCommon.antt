-- Which commits become common when the server acknowledges a commit (gitprotocol-pack, "Packfile Negotiation").
use Rattle.std.specs.Prelude.{◌≡◌, ◌⊎◌, true, false, List, All, Contains, IsSome}
use Rattle.std.specs.BTreeSet.{BTreeSet, contains}
use Rattle.std.specs.FinMap as finite
use Rattle.gixp_hash.specs.declared.object_id.ObjectId.{ObjectId}
use Rattle.gixp_hash.specs.ObjectId.{id_cmp}
use Rattle.gixp_graph.specs.GraphData.{GraphData, parents_in}
use Rattle.gixp_negotiators.specs.Marks.{COMMON, SEEN, has_mark}
use Rattle.gixp_negotiators.specs.AddedMarks.{Grows}

-- a commit becomes common
abbrev pub IsNewlyCommon : GraphData → GraphData → ObjectId → Type 0
IsNewlyCommon g h id = (has_mark COMMON g.held id ≡ false) × (has_mark COMMON h.held id ≡ true)

-- each of these commits is common
abbrev pub AllCommonAmong : GraphData → List ObjectId → Type 0
AllCommonAmong g ids = All (λ id. has_mark COMMON g.held id ≡ true) ids

-- where the commits that were due had become common since some graph, the commits that are due now have too
abbrev pub StaysNewly : List ObjectId → GraphData → List ObjectId → GraphData → Type 0
StaysNewly before g due h = (f : GraphData) → Grows f g → All (IsNewlyCommon f g) before → All (IsNewlyCommon f h) due

-- each commit that became common was read before
abbrev pub AllRead : BTreeSet ObjectId → GraphData → GraphData → Type 0
AllRead unread g h = (id : ObjectId) → IsNewlyCommon g h id → contains id_cmp unread id ≡ false

-- each commit that became common was read and held before
abbrev pub AllHeld : BTreeSet ObjectId → GraphData → GraphData → Type 0
AllHeld unread g h = (id : ObjectId) → IsNewlyCommon g h id → (contains id_cmp unread id ≡ false) × IsSome (finite.get g.held id)

-- the commits that marking reaches from a commit: itself, and the parents of each of them that was read
pub data MarksOn (unread : BTreeSet ObjectId) (g : GraphData) (id : ObjectId) : ObjectId → Type 0 where
  itself : MarksOn unread g id id
  parent : {child : ObjectId} {p : ObjectId} → MarksOn unread g id child → contains id_cmp unread child ≡ false
      → Contains (parents_in g.held child) p → MarksOn unread g id p

-- each commit that became common is one that marking reaches
abbrev pub MarksThrough : BTreeSet ObjectId → GraphData → ObjectId → GraphData → Type 0
MarksThrough unread g id h = (q : ObjectId) → IsNewlyCommon g h q → MarksOn unread g id q

-- a commit and its ancestors, as far as the graph holds them
pub data IsFrom (g : GraphData) (id : ObjectId) : ObjectId → Type 0 where
  itself : IsFrom g id id
  parent : {child : ObjectId} {p : ObjectId} → IsFrom g id child → Contains (parents_in g.held child) p → IsFrom g id p

-- each commit that became common is this one or one of its ancestors
abbrev pub MarksCommonFrom : ObjectId → GraphData → GraphData → Type 0
MarksCommonFrom id g h = (q : ObjectId) → IsNewlyCommon g h q → IsFrom h id q

-- only these commits become common
abbrev pub MarksCommonWithin : List ObjectId → GraphData → GraphData → Type 0
MarksCommonWithin ids g h = (q : ObjectId) → has_mark COMMON h.held q ≡ true → (has_mark COMMON g.held q ≡ true) ⊎ Contains ids q

-- each commit that is due was due before, or is one of these
abbrev pub OwesAmong : List ObjectId → List ObjectId → List ObjectId → Type 0
OwesAmong ids before due = All (λ q. Contains before q ⊎ Contains ids q) due

-- only these commits become common, and only those that were seen
abbrev pub MarksCommonAmong : List ObjectId → GraphData → GraphData → Type 0
MarksCommonAmong ids g h = (q : ObjectId) → has_mark COMMON h.held q ≡ true → (has_mark COMMON g.held q ≡ true)
    ⊎ ((has_mark SEEN g.held q ≡ true) × Contains ids q)
