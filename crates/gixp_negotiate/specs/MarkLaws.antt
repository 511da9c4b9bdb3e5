-- The marks that a negotiation leaves.
use Rattle.std.specs.Prelude.{◌≡◌, ◌⊎◌, ◌↔◌, List, IsTrue}
use Rattle.gixp_hash.specs.declared.object_id.ObjectId.{ObjectId}
use Rattle.gixp_graph.specs.Object.{commit_at}
use Rattle.gixp_graph.specs.GraphData.{GraphData, is_marked, HasNoMarks}
use Rattle.gixp_graph.specs.Complete.{IsComplete}
use Rattle.gixp_graph.specs.Run.{Call}
use Rattle.gixp_graph.specs.Negotiation.{NegotiatorCalls}
use Rattle.gixp_negotiate.specs.Marking.{cutoff_of, Marks}

-- a call that doesn't change which commits have the mark COMPLETE
abbrev pub LeavesMarks : {N : Type 0} → Call N → Type 0
LeavesMarks {N} call = (n : N) (g : GraphData) (id : ObjectId) (m : N) (h : GraphData) → call n g id m h → (q : ObjectId)
    → is_marked h.held q ≡ is_marked g.held q

-- exactly the complete commits are marked, and those that were marked before
abbrev pub MarksComplete : GraphData → List ObjectId → List ObjectId → GraphData → Type 0
MarksComplete g ids tips h = (id : ObjectId) → IsTrue (is_marked h.held id)
    ↔ (IsTrue (is_marked g.held id) ⊎ IsComplete (commit_at g.objects) tips (cutoff_of g.objects ids) id)

-- with a graph without marks, and a negotiator that leaves the mark COMPLETE alone, exactly the complete commits are
-- marked afterwards
abbrev pub CompleteMarksAreExact : {N : Type 0} → NegotiatorCalls N → Type 0
CompleteMarksAreExact {N} calls =
    (n : N) (g : GraphData) (ids tips : List ObjectId) (m : N) (h : GraphData) → LeavesMarks calls.knows → LeavesMarks calls.adds
    → HasNoMarks g.held → Marks calls n g ids tips m h
    → (id : ObjectId) → IsTrue (is_marked h.held id) ↔ IsComplete (commit_at g.objects) tips (cutoff_of g.objects ids) id
