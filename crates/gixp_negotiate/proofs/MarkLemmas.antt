-- Marks after calls that leave them alone.
use Rattle.std.proofs.Common.{◌≡◌, ◌∙◌, ◌⊎◌, inl, inr, ◌↔◌, Bool, false, List, [], ◌∷◌, sym, ap, subst, true≢false}
use Rattle.std.specs.Prelude.{IsTrue}
use Rattle.gixp_hash.specs.declared.object_id.ObjectId.{ObjectId}
use Rattle.gixp_graph.specs.Object.{commit_at}
use Rattle.gixp_graph.specs.GraphData.{GraphData, is_marked}
use Rattle.gixp_graph.specs.Complete.{IsComplete}
use Rattle.gixp_graph.specs.Run.{Call, IsRun}
use Rattle.gixp_graph.specs.Negotiation.{NegotiatorCalls}
use Rattle.gixp_negotiate.specs.Marking.{cutoff_of, Marks}
use Rattle.gixp_negotiate.specs.MarkLaws.{LeavesMarks, MarksComplete, CompleteMarksAreExact}

run_leaves : {N : Type 0} (call : Call N) → LeavesMarks call → (ids : List ObjectId) (n : N) (g : GraphData) (m : N) (h : GraphData)
    → IsRun call ids n g m h → (q : ObjectId) → is_marked h.held q ≡ is_marked g.held q
run_leaves call law [] n g m h r q = ap (λ x. is_marked x.held q) r.1
run_leaves call law (id ∷ ids) n g m h r q = run_leaves call law ids r.0 r.1 m h r.3 q ∙ law n g id r.0 r.1 r.2 q

-- the marks after all calls are the walk's
pub marks_complete : {N : Type 0} (calls : NegotiatorCalls N) (n : N) (g : GraphData) (ids tips : List ObjectId) (m : N) (h : GraphData)
    → LeavesMarks calls.knows → LeavesMarks calls.adds → Marks calls n g ids tips m h → MarksComplete g ids tips h
marks_complete calls n g ids tips m h k a marks id =
    subst (λ (b : Bool). IsTrue b ↔ (IsTrue (is_marked g.held id) ⊎ IsComplete (commit_at g.objects) tips (cutoff_of g.objects ids) id))
    (sym (run_leaves calls.adds a _ marks.reported marks.reported_graph m h marks.added id
    ∙ run_leaves calls.knows k _ n marks.walked marks.reported marks.reported_graph marks.known id)) (marks.marked id)

from_none : (b : Bool) (C : Type 0) → b ≡ false → IsTrue b ⊎ C → C
from_none b C e (inl t) = absurd (true≢false (sym t ∙ e))
from_none b C e (inr c) = c

pub marks_are_exact : {N : Type 0} (calls : NegotiatorCalls N) → CompleteMarksAreExact calls
marks_are_exact calls n g ids tips m h k a none marks id =
    let both = marks_complete calls n g ids tips m h k a marks id in
    (λ t. from_none (is_marked g.held id) _ (none id) (both.0 t), λ c. both.1 (inr c))
