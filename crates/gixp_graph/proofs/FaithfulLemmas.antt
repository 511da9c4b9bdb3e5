-- Graphs whose held commits are equal to the commits of their objects.
use Rattle.std.proofs.Common.{◌≡◌, ◌∙◌, Option, Some, None, List, ℤ, sym, ap, subst, refl, false, true, cond}
use Rattle.std.specs.Prelude.{option_map, is_some, Bool}
use Rattle.std.proofs.Common.{Result, Ok, Err}
use Rattle.std.specs.Result.{OnOk, OnErr}
use Rattle.std.specs.FinMap as finite
use Rattle.std.specs.FinMap.{get-empty, FinMap}
use Rattle.gixp_hash.specs.declared.object_id.ObjectId.{ObjectId}
use Rattle.gixp_graph.specs.declared.flags.Flags.{Flags}
use Rattle.gixp_hash.specs.ObjectId.{id_cmp}
use Rattle.gixp_graph.specs.Object.{Object, Commit, commit_at}
use Rattle.gixp_graph.specs.GraphData.{HeldCommit, Commits, GraphData, graph_of, found_in, as_read, if_unmarked, is_complete, IsFaithful, looked_up, flagged, with_flags, put}
use Rattle.std.specs.Ordering.{eq_by_cmp}
use Rattle.gixp_graph.specs.GraphLaws.{faithful_reads, same_from}
use Rattle.gixp_graph.proofs.MarkLemmas.{get_insert_same, get_insert_other}
use Rattle.gixp_graph.specs.Complete.{IsComplete}

-- an empty graph is one
pub faithful_empty : (objects : FinMap id_cmp Object) → IsFaithful (graph_of objects finite.empty)
faithful_empty objects id h e =
    absurd (let n : ◌≡◌ {A = Option HeldCommit} (finite.get (finite.empty {R = id_cmp}) id) None = get-empty id_cmp id in cc)

-- readings that agree have the same complete commits
pub complete_same : (r s : ObjectId → Option Commit) → ((id : ObjectId) → r id ≡ s id)
    → (ids : List ObjectId) (cutoff : Option ℤ) (id : ObjectId) → IsComplete r ids cutoff id → IsComplete s ids cutoff id
complete_same r s e ids cutoff id (IsComplete.tip i f) = IsComplete.tip i (ap is_some (sym (e id)) ∙ f)
complete_same r s e ids cutoff p (IsComplete.parent {id = id} k d l t i f) =
    IsComplete.parent (complete_same r s e ids cutoff id k) (sym (e id) ∙ d) l t i (ap is_some (sym (e p)) ∙ f)

-- a new commit is found
found_at : (o : Option HeldCommit) (k : HeldCommit) → if_unmarked o ≡ Some k → o ≡ Some k
found_at None k e = cc
found_at (Some h) k e = at (is_complete h) e
  where
    at : (b : Bool) → cond b None (Some h) ≡ Some k → ◌≡◌ {A = Option HeldCommit} (Some h) (Some k)
    at true e = cc
    at false e = e

-- a graph stays one after a commit of its objects is inserted
faithful_insert : (g : GraphData) → IsFaithful g → (id : ObjectId) (h : HeldCommit) → commit_at g.objects id ≡ Some (as_read h)
    → IsFaithful (graph_of g.objects (finite.insert g.held id h))
faithful_insert g f id h at q k e = here (eq_by_cmp id_cmp q id) refl
  where
    here : (b : Bool) → eq_by_cmp id_cmp q id ≡ b → commit_at g.objects q ≡ Some (as_read k)
    here true same =
        let one : q ≡ id = same_from q id same in
        let s : Some h ≡ Some k = sym (get_insert_same g.held id h)
        ∙ subst (λ x. finite.get (finite.insert g.held id h) x ≡ Some k) one e in
        ap (commit_at g.objects) one ∙ at ∙ ap (λ (x : HeldCommit). Some (as_read x)) (let t : h ≡ k = cc in t)
    here false apart = f q k (sym (get_insert_other g.held id h q apart) ∙ e)

-- a graph stays one after a look-up
pub faithful_looked_up : (g : GraphData) → IsFaithful g → (id : ObjectId) → IsFaithful (graph_of g.objects (looked_up g id))
faithful_looked_up g f id = at (found_in g id) (sym (faithful_reads g f id))
  where
    at : (o : Option HeldCommit) → commit_at g.objects id ≡ option_map as_read o → IsFaithful (graph_of g.objects (put g.held id o))
    at None e = f
    at (Some h) e = faithful_insert g f id h e

-- a graph stays one after marks are added
pub faithful_flagged : (g : GraphData) → IsFaithful g → (id : ObjectId) (flags : Flags)
    → IsFaithful (graph_of g.objects (flagged g.held id flags))
faithful_flagged g f id flags = at (finite.get g.held id) refl
  where
    at : (o : Option HeldCommit) → finite.get g.held id ≡ o
        → IsFaithful (graph_of g.objects (put g.held id (option_map (with_flags flags) o)))
    at None e = f
    at (Some h) e = faithful_insert g f id (with_flags flags h) (f id h e)

-- a graph stays one whether a look-up succeeds or fails
pub faithful_lookup : {T E : Type 0} (r : Result T E) (g : GraphData) → IsFaithful g → (id : ObjectId) (objects : FinMap id_cmp Object)
    (new : Commits) → objects ≡ g.objects → OnOk r (new ≡ looked_up g id) → OnErr r (new ≡ g.held) → IsFaithful (graph_of objects new)
faithful_lookup (Ok x) g f id objects new o a b = subst (λ m. IsFaithful (graph_of m new)) (sym o)
    (subst (λ n. IsFaithful (graph_of g.objects n)) (sym a) (faithful_looked_up g f id))
faithful_lookup (Err e) g f id objects new o a b =
    subst (λ m. IsFaithful (graph_of m new)) (sym o) (subst (λ n. IsFaithful (graph_of g.objects n)) (sym b) f)
