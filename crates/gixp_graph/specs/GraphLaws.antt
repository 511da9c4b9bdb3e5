-- Laws of look-ups and of runs of calls, for the crates above.
use Rattle.std.proofs.Common.{◌≡◌, ◌∙◌, ◌⊎◌, inl, inr, Bool, true, false, cond, List, [], ◌∷◌, ◌++◌, Option, Some, None, refl, sym, ap, subst, true≢false}
use Rattle.std.specs.Prelude.{option_map, IsSome}
use Rattle.std.specs.Option.{option_or, option_map_or}
use Rattle.std.specs.declared.cmp.Ordering.{Ordering}
use Rattle.std.specs.declared.cmp.Ordering.TheVariants.{Less, Equal, Greater}
use Rattle.std.specs.Ordering.{is_eq, eq_by_cmp}
use Rattle.std.specs.FinMap as finite
use Rattle.std.specs.FinMap.{get-insert, same_map}
use Rattle.gixp_hash.specs.declared.object_id.ObjectId.{ObjectId}
use Rattle.gixp_hash.specs.ObjectId.{id_cmp}
use Rattle.gixp_hash.specs.IdLaws.{ids_exact, ids_total}
use Rattle.gixp_graph.specs.Object.{Commit, commit_at, time_at}
use Rattle.gixp_graph.specs.GraphData.{HeldCommit, Commits, GraphData, found_in, commit_in, as_read, unmarked, shown, shown_time, put, looked_up, is_complete, is_marked, IsFaithful}
use Rattle.gixp_graph.specs.Run.{Call, IsRun}

-- ---- ids

same_at : (o : Ordering) → is_eq o ≡ true → o ≡ Equal
same_at Less e = absurd (true≢false (sym e))
same_at Equal e = refl
same_at Greater e = absurd (true≢false (sym e))

pub same_from : (q id : ObjectId) → eq_by_cmp id_cmp q id ≡ true → q ≡ id
same_from q id e = ids_exact q id (same_at (id_cmp q id) e)

-- inserting a commit that is held changes nothing
pub put_same : (m : Commits) (id : ObjectId) (h : HeldCommit) → finite.get m id ≡ Some h → finite.insert m id h ≡ m
put_same m id h is = same_map ids_total ids_exact _ _ (λ q. get-insert ids_total m id h q ∙ at q (id_cmp q id) refl)
  where
    at : (q : ObjectId) (o : Ordering) → id_cmp q id ≡ o → cond (is_eq o) (Some h) (finite.get m q) ≡ finite.get m q
    at q Less e = refl
    at q Equal e = sym (ap (finite.get m) (ids_exact q id e) ∙ is)
    at q Greater e = refl

-- ---- graphs whose held commits are equal to the commits of their objects

reads_at : (o : Option HeldCommit) (p : Option Commit) → ((h : HeldCommit) → o ≡ Some h → p ≡ Some (as_read h))
    → option_map as_read (option_or o (option_map unmarked p)) ≡ p
reads_at None None f = refl
reads_at None (Some c) f = refl
reads_at (Some h) p f = sym (f h refl)

-- such a graph and its objects have the same commits
pub faithful_reads : (g : GraphData) → IsFaithful g → (id : ObjectId) → commit_in g id ≡ commit_at g.objects id
faithful_reads g f id = reads_at (finite.get g.held id) (commit_at g.objects id) (f id)

-- the time that is shown is the time of the commit
times_at : (o : Option HeldCommit) → shown_time (option_map shown o) ≡ option_map (λ (c : Commit). c.time) (option_map as_read o)
times_at None = refl
times_at (Some h) = refl

-- such a graph shows the times of its objects
pub faithful_time : (g : GraphData) → IsFaithful g → (id : ObjectId) → shown_time (option_map shown (found_in g id)) ≡ time_at g.objects id
faithful_time g f id = times_at (found_in g id) ∙ ap (option_map (λ (c : Commit). c.time)) (faithful_reads g f id)

-- ---- look-ups

marked_at : (g : GraphData) (id q : ObjectId) (o : Option HeldCommit) (p : Option Commit) → finite.get g.held id ≡ o
    → is_marked (put g.held id (option_or o (option_map unmarked p))) q ≡ is_marked g.held q
marked_at g id q (Some h) p is = ap (λ m. is_marked m q) (put_same g.held id h is)
marked_at g id q None None is = refl
marked_at g id q None (Some c) is = ap (λ o. option_map_or is_complete o false) (get-insert ids_total g.held id (unmarked c) q)
    ∙ at (eq_by_cmp id_cmp q id) refl
  where
    at : (b : Bool) → eq_by_cmp id_cmp q id ≡ b → option_map_or is_complete (cond b (Some (unmarked c)) (finite.get g.held q)) false
        ≡ is_marked g.held q
    at true e = sym (ap (is_marked g.held) (same_from q id e) ∙ ap (λ o. option_map_or is_complete o false) is)
    at false e = refl

-- a look-up marks nothing
pub marked_looked_up : (g : GraphData) (id q : ObjectId) → is_marked (looked_up g id) q ≡ is_marked g.held q
marked_looked_up g id q = marked_at g id q (finite.get g.held id) (commit_at g.objects id) refl

held_at : (g : GraphData) (id q : ObjectId) (o : Option HeldCommit) (p : Option Commit) → finite.get g.held id ≡ o
    → IsSome (finite.get (put g.held id (option_or o (option_map unmarked p))) q) → IsSome (finite.get g.held q) ⊎ (q ≡ id)
held_at g id q (Some h) p is f = inl (subst (λ m. IsSome (finite.get m q)) (put_same g.held id h is) f)
held_at g id q None None is f = inl f
held_at g id q None (Some c) is f = at (eq_by_cmp id_cmp q id) refl (subst IsSome (get-insert ids_total g.held id (unmarked c) q) f)
  where
    at : (b : Bool) → eq_by_cmp id_cmp q id ≡ b → IsSome (cond b (Some (unmarked c)) (finite.get g.held q))
        → IsSome (finite.get g.held q) ⊎ (q ≡ id)
    at true e f = inr (same_from q id e)
    at false e f = inl f

-- a commit that is held after a look-up was held before, or is the one looked up
pub held_looked_up : (g : GraphData) (id q : ObjectId) → IsSome (finite.get (looked_up g id) q) → IsSome (finite.get g.held q) ⊎ (q ≡ id)
held_looked_up g id q f = held_at g id q (finite.get g.held id) (commit_at g.objects id) refl f

-- ---- runs

-- a run with one more call at its end
pub run_more : {N : Type 0} (call : Call N) (ids : List ObjectId) (id : ObjectId) (n m k : N) (g h i : GraphData)
    → IsRun call ids n g m h → call m h id k i → IsRun call (ids ++ id ∷ []) n g k i
run_more call [] id n m k g h i r c = (k, i, subst (λ x. call x g id k i) r.0 (subst (λ x. call m x id k i) r.1 c), (refl, refl))
run_more call (x ∷ xs) id n m k g h i r c = (r.0, r.1, r.2, run_more call xs id r.0 m k r.1 h i r.3 c)
