-- One step of the walk: a commit is marked and queued, where it is found and isn't marked yet.
use Rattle.std.proofs.Common.{◌≡◌, ℤ, ◌∙◌, ◌⊎◌, inl, inr, ⊎_elim, Bool, true, false, cond, ◌||◌, List, ◌∷◌, ◌++◌, Option, Some, None, refl, sym, ap, subst}
use Rattle.std.specs.Prelude.{option_map, is_some, IsSome, All}
use Rattle.std.specs.Option.{option_or, option_map_or}
use Rattle.std.specs.Ordering.{eq_by_cmp}
use Rattle.std.specs.List.Sorted.{IsPermutation}
use Rattle.std.proofs.lemmas.List.Sorted.{All-permutation, list_any-IsPermutation, IsPermutation-trans, IsPermutation-sym, IsPermutation-middle, IsPermutation-append_right}
use Rattle.std.proofs.lemmas.List.Elements.{All-cons, All-weaker}
use Rattle.std.proofs.lemmas.Bool.{or_cases}
use Rattle.std.specs.FinMap as finite
use Rattle.gixp_hash.specs.declared.object_id.ObjectId.{ObjectId}
use Rattle.gixp_hash.specs.ObjectId.{id_cmp}
use Rattle.gixp_graph.specs.Object.{Objects, Commit, commit_at}
use Rattle.gixp_graph.specs.GraphData.{HeldCommit, Commits, GraphData, graph_of, found_in, commit_in, as_read, unmarked, put, is_complete, is_marked, completed, if_unmarked, new_in, marked_found, OnlyMarks}
use Rattle.gixp_graph.specs.Complete.{IsComplete, IsDue}
use Rattle.gixp_graph.specs.Waiting.{Waiting, Queues}
use Rattle.gixp_graph.specs.Walk.{Walk, beside, waits, IsExpanded, IsMarking, IsQueued, IsWalk, Visits}
use Rattle.gixp_graph.specs.GraphLaws.{same_from}
use Rattle.gixp_graph.proofs.VisitedLemmas.{or_true}
use Rattle.gixp_graph.proofs.MarkLemmas.{same_id, get_insert_same, get_insert_other, true_or_false, is_complete-completed}

-- an id that may be read is complete, where its commit is found
pub due_complete : (read : ObjectId → Option Commit) (ids : List ObjectId) (cutoff : Option ℤ) (id : ObjectId)
    → IsDue read ids cutoff id → IsSome (read id) → IsComplete read ids cutoff id
due_complete read ids cutoff id (IsDue.tip c) f = IsComplete.tip c f
due_complete read ids cutoff id (IsDue.parent k r l t i) f = IsComplete.parent k r l t i f

-- ---- one new commit

new_at : (o : Option HeldCommit) (h : HeldCommit) → if_unmarked o ≡ Some h → (o ≡ Some h) × (is_complete h ≡ false)
new_at None h e = cc
new_at (Some k) h e = at (is_complete k) refl e
  where
    at : (b : Bool) → is_complete k ≡ b → cond b None (Some k) ≡ Some h → (◌≡◌ {A = Option HeldCommit} (Some k) (Some h))
        × (is_complete h ≡ false)
    at true p e = cc
    at false p e = (e, ap is_complete (sym (let s : k ≡ h = cc in s)) ∙ p)

-- a new commit is found, and isn't marked
pub found_from_new : (g : GraphData) (id : ObjectId) (h : HeldCommit) → new_in g id ≡ Some h → (found_in g id ≡ Some h)
    × (is_complete h ≡ false)
found_from_new g id h e = new_at (found_in g id) h e

unmarked_at : (o : Option HeldCommit) (p : Option HeldCommit) (h : HeldCommit) → option_or o p ≡ Some h → is_complete h ≡ false
    → option_map_or is_complete o false ≡ false
unmarked_at None p h e u = refl
unmarked_at (Some k) p h e u = ap is_complete (let s : k ≡ h = cc in s) ∙ u

-- a new commit isn't marked
pub unmarked_from_new : (g : GraphData) (id : ObjectId) (h : HeldCommit) → new_in g id ≡ Some h → is_marked g.held id ≡ false
unmarked_from_new g id h e =
    let f = found_from_new g id h e in
    unmarked_at (finite.get g.held id) (option_map unmarked (commit_at g.objects id)) h f.0 f.1

full_at : (b : Bool) (h : HeldCommit) → cond b None (Some h) ≡ None → b ≡ true
full_at true h e = refl
full_at false h e = cc

old_at : (o : Option HeldCommit) (p : Option Commit) → if_unmarked (option_or o (option_map unmarked p)) ≡ None
    → IsSome (option_map as_read (option_or o (option_map unmarked p))) → option_map_or is_complete o false ≡ true
old_at (Some h) p e s = full_at (is_complete h) h e
old_at None None e s = cc
old_at None (Some c) e s = absurd (let n : ◌≡◌ {A = Option HeldCommit} (Some (unmarked c)) None = e in cc)

-- ---- only marks change

module _ (g : GraphData) (held : Commits) (only : OnlyMarks g held) where
  -- a commit that is held as before is found as before
  reads_same : (q : ObjectId) → finite.get held q ≡ finite.get g.held q → found_in (graph_of g.objects held) q ≡ found_in g q
  reads_same q e = ap (λ o. option_or o (option_map unmarked (commit_at g.objects q))) e

  -- a commit that was written with the mark has it
  pub marked_by : (q : ObjectId) (h : HeldCommit) → finite.get held q ≡ Some (completed h) → is_marked held q ≡ true
  marked_by q h e = ap (λ o. option_map_or is_complete o false) e ∙ is_complete-completed h

  -- a commit that isn't marked is as before
  pub same_unmarked : (q : ObjectId) → is_marked held q ≡ false → finite.get held q ≡ finite.get g.held q
  same_unmarked q u = ⊎_elim (λ e. e) (λ n. absurd (let t = marked_by q n.0 n.2 in cc)) (only q)

  -- each commit reads as before
  pub reads : (q : ObjectId) → commit_in (graph_of g.objects held) q ≡ commit_in g q
  reads q = ⊎_elim (λ e. ap (option_map as_read) (reads_same q e))
      (λ n. ap (λ o. option_map as_read (option_or o (option_map unmarked (commit_at g.objects q)))) n.2
      ∙ sym (ap (option_map as_read) (found_from_new g q n.0 n.1).0)) (only q)

  -- a commit that is new now was new before
  pub new_before : (id : ObjectId) (h : HeldCommit) → new_in (graph_of g.objects held) id ≡ Some h → new_in g id ≡ Some h
  new_before id h e = ap if_unmarked (sym (reads_same id (same_unmarked id (unmarked_from_new (graph_of g.objects held) id h e)))) ∙ e

  -- a commit that is found and isn't new is marked
  pub marked_if_old : (id : ObjectId) → new_in (graph_of g.objects held) id ≡ None → IsSome (commit_in g id) → is_marked held id ≡ true
  marked_if_old id e s = old_at (finite.get held id) (commit_at g.objects id) e (ap is_some (reads id) ∙ s)

-- ---- a step: one commit is marked, where it is found

-- a commit that is written is marked, and no mark is lost
pub marked_here : (held : Commits) (id : ObjectId) (h : HeldCommit) → is_marked (finite.insert held id (completed h)) id ≡ true
marked_here held id h = ap (λ o. option_map_or is_complete o false) (get_insert_same held id (completed h)) ∙ is_complete-completed h

-- other commits keep their marks
pub marked_apart : (held : Commits) (id : ObjectId) (h : HeldCommit) (q : ObjectId) → eq_by_cmp id_cmp q id ≡ false
    → is_marked (finite.insert held id (completed h)) q ≡ is_marked held q
marked_apart held id h q e = ap (λ o. option_map_or is_complete o false) (get_insert_other held id (completed h) q e)

-- no mark is lost
pub marked_still : (held : Commits) (id : ObjectId) (h : HeldCommit) (q : ObjectId) → is_marked held q ≡ true
    → is_marked (finite.insert held id (completed h)) q ≡ true
marked_still held id h q m = ⊎_elim
    (λ e. subst (λ x. is_marked (finite.insert held id (completed h)) x ≡ true) (sym (same_from q id e)) (marked_here held id h))
    (λ e. marked_apart held id h q e ∙ m) (true_or_false (eq_by_cmp id_cmp q id))

-- inserting a new commit with the mark adds only a mark
pub only_marks_insert : (g : GraphData) (held : Commits) → OnlyMarks g held → (id : ObjectId) (h : HeldCommit)
    → new_in (graph_of g.objects held) id ≡ Some h → OnlyMarks g (finite.insert held id (completed h))
only_marks_insert g held only id h new q = ⊎_elim
    (λ e. subst (λ x. (finite.get (finite.insert held id (completed h)) x ≡ finite.get g.held x) ⊎ ((k : HeldCommit)
    × (new_in g x ≡ Some k) × (finite.get (finite.insert held id (completed h)) x ≡ Some (completed k)))) (sym (same_from q id e))
    (inr (h, new_before g held only id h new, get_insert_same held id (completed h))))
    (λ e. subst (λ o. (o ≡ finite.get g.held q) ⊎ ((k : HeldCommit) × (new_in g q ≡ Some k) × (o ≡ Some (completed k))))
    (sym (get_insert_other held id (completed h) q e)) (only q))
    (true_or_false (eq_by_cmp id_cmp q id))

-- ---- a step of the walk

-- inserting a complete commit with the mark marks only complete ones
pub marking_insert : (g : GraphData) (ids : List ObjectId) (cutoff : Option ℤ) (held : Commits) → IsMarking g ids cutoff held
    → (id : ObjectId) (h : HeldCommit) → new_in (graph_of g.objects held) id ≡ Some h → IsComplete (commit_in g) ids cutoff id
    → IsMarking g ids cutoff (finite.insert held id (completed h))
marking_insert g ids cutoff held w id h new due = record {
  only_marks = only_marks_insert g held w.only_marks id h new;
  sound = λ q m. ⊎_elim
      (λ e. inr (subst (λ x. IsComplete (commit_in g) ids cutoff x) (sym (same_from q id e)) due))
      (λ e. w.sound q (sym (marked_apart held id h q e) ∙ m)) (true_or_false (eq_by_cmp id_cmp q id));
}

-- a new id is found
pub found_if_new : (g : GraphData) (held : Commits) → OnlyMarks g held → (id : ObjectId) (h : HeldCommit)
    → new_in (graph_of g.objects held) id ≡ Some h → commit_in g id ≡ Some (as_read h)
found_if_new g held only id h new = ap (option_map as_read) (found_from_new g id h (new_before g held only id h new)).0

-- which commits are queued after a push
pub waits_pushed : (x : Waiting) (old new : List Waiting) → IsPermutation (x ∷ old) new → (q : ObjectId)
    → waits new q ≡ (eq_by_cmp id_cmp q x.id || waits old q)
waits_pushed x old new p q = sym (list_any-IsPermutation (λ (y : Waiting). eq_by_cmp id_cmp q y.id) (x ∷ old) new p)

-- ---- a step, as the code makes it

module _ (held : Commits) (objects : Objects) (id : ObjectId) (held' : Commits) where
  keeps_at : (o : Option HeldCommit) → held' ≡ put held id (option_map completed o) → (q : ObjectId) → is_marked held q ≡ true
      → is_marked held' q ≡ true
  keeps_at None m q t = subst (λ m. is_marked m q ≡ true) (sym m) t
  keeps_at (Some h) m q t = subst (λ m. is_marked m q ≡ true) (sym m) (marked_still held id h q t)

  -- no mark is lost
  pub step_keeps : held' ≡ marked_found (graph_of objects held) id → (q : ObjectId) → is_marked held q ≡ true → is_marked held' q ≡ true
  step_keeps m = keeps_at (new_in (graph_of objects held) id) m

module _ (g : GraphData) (held : Commits) (objects : Objects) (same : objects ≡ g.objects) (id : ObjectId) (held' : Commits) where
  new_same : (o : Option HeldCommit) → new_in (graph_of objects held) id ≡ o → new_in (graph_of g.objects held) id ≡ o
  new_same o e = ap (λ m. new_in (graph_of m held) id) (sym same) ∙ e

  only_at : OnlyMarks g held → (o : Option HeldCommit) → new_in (graph_of objects held) id ≡ o
      → held' ≡ put held id (option_map completed o) → OnlyMarks g held'
  only_at only None e m = subst (OnlyMarks g) (sym m) only
  only_at only (Some h) e m = subst (OnlyMarks g) (sym m) (only_marks_insert g held only id h (new_same (Some h) e))

  -- only marks change
  pub step_only : OnlyMarks g held → held' ≡ marked_found (graph_of objects held) id → OnlyMarks g held'
  step_only only m = only_at only (new_in (graph_of objects held) id) refl m

  marks_at : OnlyMarks g held → (o : Option HeldCommit) → new_in (graph_of objects held) id ≡ o
      → held' ≡ put held id (option_map completed o) → IsSome (commit_in g id) → is_marked held' id ≡ true
  marks_at only None e m s = subst (λ m. is_marked m id ≡ true) (sym m) (marked_if_old g held only id (new_same None e) s)
  marks_at only (Some h) e m s = subst (λ m. is_marked m id ≡ true) (sym m) (marked_here held id h)

  -- the commit is marked, where it is found
  pub step_marks : OnlyMarks g held → held' ≡ marked_found (graph_of objects held) id → IsSome (commit_in g id) → is_marked held' id ≡ true
  step_marks only m s = marks_at only (new_in (graph_of objects held) id) refl m s

module _ (g : GraphData) (ids : List ObjectId) (cutoff : Option ℤ) (held : Commits) (objects : Objects) (same : objects ≡ g.objects)
    (id : ObjectId) (held' : Commits) where
  due_new : OnlyMarks g held → (IsSome (commit_in g id) → IsComplete (commit_in g) ids cutoff id) → (h : HeldCommit)
      → new_in (graph_of objects held) id ≡ Some h → IsComplete (commit_in g) ids cutoff id
  due_new only due h e = due (ap is_some (found_if_new g held only id h (new_same g held objects same id held' (Some h) e)))

  marking_at : IsMarking g ids cutoff held → (IsSome (commit_in g id) → IsComplete (commit_in g) ids cutoff id)
      → (o : Option HeldCommit) → new_in (graph_of objects held) id ≡ o → held' ≡ put held id (option_map completed o)
      → IsMarking g ids cutoff held'
  marking_at w due None e m = subst (IsMarking g ids cutoff) (sym m) w
  marking_at w due (Some h) e m = subst (IsMarking g ids cutoff) (sym m)
      (marking_insert g ids cutoff held w id h (new_same g held objects same id held' (Some h) e) (due_new w.only_marks due h e))

  -- only complete commits are marked, also where the step failed
  pub marking_step : IsMarking g ids cutoff held → (IsSome (commit_in g id) → IsComplete (commit_in g) ids cutoff id) → (held' ≡ held)
      ⊎ (held' ≡ marked_found (graph_of objects held) id) → IsMarking g ids cutoff held'
  marking_step w due c =
      ⊎_elim (λ e. subst (IsMarking g ids cutoff) (sym e) w) (λ e. marking_at w due (new_in (graph_of objects held) id) refl e) c

-- a commit is queued whatever else is queued
pub queues_more : (o : Option HeldCommit) (id : ObjectId) (others old new : List Waiting) → Queues o id old new
    → Queues o id (others ++ old) (others ++ new)
queues_more None id others old new q = ap (λ l. others ++ l) q
queues_more (Some h) id others old new q = IsPermutation-trans _ _ _ (IsPermutation-sym _ _
    (IsPermutation-middle others (record { time = h.time; id = id }) old)) (IsPermutation-append_right others _ _ q)

-- ---- a visit

-- a visit doesn't depend on what else is queued
pub visits_beside : (objects : Objects) (id : ObjectId) (others : List Waiting) (old new : Walk) → Visits objects id old new
    → Visits objects id (beside others old) (beside others new)
visits_beside objects id others old new (Visits.again v h q w) = Visits.again v h q (ap (λ l. others ++ l) w)
visits_beside objects id others old new (Visits.first v h q w) =
    Visits.first v h q (queues_more (found_in (graph_of objects old.held) id) id others old.waiting new.waiting w)

-- the id was visited
pub visit_visited : (objects : Objects) (id : ObjectId) (old new : Walk) → Visits objects id old new → new.visited id ≡ true
visit_visited objects id old new (Visits.again v h q w) = q id ∙ v
visit_visited objects id old new (Visits.first v h q w) = q id ∙ ap (λ b. b || old.visited id) (same_id id)

-- visited ids stay visited
pub visit_keeps : (objects : Objects) (id : ObjectId) (old new : Walk) → Visits objects id old new → (q : ObjectId)
    → old.visited q ≡ true → new.visited q ≡ true
visit_keeps objects id old new (Visits.again v h q w) x t = q x ∙ t
visit_keeps objects id old new (Visits.first v h q w) x t = q x ∙ or_true (eq_by_cmp id_cmp x id) (old.visited x) t

module _ (g : GraphData) (objects : Objects) (same : objects ≡ g.objects) (id : ObjectId) (old new : Walk) where
  -- only marks change
  pub visit_only : Visits objects id old new → OnlyMarks g old.held → OnlyMarks g new.held
  visit_only (Visits.again v h q w) only = subst (OnlyMarks g) (sym h) only
  visit_only (Visits.first v h q w) only = step_only g old.held objects same id new.held only h

  -- a commit that is found is the one that the graph reads
  pub visit_reads : OnlyMarks g old.held → (o : Option HeldCommit) → found_in (graph_of objects old.held) id ≡ o
      → commit_in g id ≡ option_map as_read o
  visit_reads only o e = sym (reads g old.held only id) ∙ ap (λ m. commit_in (graph_of m old.held) id) (sym same)
      ∙ ap (option_map as_read) e

  module _ (ids : List ObjectId) (cutoff : Option ℤ) (due : IsDue (commit_in g) ids cutoff id) (walk : IsWalk g ids cutoff old) where
    walk_again : new.held ≡ old.held → ((q : ObjectId) → new.visited q ≡ old.visited q) → new.waiting ≡ old.waiting
        → IsWalk g ids cutoff new
    walk_again h q w = record {
      marking = subst (IsMarking g ids cutoff) (sym h) walk.marking;
      queued = subst (λ m. All (IsQueued g ids cutoff m) new.waiting) (sym h)
          (subst (All (IsQueued g ids cutoff old.held)) (sym w) walk.queued);
      marked = λ x t s. subst (λ m. is_marked m x ≡ true) (sym h) (walk.marked x (sym (q x) ∙ t) s);
      closed = λ x t s. ⊎_elim
          (λ a. inl (ap (λ l. waits l x) w ∙ a))
          (λ a. inr (λ c least p r l b i. q p ∙ a c least p r l b i))
          (walk.closed x (sym (q x) ∙ t) s);
    }

    module _ (h : new.held ≡ marked_found (graph_of objects old.held) id)
        (adds : (q : ObjectId) → new.visited q ≡ (eq_by_cmp id_cmp q id || old.visited q)) where
      first_marking : IsMarking g ids cutoff new.held
      first_marking = marking_step g ids cutoff old.held objects same id new.held walk.marking
          (due_complete (commit_in g) ids cutoff id due) (inr h)

      first_queued : (x : Waiting) → IsQueued g ids cutoff old.held x → IsQueued g ids cutoff new.held x
      first_queued x d = record { complete = d.complete; timed = d.timed; marked = step_keeps old.held objects id new.held h x.id d.marked }

      first_marked : (x : ObjectId) → new.visited x ≡ true → IsSome (commit_in g x) → is_marked new.held x ≡ true
      first_marked x t s = ⊎_elim
          (λ e.
          let one : x ≡ id = same_from x id e in
          subst (λ y. is_marked new.held y ≡ true) (sym one)
          (step_marks g old.held objects same id new.held walk.marking.only_marks h (subst (λ y. IsSome (commit_in g y)) one s)))
          (λ e. step_keeps old.held objects id new.held h x (walk.marked x e s))
          (or_cases (eq_by_cmp id_cmp x id) (old.visited x) (sym (adds x) ∙ t))

      first_closed : (x : ObjectId) → old.visited x ≡ true → IsSome (commit_in g x) → (waits old.waiting x ≡ true)
          ⊎ IsExpanded g cutoff new.visited x
      first_closed x e s = ⊎_elim (λ a. inl a) (λ a.
          inr (λ c least p r l b i. adds p ∙ or_true (eq_by_cmp id_cmp p id) (old.visited p) (a c least p r l b i))) (walk.closed x e s)

      walk_first : (o : Option HeldCommit) → found_in (graph_of objects old.held) id ≡ o → Queues o id old.waiting new.waiting
          → IsWalk g ids cutoff new
      walk_first None e w = record {
        marking = first_marking;
        queued = subst (All (IsQueued g ids cutoff new.held)) (sym w)
            (All-weaker (IsQueued g ids cutoff old.held) (IsQueued g ids cutoff new.held) first_queued old.waiting walk.queued);
        marked = first_marked;
        closed = λ x t s. ⊎_elim
            (λ a. absurd (let n : ◌≡◌ {A = Bool} false true = sym (ap (λ y. is_some (commit_in g y)) (same_from x id a)
            ∙ ap is_some (visit_reads walk.marking.only_marks None e)) ∙ s in cc))
            (λ a. ⊎_elim (λ b. inl (ap (λ l. waits l x) w ∙ b)) (λ b. inr b) (first_closed x a s))
            (or_cases (eq_by_cmp id_cmp x id) (old.visited x) (sym (adds x) ∙ t));
      }
      walk_first (Some k) e w =
          let x : Waiting = record { time = k.time; id = id } in
          let P : Waiting → Type 0 = IsQueued g ids cutoff new.held in
          let is : commit_in g id ≡ Some (as_read k) = visit_reads walk.marking.only_marks (Some k) e in
          let found : IsSome (commit_in g id) = ap is_some is in
          let item : P x = record {
            complete = due_complete (commit_in g) ids cutoff id due found;
            timed = ap (option_map (λ (c : Commit). c.time)) is;
            marked = step_marks g old.held objects same id new.held walk.marking.only_marks h found;
          } in
          record {
            marking = first_marking;
            queued = All-permutation P (x ∷ old.waiting) new.waiting w
                (All-cons P x old.waiting item (All-weaker (IsQueued g ids cutoff old.held) P first_queued old.waiting walk.queued));
            marked = first_marked;
            closed = λ y t s. ⊎_elim
                (λ a. inl (waits_pushed x old.waiting new.waiting w y ∙ ap (λ b. b || waits old.waiting y) a))
                (λ a. ⊎_elim (λ b. inl (waits_pushed x old.waiting new.waiting w y
                ∙ or_true (eq_by_cmp id_cmp y id) (waits old.waiting y) b)) (λ b. inr b) (first_closed y a s))
                (or_cases (eq_by_cmp id_cmp y id) (old.visited y) (sym (adds y) ∙ t));
          }

    -- a visit keeps the invariant of the walk
    pub visit_walk : Visits objects id old new → IsWalk g ids cutoff new
    visit_walk (Visits.again v h q w) = walk_again h q w
    visit_walk (Visits.first v h q w) = walk_first h q (found_in (graph_of objects old.held) id) refl w
