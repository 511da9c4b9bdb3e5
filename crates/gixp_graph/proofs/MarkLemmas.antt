-- What a mark does to the held commits.
use Rattle.std.proofs.Common.{◌≡◌, ℤ, ◌∙◌, Bool, true, false, cond, Option, Some, None, refl, sym, ap}
use Rattle.std.specs.Prelude.{option_map, bit_and, ◌==◌}
use Rattle.std.specs.Option.{option_or}
use Rattle.std.proofs.Common.{◌⊎◌, inl, inr}
use Rattle.std.specs.Ordering.{is_eq, eq_by_cmp}
use Rattle.std.proofs.lemmas.Cmp.{tied_itself}
use Rattle.std.proofs.lemmas.Nat.{and_or_self}
use Rattle.std.specs.FinMap as finite
use Rattle.std.specs.FinMap.{get-insert, same_map}
use Rattle.gixp_hash.specs.declared.object_id.ObjectId.{ObjectId}
use Rattle.gixp_graph.specs.declared.flags.Flags.{Flags}
use Rattle.gixp_hash.specs.ObjectId.{id_cmp}
use Rattle.gixp_graph.specs.Object.{Commit, commit_at}
use Rattle.gixp_graph.specs.GraphData.{HeldCommit, shown, Commits, GraphData, found_in, looked_up, flagged, unmarked, put, is_complete, completed, if_unmarked, marked_found}
use Rattle.gixp_graph.specs.GraphLaws.{put_same}
use Rattle.gixp_hash.specs.IdLaws.{ids_exact, ids_total}

pub same_id : (id : ObjectId) → eq_by_cmp id_cmp id id ≡ true
same_id id = ap is_eq (tied_itself ids_total id)

-- an inserted commit is found
pub get_insert_same : (m : Commits) (id : ObjectId) (h : HeldCommit) → finite.get (finite.insert m id h) id ≡ Some h
get_insert_same m id h = get-insert ids_total m id h id ∙ ap (λ b. cond b (Some h) (finite.get m id)) (same_id id)

twice_at : (b : Bool) (h k : HeldCommit) (o : Option HeldCommit) → cond b (Some k) (cond b (Some h) o) ≡ cond b (Some k) o
twice_at true h k o = refl
twice_at false h k o = refl

-- the second of two inserts under one id remains
pub insert-insert : (m : Commits) (id : ObjectId) (h k : HeldCommit) → finite.insert (finite.insert m id h) id k ≡ finite.insert m id k
insert-insert m id h k = same_map ids_total ids_exact _ _ (λ q.
    get-insert ids_total (finite.insert m id h) id k q ∙ ap (cond (eq_by_cmp id_cmp q id) (Some k)) (get-insert ids_total m id h q)
    ∙ twice_at (eq_by_cmp id_cmp q id) h k (finite.get m q) ∙ sym (get-insert ids_total m id k q))

-- a commit has the mark COMPLETE once it is set
pub is_complete-completed : (h : HeldCommit) → is_complete (completed h) ≡ true
is_complete-completed h = ap (λ n. n == 1) (and_or_self 1 h.flags.0)

marked_at : (m : Commits) (id : ObjectId) (o : Option HeldCommit) (p : Option Commit) (t : ℤ) (f : Flags) → finite.get m id ≡ o
    → ◌≡◌ {A = Option (ℤ × Flags)} (Some (t, f)) (option_map shown (option_or o (option_map unmarked p))) → (bit_and f.0 1 == 1) ≡ true
    → put m id (option_or o (option_map unmarked p)) ≡ put m id (option_map completed (if_unmarked (option_or o (option_map unmarked p))))
marked_at m id (Some h) p t f at is full =
    let both : ◌≡◌ {A = ℤ × Flags} (t, f) (shown h) = cc in
    let same : f ≡ h.flags = ap (λ (p : ℤ × Flags). p.1) both in
    let whole : is_complete h ≡ true = ap (λ (x : Flags). bit_and x.0 1 == 1) (sym same) ∙ full in
    put_same m id h at ∙ ap (λ b. put m id (option_map completed (cond b None (Some h)))) (sym whole)
marked_at m id None None t f at is full = cc
marked_at m id None (Some c) t f at is full =
    let both : ◌≡◌ {A = ℤ × Flags} (t, f) (shown (unmarked c)) = cc in
    let same : f ≡ record { 0 = 0 } = ap (λ (p : ℤ × Flags). p.1) both in
    let whole : false ≡ true = ap (λ (x : Flags). bit_and x.0 1 == 1) (sym same) ∙ full in
    cc

-- a commit with the mark stays the same
pub marked_before : (g : GraphData) (id : ObjectId) (t : ℤ) (f : Flags) → ◌≡◌ {A = Option (ℤ × Flags)} (Some (t, f))
    (option_map shown (found_in g id)) → (bit_and f.0 1 == 1) ≡ true → looked_up g id ≡ marked_found g id
marked_before g id t f is full = marked_at g.held id (finite.get g.held id) (commit_at g.objects id) t f refl is full

marks_at : (m : Commits) (id : ObjectId) (o : Option HeldCommit) (t : ℤ) (f : Flags)
    → ◌≡◌ {A = Option (ℤ × Flags)} (Some (t, f)) (option_map shown o) → (bit_and f.0 1 == 1) ≡ false
    → flagged (put m id o) id (record { 0 = 1 }) ≡ put m id (option_map completed (if_unmarked o))
marks_at m id None t f is empty = cc
marks_at m id (Some h) t f is empty =
    let both : ◌≡◌ {A = ℤ × Flags} (t, f) (shown h) = cc in
    let same : f ≡ h.flags = ap (λ (p : ℤ × Flags). p.1) both in
    let none : is_complete h ≡ false = ap (λ (x : Flags). bit_and x.0 1 == 1) (sym same) ∙ empty in
    ap (λ o. put (finite.insert m id h) id (option_map completed o)) (get_insert_same m id h) ∙ insert-insert m id h (completed h)
    ∙ ap (λ b. put m id (option_map completed (cond b None (Some h)))) (sym none)

-- the held commits after a commit was looked up and marked
pub marked_now : (g : GraphData) (id : ObjectId) (t : ℤ) (f : Flags) → ◌≡◌ {A = Option (ℤ × Flags)} (Some (t, f)) (option_map shown
    (found_in g id)) → (bit_and f.0 1 == 1) ≡ false → flagged (looked_up g id) id (record { 0 = 1 }) ≡ marked_found g id
marked_now g id t f is empty = marks_at g.held id (found_in g id) t f is empty

-- where no time is shown, nothing is found
pub none_timed : (o : Option HeldCommit) → ◌≡◌ {A = Option ℤ} None (option_map (λ (h : HeldCommit). h.time) o) → o ≡ None
none_timed None e = refl
none_timed (Some h) e = cc

-- the time that is shown is the time of the commit that is found
pub some_timed : (o : Option HeldCommit) (t : ℤ) → ◌≡◌ {A = Option ℤ} (Some t) (option_map (λ (h : HeldCommit). h.time) o)
    → (h : HeldCommit) × (o ≡ Some h) × (h.time ≡ t)
some_timed None t e = cc
some_timed (Some h) t e = (h, refl, (let s : t ≡ h.time = cc in sym s))

pub true_or_false : (b : Bool) → (b ≡ true) ⊎ (b ≡ false)
true_or_false true = inl refl
true_or_false false = inr refl

-- an insert changes no other id
pub get_insert_other : (m : Commits) (id : ObjectId) (h : HeldCommit) (q : ObjectId) → eq_by_cmp id_cmp q id ≡ false
    → finite.get (finite.insert m id h) q ≡ finite.get m q
get_insert_other m id h q e = get-insert ids_total m id h q ∙ ap (λ b. cond b (Some h) (finite.get m q)) e
