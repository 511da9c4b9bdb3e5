-- A look-up.
use Rattle.std.proofs.Common.{◌≡◌, ℕ, ℤ, ◌∙◌, true, false, Option, Some, None, refl, sym, ap, subst, true≢false}
use Rattle.std.specs.Prelude.{option_map, IsSome, is_some, IfSome, IfNone}
use Rattle.std.specs.Option.{option_map_or, option_or}
use Rattle.std.specs.FinMap as finite
use Rattle.gixp_hash.specs.declared.object_id.ObjectId.{ObjectId}
use Rattle.gixp_graph.specs.declared.flags.Flags.{Flags}
use Rattle.gixp_graph.specs.Object.{Commit, commit_at, time_at}
use Rattle.gixp_graph.specs.GraphData.{HeldCommit, GraphData, graph_of, put, found_in, looked_up, unmarked, shown, shown_time, is_complete, IsFaithful}
use Rattle.gixp_graph.specs.GraphLaws.{put_same}
use Rattle.gixp_negotiators.specs.Marks.{SEEN, has_all, has_mark}
use Rattle.gixp_negotiators.specs.AddedMarks.{Grows, AddsNone}
use Rattle.gixp_negotiators.specs.CommitMarks.{IsFoundWith}
use Rattle.gixp_negotiators.proofs.GrowLemmas.{grows_none, grows_insert, get_insert_same, none_insert}

looked_at : (g : GraphData) (id : ObjectId) (o : Option HeldCommit) (p : Option Commit) → finite.get g.held id ≡ o
    → Grows g (graph_of g.objects (put g.held id (option_or o (option_map unmarked p))))
looked_at g id (Some k) p e = subst (λ m. Grows g (graph_of g.objects m)) (sym (put_same g.held id k e)) (grows_none g)
looked_at g id None None e = grows_none g
looked_at g id None (Some c) e = grows_insert g id (unmarked c)
    (λ b m. absurd (true≢false (sym m ∙ ap (λ (o : Option HeldCommit). option_map_or (λ (h : HeldCommit). has_all b h.flags.0) o false) e)))
    (sym (ap (λ (o : Option HeldCommit). option_map_or is_complete o false) e))
    (λ s. absurd (true≢false (sym s ∙ ap is_some e)))

-- a look-up only adds
pub grows_looked : (g h : GraphData) (id : ObjectId) → h ≡ graph_of g.objects (looked_up g id) → Grows g h
grows_looked g h id is = subst (Grows g) (sym is) (looked_at g id (finite.get g.held id) (commit_at g.objects id) refl)

-- a look-up doesn't change a graph that holds the commit
held_at : (g : GraphData) (id : ObjectId) (o : Option HeldCommit) (p : Option Commit) → finite.get g.held id ≡ o → IsSome o
    → graph_of g.objects (put g.held id (option_or o (option_map unmarked p))) ≡ g
held_at g id None p e s = absurd (true≢false (sym s))
held_at g id (Some k) p e s = ap (graph_of g.objects) (put_same g.held id k e)

pub held_looked : (g h : GraphData) (id : ObjectId) → h ≡ graph_of g.objects (looked_up g id) → IsSome (finite.get g.held id) → h ≡ g
held_looked g h id is s = is ∙ held_at g id (finite.get g.held id) (commit_at g.objects id) refl s

-- a look-up adds no mark
adds_at : (b : ℕ) → has_all b 0 ≡ false → (g : GraphData) (id : ObjectId) (o : Option HeldCommit) (p : Option Commit)
    → finite.get g.held id ≡ o → AddsNone b g (graph_of g.objects (put g.held id (option_or o (option_map unmarked p))))
adds_at b z g id (Some k) p e = subst (λ m. AddsNone b g (graph_of g.objects m)) (sym (put_same g.held id k e)) (λ q m. m)
adds_at b z g id None None e = λ q m. m
adds_at b z g id None (Some c) e = none_insert b g id (unmarked c) (λ m. absurd (true≢false (sym m ∙ z)))

pub none_looked : (b : ℕ) → has_all b 0 ≡ false → (g h : GraphData) (id : ObjectId) → h ≡ graph_of g.objects (looked_up g id)
    → AddsNone b g h
none_looked b z g h id is = subst (AddsNone b g) (sym is) (adds_at b z g id (finite.get g.held id) (commit_at g.objects id) refl)

-- a commit that isn't found isn't held
absent_at : (g : GraphData) (id : ObjectId) (o : Option HeldCommit) (p : Option Commit) → finite.get g.held id ≡ o
    → ◌≡◌ {A = Option (ℤ × Flags)} None (option_map shown (option_or o (option_map unmarked p)))
    → has_mark SEEN (put g.held id (option_or o (option_map unmarked p))) id ≡ false
absent_at g id (Some k) p e n = cc
absent_at g id None None e n = ap (λ (o : Option HeldCommit). option_map_or (λ (h : HeldCommit). has_all SEEN h.flags.0) o false) e
absent_at g id None (Some c) e n = cc

pub absent_looked : (g h : GraphData) (id : ObjectId) (found : Option (ℤ × Flags)) → found ≡ option_map shown (found_in g id)
    → h ≡ graph_of g.objects (looked_up g id) → IfNone found (has_mark SEEN h.held id ≡ false)
absent_looked g h id None e is = subst (λ (k : GraphData). has_mark SEEN k.held id ≡ false) (sym is)
    (absent_at g id (finite.get g.held id) (commit_at g.objects id) refl e)
absent_looked g h id (Some x) e is = tt

-- the time of the commit is shown
pub timed_looked : (g : GraphData) (id : ObjectId) (found : Option (ℤ × Flags)) → shown_time found ≡ time_at g.objects id
    → IfSome found (λ x. time_at g.objects id ≡ Some x.0)
timed_looked g id None t = tt
timed_looked g id (Some x) t = sym t

-- a commit with a time is in the objects
some_time : (t : ℤ) (o : Option Commit) → ◌≡◌ {A = Option ℤ} (Some t) (option_map (λ (c : Commit). c.time) o) → IsSome o
some_time t None e = cc
some_time t (Some c) e = refl

-- a commit that is shown is held
shown_at : (g : GraphData) (id : ObjectId) (x : ℤ × Flags) (o : Option HeldCommit) → ◌≡◌ {A = Option (ℤ × Flags)} (Some x)
    (option_map shown o) → IsSome (commit_at g.objects id) → IsFoundWith (graph_of g.objects (put g.held id o)) id x.1
shown_at g id x None e s = cc
shown_at g id x (Some k) e s =
    let both : ◌≡◌ {A = ℤ × Flags} x (shown k) = cc in
    let same : x.1 ≡ k.flags = ap (λ (p : ℤ × Flags). p.1) both in
    record {
      read = s;
      held = ap is_some (get_insert_same g.held id k);
      marks = λ b. ap (λ (o : Option HeldCommit). option_map_or (λ (h : HeldCommit). has_all b h.flags.0) o false)
          (get_insert_same g.held id k) ∙ ap (λ (f : Flags). has_all b f.0) (sym same);
    }

-- a look-up that finds the commit
pub found_looked : (g h : GraphData) (id : ObjectId) (found : Option (ℤ × Flags)) → found ≡ option_map shown (found_in g id)
    → shown_time found ≡ time_at g.objects id → h ≡ graph_of g.objects (looked_up g id) → IfSome found (λ x. IsFoundWith h id x.1)
found_looked g h id None e t is = tt
found_looked g h id (Some x) e t is =
    subst (λ k. IsFoundWith k id x.1) (sym is) (shown_at g id x (found_in g id) e (some_time x.0 (commit_at g.objects id) t))

-- a look-up that doesn't find it
none_time : (o : Option Commit) → ◌≡◌ {A = Option ℤ} None (option_map (λ (c : Commit). c.time) o) → o ≡ None
none_time None e = refl
none_time (Some c) e = cc

pub missing_looked : (g : GraphData) (id : ObjectId) (found : Option (ℤ × Flags)) → shown_time found ≡ time_at g.objects id
    → IfNone found (commit_at g.objects id ≡ None)
missing_looked g id None t = none_time (commit_at g.objects id) t
missing_looked g id (Some x) t = tt

-- a commit with marks is in the objects
there_at : (g : GraphData) (id : ObjectId) (marks : ℕ) (o : Option HeldCommit) → finite.get g.held id ≡ o → IsFaithful g
    → option_map_or (λ (h : HeldCommit). has_all marks h.flags.0) o false ≡ true → IsSome (commit_at g.objects id)
there_at g id marks None e f m = absurd (true≢false (sym m))
there_at g id marks (Some h) e f m = ap is_some (f id h e)

pub marked_there : (g : GraphData) (id : ObjectId) (marks : ℕ) → IsFaithful g → has_mark marks g.held id ≡ true
    → IsSome (commit_at g.objects id)
marked_there g id marks f m = there_at g id marks (finite.get g.held id) refl f m

pub none_some : (g : GraphData) (id : ObjectId) → commit_at g.objects id ≡ None → IsSome (commit_at g.objects id) → ⊥
none_some g id e s = true≢false (sym s ∙ ap is_some e)
