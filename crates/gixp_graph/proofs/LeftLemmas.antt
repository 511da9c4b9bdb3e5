-- How many ids weren't visited yet.
use Rattle.std.proofs.Common.{◌≡◌, ◌+◌, ◌≤◌, ◌∙◌, ⊎_elim, Bool, true, false, not, ◌||◌, List, [], ◌∷◌, ◌++◌, length, suc, Option, Some, None, refl, sym, ap, arith}
use Rattle.std.specs.Prelude.{option_map, is_some, IsSome, option_and_then}
use Rattle.std.specs.Option.{option_or}
use Rattle.std.specs.List.{list_any}
use Rattle.std.specs.Ordering.{eq_by_cmp}
use Rattle.std.proofs.lemmas.List.Sorted.{length_permutation}
use Rattle.std.proofs.lemmas.Bool.{or_cases}
use Rattle.std.specs.FinMap as finite
use Rattle.std.specs.FinMap.{contains_key-keys}
use Rattle.gixp_hash.specs.declared.object_id.ObjectId.{ObjectId}
use Rattle.gixp_hash.specs.ObjectId.{id_cmp}
use Rattle.gixp_graph.specs.Object.{Objects, Object, Commit, commit_at}
use Rattle.gixp_graph.specs.GraphData.{HeldCommit, GraphData, graph_of, found_in, commit_in, as_read, unmarked, OnlyMarks}
use Rattle.gixp_graph.specs.Waiting.{Queues}
use Rattle.gixp_graph.specs.Walk.{Walk, Visits, all_ids, left}
use Rattle.gixp_graph.specs.CountLaws.{count_le, count_lt}
use Rattle.gixp_graph.proofs.VisitedLemmas.{or_true}
use Rattle.gixp_graph.proofs.StepLemmas.{visit_keeps, visit_visited, visit_reads}

any_left : (t : ObjectId → Bool) (xs ys : List ObjectId) → list_any t xs ≡ true → list_any t (xs ++ ys) ≡ true
any_left t [] ys e = cc
any_left t (x ∷ xs) ys e = ⊎_elim (λ a. ap (λ b. b || list_any t (xs ++ ys)) a)
    (λ a. or_true (t x) (list_any t (xs ++ ys)) (any_left t xs ys a)) (or_cases (t x) (list_any t xs) e)

any_right : (t : ObjectId → Bool) (xs ys : List ObjectId) → list_any t ys ≡ true → list_any t (xs ++ ys) ≡ true
any_right t [] ys e = e
any_right t (x ∷ xs) ys e = or_true (t x) (list_any t (xs ++ ys)) (any_right t xs ys e)

is_some_at : (o : Option Object) → IsSome (option_and_then (λ (k : Object). k.commit) o) → is_some o ≡ true
is_some_at None e = e
is_some_at (Some k) e = refl

found_id_at : (g : GraphData) (id : ObjectId) (o : Option HeldCommit) → finite.get g.held id ≡ o → IsSome (option_map as_read
    (option_or o (option_map unmarked (commit_at g.objects id)))) → list_any (eq_by_cmp id_cmp id) (all_ids g) ≡ true
found_id_at g id (Some h) e s = any_right (eq_by_cmp id_cmp id) (finite.keys g.objects) (finite.keys g.held)
    (sym (contains_key-keys g.held id) ∙ ap is_some e)
found_id_at g id None e s = any_left (eq_by_cmp id_cmp id) (finite.keys g.objects) (finite.keys g.held)
    (sym (contains_key-keys g.objects id) ∙ is_some_at (finite.get g.objects id) (some_read (commit_at g.objects id) s))
  where
    some_read : (o : Option Commit) → IsSome (option_map as_read (option_map unmarked o)) → IsSome o
    some_read None e = e
    some_read (Some c) e = refl

-- a commit that is found is among the ids of the objects and the held commits
found_id : (g : GraphData) (id : ObjectId) → IsSome (commit_in g id) → list_any (eq_by_cmp id_cmp id) (all_ids g) ≡ true
found_id g id s = found_id_at g id (finite.get g.held id) refl s

not_true : (b : Bool) → not b ≡ true → b ≡ false
not_true true e = cc
not_true false e = refl

fewer : (a b : Bool) → (a ≡ true → b ≡ true) → not b ≡ true → not a ≡ true
fewer true b k e = absurd (let t : b ≡ true = k refl in let f : b ≡ false = not_true b e in cc)
fewer false b k e = refl

module _ (g : GraphData) (objects : Objects) (same : objects ≡ g.objects) (id : ObjectId) (old new : Walk)
    (v : Visits objects id old new) where
  -- a visit leaves no more ids
  left_no_more : left g new.visited ≤ left g old.visited
  left_no_more = count_le (λ q. not (old.visited q)) (λ q. not (new.visited q))
      (λ q. fewer (old.visited q) (new.visited q) (visit_keeps objects id old new v q)) (all_ids g)

  -- a visit of a commit that is found leaves one id less
  left_less : old.visited id ≡ false → OnlyMarks g old.held → (k : HeldCommit) → found_in (graph_of objects old.held) id ≡ Some k
      → left g new.visited + 1 ≤ left g old.visited
  left_less u only k e = count_lt (λ q. not (old.visited q)) (λ q. not (new.visited q)) (λ q. fewer (old.visited q) (new.visited q)
      (visit_keeps objects id old new v q)) id (ap not u) (ap not (visit_visited objects id old new v)) (all_ids g)
      (found_id g id (ap is_some (visit_reads g objects same id old new only (Some k) e)))

  less_at : old.visited id ≡ false → OnlyMarks g old.held → (o : Option HeldCommit) → found_in (graph_of objects old.held) id ≡ o
      → Queues o id old.waiting new.waiting → left g new.visited + length new.waiting ≤ left g old.visited + length old.waiting
  less_at u only None e w =
      let a : length new.waiting ≡ length old.waiting = ap length w in
      omega (arith, left_no_more)
  less_at u only (Some k) e w =
      let a : length new.waiting ≡ suc (length old.waiting) =
      length_permutation (record { time = k.time; id = id } ∷ old.waiting) new.waiting w in
      omega (arith, left_less u only k e)

  -- a visit leaves no more to do, counting unvisited ids and queued commits
  pub visit_left : OnlyMarks g old.held → left g new.visited + length new.waiting ≤ left g old.visited + length old.waiting
  visit_left only = elim v as (λ _. left g new.visited + length new.waiting ≤ left g old.visited + length old.waiting) [
    | Visits.again u h q w ↦ (let a : length new.waiting ≡ length old.waiting = ap length w in omega (arith, left_no_more))
    | Visits.first u h q w ↦ less_at u only (found_in (graph_of objects old.held) id) refl w
  ]
