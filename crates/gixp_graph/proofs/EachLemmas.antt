-- Several visits.
use Rattle.std.proofs.Common.{◌≡◌, ℕ, ◌<◌, ◌⊎◌, inl, inr, true, List, [], ◌∷◌, ◌++◌, length, get_or, arith}
use Rattle.std.proofs.lemmas.List.Elements.{All-nil, All-push, All-head, All-weaker}
use Rattle.gixp_hash.specs.declared.object_id.ObjectId.{ObjectId}
use Rattle.gixp_graph.specs.Object.{Objects}
use Rattle.gixp_graph.specs.GraphData.{Commits, graph_of, commit_in, marked_found}
use Rattle.gixp_graph.specs.Complete.{IsDue}
use Rattle.gixp_graph.specs.Walk.{Walk, beside, Visits, VisitsSome, VisitsEach}
use Rattle.gixp_graph.proofs.StepLemmas.{marking_step, due_complete, visits_beside, visit_visited, visit_keeps, visit_only, visit_walk}
use Rattle.gixp_graph.proofs.LeftLemmas.{visit_left}
use Rattle.gixp_graph.proofs.WalkLemmas.{all_left, all_right}

pub each_none : (objects : Objects) (old : Walk) → VisitsEach objects [] old old
each_none objects old = record {
  walk = λ g ids cutoff others same due w. w;
  visited = All-nil (λ q. old.visited q ≡ true);
  keeps = λ q t. t;
  less = λ g same only. (only, omega arith);
}

-- one more visit
pub each_more : (objects : Objects) (wanted : List ObjectId) (old mid new : Walk) (id : ObjectId) → VisitsEach objects wanted old mid
    → Visits objects id mid new → VisitsEach objects (wanted ++ id ∷ []) old new
each_more objects wanted old mid new id e v = record {
  walk = λ g ids cutoff others same due w. visit_walk g objects same id (beside others mid) (beside others new) ids cutoff
      (All-head (IsDue (commit_in g) ids cutoff) id [] (all_right (IsDue (commit_in g) ids cutoff) wanted (id ∷ []) due))
      (e.walk g ids cutoff others same (all_left (IsDue (commit_in g) ids cutoff) wanted (id ∷ []) due) w)
      (visits_beside objects id others mid new v);
  visited = All-push (λ q. new.visited q ≡ true) wanted id
      (All-weaker (λ q. mid.visited q ≡ true) (λ q. new.visited q ≡ true) (visit_keeps objects id mid new v) wanted e.visited)
      (visit_visited objects id mid new v);
  keeps = λ q t. visit_keeps objects id mid new v q (e.keeps q t);
  less = λ g same only.
      let now = e.less g same only in (
        visit_only g objects same id mid new v now.0,
        omega (arith, now.1, visit_left g objects same id mid new v now.0),
      );
}

-- some of these ids were visited, also where the last visit failed
pub some_more : (objects : Objects) (wanted : List ObjectId) (old held held' : Commits) → VisitsSome objects wanted old held
    → (i : ℕ) (d : ObjectId) → i < length wanted
    → (held' ≡ held) ⊎ (held' ≡ marked_found (graph_of objects held) (get_or wanted i d)) → VisitsSome objects wanted old held'
some_more objects wanted old held held' s i d l r g ids cutoff same due w =
    marking_step g ids cutoff held objects same (get_or wanted i d) held' (s g ids cutoff same due w)
    (due_complete (commit_in g) ids cutoff (get_or wanted i d) (due i d l)) r

-- a visit leaves the commits as they were, or marks one
pub some_visit : (objects : Objects) (id : ObjectId) (old new : Walk) → Visits objects id old new → (new.held ≡ old.held)
    ⊎ (new.held ≡ marked_found (graph_of objects old.held) id)
some_visit objects id old new (Visits.again v h q w) = inl h
some_visit objects id old new (Visits.first v h q w) = inr h
