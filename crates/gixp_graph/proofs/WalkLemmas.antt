-- Walks: how they begin, drop commits whose parents were visited, and end.
use Rattle.std.proofs.Common.{◌≡◌, ℤ, ◌∙◌, inl, inr, ⊎_elim, Bool, true, false, true≢false, List, [], ◌∷◌, ◌++◌, Option, Some, None, refl, sym, ap, subst, append-nil, arith}
use Rattle.std.specs.Prelude.{option_map, is_some, IsSome, Contains, All, ◌≤ℤ◌, unwrap_or}
use Rattle.std.specs.Option.{option_or, option_map_or}
use lib.Signed.{◌<ℤ◌}
use Rattle.std.proofs.lemmas.Int.{ints}
use Rattle.std.specs.Ordering.{eq_by_cmp}
use Rattle.std.specs.List.Sorted.{IsPermutation}
use Rattle.std.proofs.lemmas.List.Sorted.{All-permutation, list_any-IsPermutation}
use Rattle.std.proofs.lemmas.List.Elements.{All-nil, All-cons, All-head, All-tail, All-contains, Contains-get_or}
use Rattle.std.proofs.lemmas.Bool.{or_cases}
use Rattle.std.specs.FinMap as finite
use Rattle.gixp_hash.specs.declared.object_id.ObjectId.{ObjectId}
use Rattle.gixp_hash.specs.ObjectId.{id_cmp}
use Rattle.gixp_graph.specs.Object.{Commit, commit_at}
use Rattle.gixp_graph.specs.GraphData.{HeldCommit, Commits, GraphData, commit_in, as_read, unmarked, parents_in, is_complete, is_marked, OnlyMarks}
use Rattle.gixp_graph.specs.Complete.{IsComplete, IsDue}
use Rattle.gixp_graph.specs.Waiting.{Waiting}
use Rattle.gixp_graph.specs.Walk.{Walk, waits, IsExpanded, IsMarking, IsQueued, IsWalk, AreDue, AllVisited}
use Rattle.gixp_graph.specs.GraphLaws.{same_from}
use Rattle.gixp_graph.proofs.StepLemmas.{reads}

-- at the start only marks were changed
pub marking_start : (g : GraphData) (ids : List ObjectId) (cutoff : Option ℤ) → IsMarking g ids cutoff g.held
marking_start g ids cutoff = record { only_marks = λ q. inl refl; sound = λ q m. inl m }

-- a walk from its parts
abbrev pub stands : Commits → (ObjectId → Bool) → List Waiting → Walk
stands held visited waiting = record { held = held; visited = visited; waiting = waiting }

-- a walk without visited ids and queued commits
pub walk_start : (g : GraphData) (ids : List ObjectId) (cutoff : Option ℤ) (visited : ObjectId → Bool)
    → ((q : ObjectId) → visited q ≡ false) → IsWalk g ids cutoff (stands g.held visited [])
walk_start g ids cutoff visited none = record {
  marking = marking_start g ids cutoff;
  queued = All-nil (IsQueued g ids cutoff g.held);
  marked = λ q t s. absurd (true≢false (sym t ∙ none q));
  closed = λ q t s. absurd (true≢false (sym t ∙ none q));
}

-- the order of the queue is free
pub walk_permuted : (g : GraphData) (ids : List ObjectId) (cutoff : Option ℤ) (held : Commits) (visited : ObjectId → Bool)
    (queue queue' : List Waiting) → IsWalk g ids cutoff (stands held visited queue) → IsPermutation queue queue'
    → IsWalk g ids cutoff (stands held visited queue')
walk_permuted g ids cutoff held visited queue queue' w p = record {
  marking = w.marking;
  queued = All-permutation (IsQueued g ids cutoff held) queue queue' p w.queued;
  marked = w.marked;
  closed = λ q t s. ⊎_elim (λ d. inl (sym (list_any-IsPermutation (λ (y : Waiting). eq_by_cmp id_cmp q y.id) queue queue' p) ∙ d))
      (λ d. inr d) (w.closed q t s);
}

-- a complete commit is found
complete_found : (read : ObjectId → Option Commit) (ids : List ObjectId) (cutoff : Option ℤ) (q : ObjectId)
    → IsComplete read ids cutoff q → IsSome (read q)
complete_found read ids cutoff q (IsComplete.tip i f) = f
complete_found read ids cutoff q (IsComplete.parent k r l t i f) = f

module _ (g : GraphData) (ids : List ObjectId) (cutoff : Option ℤ) (held : Commits) (visited : ObjectId → Bool) where
  -- a commit whose parents were visited need not be queued
  pub walk_seen : (x : Waiting) (queue : List Waiting) → IsWalk g ids cutoff (stands held visited (x ∷ queue))
      → IsExpanded g cutoff visited x.id → IsWalk g ids cutoff (stands held visited queue)
  walk_seen x queue w e = record {
    marking = w.marking;
    queued = All-tail (IsQueued g ids cutoff held) x queue w.queued;
    marked = w.marked;
    closed = λ q t s. ⊎_elim
        (λ d. ⊎_elim (λ a. inr (subst (IsExpanded g cutoff visited) (sym (same_from q x.id a)) e)) (λ a. inl a)
        (or_cases (eq_by_cmp id_cmp q x.id) (waits queue q) d))
        (λ d. inr d) (w.closed q t s);
  }

  -- commits whose parents were visited need not be queued
  pub walk_dropped : (others queue : List Waiting) → IsWalk g ids cutoff (stands held visited (others ++ queue))
      → All (λ (x : Waiting). IsExpanded g cutoff visited x.id) others → IsWalk g ids cutoff (stands held visited queue)
  walk_dropped [] queue w h = w
  walk_dropped (x ∷ xs) queue w h =
      walk_dropped xs queue (walk_seen x (xs ++ queue) w (All-head (λ (x : Waiting). IsExpanded g cutoff visited x.id) x xs h))
      (All-tail (λ (x : Waiting). IsExpanded g cutoff visited x.id) x xs h)

  module _ (queue : List Waiting) (w : IsWalk g ids cutoff (stands held visited queue))
      (rest : All (λ (x : Waiting). IsExpanded g cutoff visited x.id) queue) (tips : AllVisited visited ids) where
    all_seen : IsWalk g ids cutoff (stands held visited [])
    all_seen = walk_dropped queue [] (subst (λ l. IsWalk g ids cutoff (stands held visited l)) (sym (append-nil queue)) w) rest

    -- with an empty queue, each complete commit was visited
    complete_visited : (q : ObjectId) → IsComplete (commit_in g) ids cutoff q → visited q ≡ true
    complete_visited q (IsComplete.tip i f) = All-contains (λ p. visited p ≡ true) ids q tips i
    complete_visited q (IsComplete.parent {id} {p} {c} {least} k r l t i f) =
        ⊎_elim (λ b. absurd (cc)) (λ d. d c least p r l t i) (all_seen.closed id (complete_visited id k) (ap is_some r))

    -- with an empty queue, each complete commit is marked
    pub complete_marked : (q : ObjectId) → IsComplete (commit_in g) ids cutoff q → is_marked held q ≡ true
    complete_marked q k = w.marked q (complete_visited q k) (complete_found (commit_in g) ids cutoff q k)

-- ---- the parents of a queued commit

-- the facts known while the parents of x are visited
record IsOpened (g : GraphData) (x : Waiting) (parents : List ObjectId) : Type 0 where
  pub commit : Commit
  pub reads : commit_in g x.id ≡ Some commit
  pub time : commit.time ≡ x.time
  pub parents_are : commit.parents ≡ parents

opened_at : (g : GraphData) (x : Waiting) (o : Option HeldCommit) → option_map_or is_complete o false ≡ true
    → option_map as_read (option_or o (option_map unmarked (commit_at g.objects x.id))) ≡ commit_in g x.id
    → option_map (λ (c : Commit). c.time) (commit_in g x.id) ≡ Some x.time
    → IsOpened g x (unwrap_or (option_map (λ (h : HeldCommit). h.parents) o) [])
opened_at g x None m r t = cc
opened_at g x (Some h) m r t = record {
  commit = as_read h;
  reads = sym r;
  time = (let e : Some h.time ≡ Some x.time = ap (option_map (λ (c : Commit). c.time)) r ∙ t in cc);
  parents_are = refl;
}

opened : (g : GraphData) (ids : List ObjectId) (cutoff : Option ℤ) (held : Commits) → OnlyMarks g held → (x : Waiting)
    → IsQueued g ids cutoff held x → (parents : List ObjectId)
    → parents ≡ unwrap_or (option_map (λ (h : HeldCommit). h.parents) (finite.get held x.id)) [] → IsOpened g x parents
opened g ids cutoff held only x k parents e =
    subst (IsOpened g x) (sym e) (opened_at g x (finite.get held x.id) k.marked (reads g held only x.id) k.timed)

-- its parents may be read
due_parent : (g : GraphData) (ids : List ObjectId) (cutoff : Option ℤ) (x : Waiting) → IsComplete (commit_in g) ids cutoff x.id
    → (parents : List ObjectId) → IsOpened g x parents → (least : ℤ) → cutoff ≡ Some least → least ≤ℤ x.time
    → (p : ObjectId) → Contains parents p → IsDue (commit_in g) ids cutoff p
due_parent g ids cutoff x k parents o least l t p i =
    IsDue.parent k o.reads l (subst (λ (z : ℤ). least ≤ℤ z) (sym o.time) t) (subst (λ ps. Contains ps p) (sym o.parents_are) i)

expanded_all : (g : GraphData) (cutoff : Option ℤ) (visited : ObjectId → Bool) (x : Waiting) (parents : List ObjectId)
    → IsOpened g x parents → AllVisited visited parents → IsExpanded g cutoff visited x.id
expanded_all g cutoff visited x parents o all c least p r l t i =
    let e : o.commit ≡ c = (let s : Some o.commit ≡ Some c = sym o.reads ∙ r in cc) in
    let j : Contains parents p = subst (λ ps. Contains ps p) (ap (λ (c : Commit). c.parents) (sym e) ∙ o.parents_are) i in
    All-contains (λ q. visited q ≡ true) parents p all j

-- a commit before the cutoff has no parents to visit
pub expanded_before : (g : GraphData) (ids : List ObjectId) (cutoff : Option ℤ) (held : Commits) (visited : ObjectId → Bool)
    (x : Waiting) → IsQueued g ids cutoff held x → (least : ℤ) → cutoff ≡ Some least → x.time <ℤ least
    → IsExpanded g cutoff visited x.id
expanded_before g ids cutoff held visited x k least l b c most p r m t i =
    let same : most ≡ least = (let s : Some most ≡ Some least = sym m ∙ l in cc) in
    let time : c.time ≡ x.time = (let s : Some c.time ≡ Some x.time = ap (option_map (λ (c : Commit). c.time)) (sym r) ∙ k.timed in cc) in
    let a : least ≤ℤ x.time = subst (λ (z : ℤ). z ≤ℤ x.time) same (subst (λ (z : ℤ). most ≤ℤ z) time t) in
    absurd (omega (arith, ints))

-- ---- the commit that is taken

pub all_left : {X : Type 0} (P : X → Type 0) (xs ys : List X) → All P (xs ++ ys) → All P xs
all_left P [] ys h = All-nil P
all_left P (x ∷ xs) ys h = All-cons P x xs (All-head P x (xs ++ ys) h) (all_left P xs ys (All-tail P x (xs ++ ys) h))

pub all_right : {X : Type 0} (P : X → Type 0) (xs ys : List X) → All P (xs ++ ys) → All P ys
all_right P [] ys h = h
all_right P (x ∷ xs) ys h = all_right P xs ys (All-tail P x (xs ++ ys) h)

module _ (g : GraphData) (ids : List ObjectId) (cutoff : Option ℤ) (held : Commits) (only : OnlyMarks g held) (x : Waiting)
    (queued : IsQueued g ids cutoff held x) where
  -- where its time is at least the cutoff, its parents may be read
  pub due_parents : (least : ℤ) → cutoff ≡ Some least → least ≤ℤ x.time → AreDue g ids cutoff (parents_in held x.id)
  due_parents least l b k d i =
      let ps : List ObjectId = parents_in held x.id in
      due_parent g ids cutoff x queued.complete ps (opened g ids cutoff held only x queued ps refl) least l b _
      (Contains-get_or ps k d i)

  -- once its parents were visited, it need not be queued
  pub expanded_parents : (visited : ObjectId → Bool) → AllVisited visited (parents_in held x.id) → IsExpanded g cutoff visited x.id
  expanded_parents visited m =
      let ps : List ObjectId = parents_in held x.id in
      expanded_all g cutoff visited x ps (opened g ids cutoff held only x queued ps refl) m

-- commits before the cutoff have no parents to visit
pub expanded_older : (g : GraphData) (ids : List ObjectId) (cutoff : Option ℤ) (held : Commits) (visited : ObjectId → Bool)
    (t least : ℤ) → cutoff ≡ Some least → t <ℤ least → (queue : List Waiting) → All (λ (x : Waiting). x.time ≤ℤ t) queue
    → All (IsQueued g ids cutoff held) queue
    → All (λ (x : Waiting). IsExpanded g cutoff visited x.id) queue
expanded_older g ids cutoff held visited t least l b queue u a k d i =
    let no_newer = u k d i in
    expanded_before g ids cutoff held visited _ (a k d i) least l (omega (arith, ints))

-- without a cutoff no commit has parents to visit
pub expanded_never : (g : GraphData) (cutoff : Option ℤ) (visited : ObjectId → Bool) (queue : List Waiting) → cutoff ≡ None
    → All (λ (x : Waiting). IsExpanded g cutoff visited x.id) queue
expanded_never g cutoff visited queue none k d i c least p r l t j = cc
