-- What the walk does with the newest commit.
use Rattle.std.proofs.Common.{◌≡◌, ℤ, ◌+◌, ◌≤◌, ◌∙◌, Bool, true, List, [], ◌∷◌, length, suc, Option, Some, sym, ap, subst, arith}
use Rattle.std.specs.Prelude.{◌≤ℤ◌}
use Rattle.std.proofs.lemmas.List.{length-map}
use Rattle.std.proofs.lemmas.List.Elements.{Contains-get_or, All-head, All-weaker}
use Rattle.std.specs.List.Sorted.{IsPermutation}
use Rattle.std.proofs.lemmas.List.Sorted.{length_permutation}
use Rattle.gixp_hash.specs.declared.object_id.ObjectId.{ObjectId}
use Rattle.gixp_graph.specs.Object.{Objects}
use Rattle.gixp_graph.specs.GraphData.{Commits, GraphData, parents_in, OnlyMarks}
use Rattle.gixp_graph.specs.Complete.{IsDue}
use Rattle.gixp_graph.specs.Table.{Table, id_at}
use Rattle.gixp_graph.specs.declared.queue.Entry.{Entry}
use Rattle.gixp_graph.specs.Visited.{is_visited}
use Rattle.gixp_graph.specs.Waiting.{waiting_of, waiting_in}
use Rattle.gixp_graph.specs.Walk.{Walk, walk_of, IsMarking, IsQueued, IsWalk, AreDue, AllVisited, VisitsSome, VisitsEach, AsksAll, AsksSome, AsksDue, HasAsked, left}
use Rattle.gixp_graph.proofs.AskedLemmas.{asks_none}
use Rattle.gixp_graph.proofs.VisitedLemmas.{none_visited}
use Rattle.gixp_graph.proofs.WalkLemmas.{stands, marking_start, walk_start, walk_permuted, walk_seen, due_parents, expanded_parents}
use Rattle.gixp_graph.proofs.WaitingLemmas.{waiting_taken}

-- the tips may be read
pub tips_due : (g : GraphData) (ids : List ObjectId) (cutoff : Option ℤ) → AreDue g ids cutoff ids
tips_due g ids cutoff k d l = IsDue.tip (Contains-get_or ids k d l)

-- the tips are visited first
module _ (g : GraphData) (ids : List ObjectId) (cutoff : Option ℤ) (objects : Objects) (same : objects ≡ g.objects)
    (wanted : List ObjectId) (are : wanted ≡ ids) where
  -- also after an error only complete commits are marked
  pub tips_marking : (held held' : Commits) → held ≡ g.held → VisitsSome objects wanted held held' → IsMarking g ids cutoff held'
  tips_marking held held' first s = s g ids cutoff same (subst (AreDue g ids cutoff) (sym are) (tips_due g ids cutoff))
      (subst (IsMarking g ids cutoff) (sym first) (marking_start g ids cutoff))

  -- once the tips were visited, the invariant holds
  pub tips_walk : (commits : Table) (bits : List Bool) (queue : List Entry) (new : Walk) → commits.held ≡ g.held → bits ≡ []
      → queue ≡ [] → VisitsEach objects wanted (walk_of commits bits queue) new → IsWalk g ids cutoff new
  tips_walk commits bits queue new first none empty e =
      e.walk g ids cutoff [] same (subst (AreDue g ids cutoff) (sym are) (tips_due g ids cutoff))
      (subst (λ bs. IsWalk g ids cutoff (walk_of commits bs queue)) (sym none)
      (subst (λ q. IsWalk g ids cutoff (walk_of commits [] q)) (sym empty)
      (subst (λ m. IsWalk g ids cutoff (stands m (is_visited commits.ids []) [])) (sym first)
      (walk_start g ids cutoff (is_visited commits.ids []) (none_visited commits.ids)))))

  -- each id that was read is due
  pub tips_asked : (commits : Table) (bits : List Bool) (new : Walk) → commits.held ≡ g.held → (before after : List ObjectId)
      → AsksAll objects wanted (walk_of commits bits []) new before after → HasAsked g ids cutoff before new.visited after
  tips_asked commits bits new first before after a = a g ids cutoff before same (subst (AreDue g ids cutoff) (sym are)
      (tips_due g ids cutoff)) (subst (OnlyMarks g) (sym first) (marking_start g ids cutoff).only_marks) (asks_none _ before)

  -- each id that was read is due, also after an error
  pub tips_asked_some : (commits : Table) (bits : List Bool) → commits.held ≡ g.held → (before after : List ObjectId)
      → AsksSome objects wanted (walk_of commits bits []) before after → AsksDue g ids cutoff before after
  tips_asked_some commits bits first before after a = a g ids cutoff before same (subst (AreDue g ids cutoff) (sym are)
      (tips_due g ids cutoff)) (subst (OnlyMarks g) (sym first) (marking_start g ids cutoff).only_marks) (asks_none _ before)

module _ (g : GraphData) (ids : List ObjectId) (cutoff : Option ℤ) (held : Commits) (visited : ObjectId → Bool) (names : List ObjectId)
    (newest : Entry) (old rest : List Entry) (taken : IsPermutation old (newest ∷ rest))
    (w : IsWalk g ids cutoff (stands held visited (waiting_in names old))) where
  newest_first : IsWalk g ids cutoff (stands held visited (waiting_of names newest ∷ waiting_in names rest))
  newest_first = walk_permuted g ids cutoff held visited (waiting_in names old) (waiting_of names newest ∷ waiting_in names rest) w
      (waiting_taken names newest old rest taken)

  newest_queued : IsQueued g ids cutoff held (waiting_of names newest)
  newest_queued = All-head (IsQueued g ids cutoff held) (waiting_of names newest) (waiting_in names rest) newest_first.queued

  -- where its time is at least the cutoff, its parents may be read
  pub newest_due : (least : ℤ) → cutoff ≡ Some least → least ≤ℤ newest.time
      → AreDue g ids cutoff (parents_in held (id_at names newest.number))
  newest_due = due_parents g ids cutoff held w.marking.only_marks (waiting_of names newest) newest_queued

  module _ (objects : Objects) (same : objects ≡ g.objects) (wanted : List ObjectId)
      (are : wanted ≡ parents_in held (id_at names newest.number)) (new : Walk)
      (e : VisitsEach objects wanted (stands held visited (waiting_in names rest)) new) where
    -- once its parents were visited, the invariant holds without it
    pub newest_walk : AreDue g ids cutoff wanted → IsWalk g ids cutoff new
    newest_walk due =
        walk_seen g ids cutoff new.held new.visited (waiting_of names newest) new.waiting
        (e.walk g ids cutoff (waiting_of names newest ∷ []) same due newest_first)
        (expanded_parents g ids cutoff held w.marking.only_marks (waiting_of names newest) newest_queued new.visited
        (subst (AllVisited new.visited) are e.visited))

    -- less is left to do
    pub newest_left : (after : List Entry) (names' : List ObjectId) → new.waiting ≡ waiting_in names' after
        → left g new.visited + length after + 1 ≤ left g visited + length old
    newest_left after names' is =
        let a : left g new.visited + length new.waiting ≤ left g visited + length (waiting_in names rest) =
        (e.less g same w.marking.only_marks).1 in
        let b : length new.waiting ≡ length after = ap length is ∙ length-map after (waiting_of names') in
        let c : length (waiting_in names rest) ≡ length rest = length-map rest (waiting_of names) in
        let d : suc (length rest) ≡ length old = length_permutation old (newest ∷ rest) taken in
        omega arith

-- visited ids stay visited
pub still_visited : (objects : Objects) (wanted ids : List ObjectId) (old new : Walk) → VisitsEach objects wanted old new
    → AllVisited old.visited ids → AllVisited new.visited ids
still_visited objects wanted ids old new e m = All-weaker (λ id. old.visited id ≡ true) (λ id. new.visited id ≡ true) e.keeps ids m
