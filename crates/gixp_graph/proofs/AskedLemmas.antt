-- Which ids a walk reads.
use Rattle.std.proofs.Common.{◌≡◌, ℕ, ℤ, ◌<◌, ◌∙◌, inl, inr, ⊎_elim, Bool, true, false, true≢false, List, [], ◌∷◌, ◌++◌, take, length, get_or, append-nil, append_assoc, Option, Some, None, sym, ap, subst}
use Rattle.std.specs.Prelude.{option_map}
use Rattle.std.specs.List.{IsDistinct}
use Rattle.std.specs.Ordering.{eq_by_cmp}
use Rattle.std.proofs.lemmas.Cmp.{eq_by_cmp_equiv}
use Rattle.std.proofs.lemmas.Map.Keys.{IsDistinct-push}
use Rattle.std.proofs.lemmas.List.Folds.{list_any_none}
use Rattle.std.proofs.lemmas.List.Elements.{All-nil, All-push, All-head, All-take, All-weaker}
use Rattle.std.specs.FinMap as finite
use Rattle.gixp_hash.specs.declared.object_id.ObjectId.{ObjectId}
use Rattle.gixp_hash.specs.ObjectId.{id_cmp}
use Rattle.gixp_graph.specs.declared.flags.Flags.{Flags}
use Rattle.gixp_graph.specs.Object.{Objects, commit_at}
use Rattle.gixp_graph.specs.GraphData.{HeldCommit, Commits, GraphData, commit_in, shown, OnlyMarks, IsFaithful}
use Rattle.gixp_graph.specs.Complete.{IsDue}
use Rattle.gixp_graph.specs.Asked.{AsksOnce, AsksWhere, AsksEach}
use Rattle.gixp_graph.specs.Walk.{Walk, IsUnread, Visits, VisitsEach, AsksDue, HasAsked, AsksAll, AsksSome}
use Rattle.gixp_graph.specs.GraphLaws.{same_from, faithful_reads}
use Rattle.gixp_hash.specs.IdLaws.{ids_total}
use Rattle.gixp_graph.proofs.MarkLemmas.{true_or_false}
use Rattle.gixp_graph.proofs.HeldLemmas.{unknown}
use Rattle.gixp_graph.proofs.FaithfulLemmas.{complete_same}
use Rattle.gixp_graph.proofs.StepLemmas.{visit_visited, visit_keeps}
use Rattle.gixp_graph.proofs.WalkLemmas.{all_left, all_right}

-- ---- one look-up

-- a commit that shows nothing isn't held
pub asks_unheld : (m : Commits) (id : ObjectId) (old new : List ObjectId) → ◌≡◌ {A = Option (ℤ × Flags)} None
    (option_map shown (finite.get m id)) → AsksOnce id old new → AsksWhere (finite.get m id ≡ None) id old new
asks_unheld m id old new e a = ⊎_elim (λ s. inl s) (λ s. inr (unknown m id e, s)) a

-- a commit that isn't held and wasn't visited is unread
pub asks_unread : (w : Walk) (id : ObjectId) (old new : List ObjectId) → w.visited id ≡ false
    → AsksWhere (finite.get w.held id ≡ None) id old new → AsksWhere (IsUnread w id) id old new
asks_unread w id old new v a = ⊎_elim (λ s. inl s) (λ s. inr ((v, s.0), s.1)) a

-- ---- several

pub asks_none : (P : ObjectId → Type 0) (old : List ObjectId) → AsksEach P old old
unfolding IsDistinct
asks_none P old = record { ids = []; appended = sym (append-nil old); distinct = tt; each = All-nil P }

-- ids with a property have each weaker one
pub asks_weaker : (P Q : ObjectId → Type 0) → ((q : ObjectId) → P q → Q q) → (old new : List ObjectId) → AsksEach P old new
    → AsksEach Q old new
asks_weaker P Q weaker old new a =
    record { ids = a.ids; appended = a.appended; distinct = a.distinct; each = All-weaker P Q weaker a.ids a.each }

-- one more id was read
pub asks_more : (P Q : ObjectId → Type 0) → ((q : ObjectId) → P q → Q q) → (id : ObjectId) → Q id → ((q : ObjectId) → P q
    → eq_by_cmp id_cmp id q ≡ false) → (old mid new : List ObjectId) → new ≡ mid ++ id ∷ [] → AsksEach P old mid → AsksEach Q old new
asks_more P Q weaker id own apart old mid new e a = record {
  ids = a.ids ++ id ∷ [];
  appended = e ∙ ap (λ l. l ++ id ∷ []) a.appended ∙ append_assoc old a.ids (id ∷ []);
  distinct = IsDistinct-push (eq_by_cmp_equiv ids_total) a.ids id a.distinct
      (list_any_none (eq_by_cmp id_cmp id) a.ids (All-weaker P (λ q. eq_by_cmp id_cmp id q ≡ false) apart a.ids a.each));
  each = All-push Q a.ids id (All-weaker P Q weaker a.ids a.each) own;
}

-- ---- a visit

-- a commit that isn't held wasn't held at the start
unheld : (g : GraphData) (held : Commits) → OnlyMarks g held → (id : ObjectId) → finite.get held id ≡ None → finite.get g.held id ≡ None
unheld g held only id u = ⊎_elim (λ e. sym e ∙ u) (λ n. absurd (let c : ◌≡◌ {A = Option HeldCommit} None (Some _) = sym u ∙ n.2 in cc))
    (only id)

module _ (g : GraphData) (ids : List ObjectId) (cutoff : Option ℤ) (start : List ObjectId) (w : Walk) (only : OnlyMarks g w.held)
    (id : ObjectId) (due : IsDue (commit_in g) ids cutoff id) (before after : List ObjectId)
    (asks : AsksWhere (IsUnread w id) id before after) (has : HasAsked g ids cutoff start w.visited before) where
  -- a visited id isn't one that wasn't visited
  apart : w.visited id ≡ false → (q : ObjectId) → w.visited q ≡ true → eq_by_cmp id_cmp id q ≡ false
  apart u q v = ⊎_elim (λ t. absurd (true≢false (sym v ∙ ap w.visited (sym (same_from id q t)) ∙ u))) (λ f. f)
      (true_or_false (eq_by_cmp id_cmp id q))

  -- a visit may read its id
  visit_asks : (Q : ObjectId → Type 0) → ((q : ObjectId) → w.visited q ≡ true → finite.get g.held q ≡ None
      → IsDue (commit_in g) ids cutoff q → Q q) → (finite.get g.held id ≡ None → Q id) → AsksEach Q start after
  visit_asks Q weaker own =
      let P : ObjectId → Type 0 = λ q. (w.visited q ≡ true) × (finite.get g.held q ≡ None) × IsDue (commit_in g) ids cutoff q in
      ⊎_elim
      (λ e. subst (AsksEach Q start) (sym e) (asks_weaker P Q (λ q p. weaker q p.0 p.1 p.2) start before has))
      (λ e. asks_more P Q (λ q p. weaker q p.0 p.1 p.2) id (own (unheld g w.held only id e.0.1))
      (λ q p. apart e.0.0 q p.0) start before after e.1 has)
      asks

  -- after a visit, each id that was read is due and was visited
  pub visit_asked : (visited : ObjectId → Bool) → visited id ≡ true → ((q : ObjectId) → w.visited q ≡ true → visited q ≡ true)
      → HasAsked g ids cutoff start visited after
  visit_asked visited here keeps = visit_asks (λ q. (visited q ≡ true) × (finite.get g.held q ≡ None)
      × IsDue (commit_in g) ids cutoff q) (λ q v u d. (keeps q v, u, d)) (λ u. (here, u, due))

  -- also after a visit that failed, each id that was read is due
  pub visit_asked_err : AsksDue g ids cutoff start after
  visit_asked_err = visit_asks (λ q. (finite.get g.held q ≡ None) × IsDue (commit_in g) ids cutoff q) (λ q v u d. (u, d)) (λ u. (u, due))

-- ---- visits

pub asked_none : (objects : Objects) (old : Walk) (before : List ObjectId) → AsksAll objects [] old old before before
asked_none objects old before g ids cutoff start same due only has = has

-- one more visit
pub asked_more : (objects : Objects) (wanted : List ObjectId) (old mid new : Walk) (id : ObjectId)
    (before between after : List ObjectId) → VisitsEach objects wanted old mid → Visits objects id mid new
    → AsksWhere (IsUnread mid id) id between after
    → AsksAll objects wanted old mid before between → AsksAll objects (wanted ++ id ∷ []) old new before after
asked_more objects wanted old mid new id before between after e v asks all g ids cutoff start same due only has =
    visit_asked g ids cutoff start mid (e.less g same only).0 id
    (All-head (IsDue (commit_in g) ids cutoff) id [] (all_right (IsDue (commit_in g) ids cutoff) wanted (id ∷ []) due)) between after asks
    (all g ids cutoff start same (all_left (IsDue (commit_in g) ids cutoff) wanted (id ∷ []) due) only has)
    new.visited (visit_visited objects id mid new v) (visit_keeps objects id mid new v)

-- a failed visit
pub asked_some : (objects : Objects) (wanted : List ObjectId) (k : ℕ) (d : ObjectId) → k < length wanted
    → (old mid : Walk) (before between after : List ObjectId) → VisitsEach objects (take k wanted) old mid
    → AsksWhere (IsUnread mid (get_or wanted k d)) (get_or wanted k d) between after
    → AsksAll objects (take k wanted) old mid before between → AsksSome objects wanted old before after
asked_some objects wanted k d l old mid before between after e asks all g ids cutoff start same due only has =
    visit_asked_err g ids cutoff start mid (e.less g same only).0 (get_or wanted k d) (due k d l) between after asks
    (all g ids cutoff start same (All-take (IsDue (commit_in g) ids cutoff) k wanted due) only has)

pub asked_due : (g : GraphData) (ids : List ObjectId) (cutoff : Option ℤ) (start : List ObjectId) (visited : ObjectId → Bool)
    (asked : List ObjectId) → HasAsked g ids cutoff start visited asked → AsksDue g ids cutoff start asked
asked_due g ids cutoff start visited asked a =
    asks_weaker (λ q. (visited q ≡ true) × (finite.get g.held q ≡ None) × IsDue (commit_in g) ids cutoff q)
    (λ q. (finite.get g.held q ≡ None) × IsDue (commit_in g) ids cutoff q) (λ q p. (p.1, p.2)) start asked a

-- ---- by what the objects have

-- the objects and a graph whose held commits are equal to theirs have the same ids to read
due_same : (g : GraphData) → IsFaithful g → (ids : List ObjectId) (cutoff : Option ℤ) (id : ObjectId)
    → IsDue (commit_in g) ids cutoff id → IsDue (commit_at g.objects) ids cutoff id
due_same g f ids cutoff id (IsDue.tip c) = IsDue.tip c
due_same g f ids cutoff id (IsDue.parent {child = child} k r l t i) = IsDue.parent (complete_same (commit_in g) (commit_at g.objects)
    (faithful_reads g f) ids cutoff child k) (sym (faithful_reads g f child) ∙ r) l t i

pub asked_exact : (g : GraphData) → IsFaithful g → (ids : List ObjectId) (cutoff : Option ℤ) (start asked : List ObjectId)
    → AsksDue g ids cutoff start asked
    → AsksEach (λ id. (finite.get g.held id ≡ None) × IsDue (commit_at g.objects) ids cutoff id) start asked
asked_exact g f ids cutoff start asked a =
    asks_weaker (λ q. (finite.get g.held q ≡ None) × IsDue (commit_in g) ids cutoff q) (λ id. (finite.get g.held id ≡ None)
    × IsDue (commit_at g.objects) ids cutoff id) (λ q p. (p.0, due_same g f ids cutoff q p.1)) start asked a
