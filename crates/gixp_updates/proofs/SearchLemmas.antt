-- A search for one commit among the ancestors of another.
use Rattle.std.proofs.Common.{◌≡◌, ℕ, length, ◌≢◌, ◌∙◌, inl, inr, ⊎_elim, Bool, true, false, true≢false, ◌||◌, List, [], ◌∷◌, Option, Some, None, refl, sym, ap, subst, arith}
use Rattle.std.specs.Prelude.{is_some, IsSome, Contains, All}
use Rattle.std.specs.List.{IsDistinct}
use Rattle.std.specs.Ordering.{eq_by_cmp}
use Rattle.std.proofs.lemmas.Bool.{or_cases, or_left, or_right}
use Rattle.std.proofs.lemmas.List.Elements.{All-nil, All-cons, All-contains}
use Rattle.std.specs.FinMap as finite
use Rattle.gixp_hash.specs.declared.object_id.ObjectId.{ObjectId}
use Rattle.gixp_hash.specs.ObjectId.{id_cmp}
use Rattle.gixp_graph.specs.Object.{Objects, Commit, commit_at}
use Rattle.gixp_graph.specs.GraphData.{GraphData}
use Rattle.gixp_graph.specs.Asked.{AsksEach}
use Rattle.gixp_graph.specs.GraphLaws.{same_from}
use Rattle.gixp_updates.specs.Ancestors.{IsAncestor, IsReachedFrom, ReachesMore, IsBeyond}
use Rattle.gixp_updates.specs.Search.{Search, SeesMore, Explores, HasAskedFor, IsSeenThrough, IsSearch}
use Rattle.gixp_updates.proofs.LookLemmas.{same_id}
use Rattle.gixp_graph.proofs.AskedLemmas.{asks_weaker}

is_one : (id q : ObjectId) → Contains (id ∷ []) q → id ≡ q
is_one id q h = All-contains (λ x. id ≡ x) (id ∷ []) q (All-cons (λ x. id ≡ x) id [] refl (All-nil (λ x. id ≡ x))) h

-- an ancestor exists
pub ancestor_there : (read : ObjectId → Option Commit) (start q : ObjectId) → IsAncestor read start q → IsSome (read q)
ancestor_there read start q (IsAncestor.itself s) = s
ancestor_there read start q (IsAncestor.parent k r i s) = s

pub the_commit : (o : Option Commit) → IsSome o → (c : Commit) × (o ≡ Some c)
the_commit None s = absurd (let t : false ≡ true = s in cc)
the_commit (Some c) s = (c, refl)

-- ---- its beginning

module _ (objects : Objects) (start target : ObjectId) (none s : Search) (unseen : (q : ObjectId) → none.seen q ≡ false) where
  pub begun_reached : SeesMore (start ∷ []) none s → (q : ObjectId) → s.seen q ≡ true → IsReachedFrom (commit_at objects) start q
  begun_reached m q h = ⊎_elim (λ e. absurd (true≢false (sym e ∙ unseen q)))
      (λ e. subst (IsReachedFrom (commit_at objects) start) (is_one start q e) IsReachedFrom.itself) (m.only q h)

  pub search_begun : ((q : ObjectId) → none.waits q ≡ false) → Explores objects (start ∷ []) none s
      → IsSearch (commit_at objects) start target s
  search_begun idle e = record {
    begun = All-contains (λ q. s.seen q ≡ true) (start ∷ []) start e.sees (0, omega arith, refl);
    reached = begun_reached e.more;
    ancestors = λ q w. ⊎_elim
        (λ h. absurd (true≢false (sym h ∙ idle q)))
        (λ h. let same : start ≡ q = is_one start q h.1 in subst (IsAncestor (commit_at objects) start) same
        (IsAncestor.itself (subst (λ x. IsSome (commit_at objects x)) (sym same) h.0)))
        (e.found q w);
    closed = λ q h t. ⊎_elim (λ e. absurd (true≢false (sym e ∙ unseen q))) (λ w. inl w) (e.waits q h t);
  }

-- ---- its steps

module _ (objects : Objects) (start target : ObjectId) (a b c : Search) (id : ObjectId)
    (search : IsSearch (commit_at objects) start target a) (taken : (q : ObjectId) → a.waits q ≡ (eq_by_cmp id_cmp q id || b.waits q))
    (same : (q : ObjectId) → b.seen q ≡ a.seen q) where
  -- the commit that is taken is an ancestor
  pub taken_ancestor : IsAncestor (commit_at objects) start id
  taken_ancestor = search.ancestors id (taken id ∙ or_left (eq_by_cmp id_cmp id id) (b.waits id) (same_id id))

  module _ (ps : List ObjectId) (parents : (k : Commit) → commit_at objects id ≡ Some k → ps ≡ k.parents) where
    its_commit : (k : Commit) × (commit_at objects id ≡ Some k)
    its_commit = the_commit (commit_at objects id) (ancestor_there (commit_at objects) start id taken_ancestor)

    is_parent : (q : ObjectId) → Contains ps q → Contains (its_commit.0).parents q
    is_parent q h = subst (λ xs. Contains xs q) (parents its_commit.0 its_commit.1) h

    pub step_reached : SeesMore ps b c → (q : ObjectId) → c.seen q ≡ true → IsReachedFrom (commit_at objects) start q
    step_reached m q h = ⊎_elim (λ e. search.reached q (sym (same q) ∙ e))
        (λ e. IsReachedFrom.parent taken_ancestor its_commit.1 (is_parent q e)) (m.only q h)

    module _ (other : id ≢ target) (e : Explores objects ps b c) where
      -- the parents of the commit that is taken were looked up, and it isn't the one that is searched for
      passes : (q : ObjectId) → q ≡ id → IsSeenThrough (commit_at objects) target c.seen q
      passes q is = record {
        other = λ t. other (sym is ∙ t);
        parents = λ k p r i. All-contains (λ x. c.seen x ≡ true) ps p e.sees
            (subst (λ xs. Contains xs p) (sym (parents k (ap (commit_at objects) (sym is) ∙ r))) i);
      }

      stays_passed : (q : ObjectId) → IsSeenThrough (commit_at objects) target a.seen q → IsSeenThrough (commit_at objects) target c.seen q
      stays_passed q p = record { other = p.other; parents = λ k x r i. e.more.keeps x (same x ∙ p.parents k x r i) }

      pub search_step : IsSearch (commit_at objects) start target c
      search_step = record {
        begun = e.more.keeps start (same start ∙ search.begun);
        reached = step_reached e.more;
        ancestors = λ q w. ⊎_elim
            (λ h. search.ancestors q (taken q ∙ or_right (eq_by_cmp id_cmp q id) (b.waits q) h))
            (λ h. IsAncestor.parent taken_ancestor its_commit.1 (is_parent q h.1) h.0)
            (e.found q w);
        closed = λ q h t. ⊎_elim
            (λ h. ⊎_elim
            (λ w. ⊎_elim (λ is. inr (passes q (same_from q id is))) (λ w. inl (e.stays q w))
            (or_cases (eq_by_cmp id_cmp q id) (b.waits q) (sym (taken q) ∙ w)))
            (λ p. inr (stays_passed q p))
            (search.closed q (sym (same q) ∙ h) t))
            (λ w. inl w) (e.waits q h t);
      }

-- ---- its end

module _ (objects : Objects) (start target : ObjectId) (s : Search) (search : IsSearch (commit_at objects) start target s)
    (idle : (q : ObjectId) → s.waits q ≡ false) where
  -- each ancestor was looked up
  all_seen : (q : ObjectId) → IsAncestor (commit_at objects) start q → s.seen q ≡ true
  all_seen q (IsAncestor.itself t) = search.begun
  all_seen q (IsAncestor.parent {child} {id} {c} k r i t) =
      ⊎_elim (λ w. absurd (true≢false (sym w ∙ idle child))) (λ p. p.parents c q r i)
      (search.closed child (all_seen child k) (ap is_some r))

  -- none of the ancestors is the one that is searched for
  pub not_found : IsAncestor (commit_at objects) start target → ⊥
  not_found k = ⊎_elim (λ w. true≢false (sym w ∙ idle target)) (λ p. p.other refl)
      (search.closed target (all_seen target k) (ancestor_there (commit_at objects) start target k))

-- ---- which ids were read

pub asked_reached : (g : GraphData) (read : ObjectId → Option Commit) (start : ObjectId) (s : Search) (before after : List ObjectId)
    → ((q : ObjectId) → s.seen q ≡ true → IsReachedFrom read start q) → HasAskedFor g s before after
    → AsksEach (λ q. (finite.get g.held q ≡ None) × IsReachedFrom read start q) before after
asked_reached g read start s before after reached a =
    asks_weaker (λ q. (s.seen q ≡ true) × (finite.get g.held q ≡ None)) (λ q. (finite.get g.held q ≡ None) × IsReachedFrom read start q)
    (λ q p. (p.1, reached q p.0)) before after a

-- the same ids were looked up
pub asked_seen : (g : GraphData) (a b : Search) (before after : List ObjectId) → ((q : ObjectId) → b.seen q ≡ a.seen q)
    → HasAskedFor g a before after → HasAskedFor g b before after
asked_seen g a b before after same h =
    asks_weaker (λ q. (a.seen q ≡ true) × (finite.get g.held q ≡ None)) (λ q. (b.seen q ≡ true) × (finite.get g.held q ≡ None))
    (λ q p. (same q ∙ p.0, p.1)) before after h

-- ---- small steps

-- the commit that is taken was queued
pub taken_waits : (id : ObjectId) (w : Bool) → (eq_by_cmp id_cmp id id || w) ≡ true
taken_waits id w = or_left (eq_by_cmp id_cmp id id) w (same_id id)

-- the other commits were queued
pub others_wait : (q id : ObjectId) (w : Bool) → w ≡ true → (eq_by_cmp id_cmp q id || w) ≡ true
others_wait q id w h = or_right (eq_by_cmp id_cmp q id) w h

-- equal objects
pub explored : (objects same : Objects) → same ≡ objects → (ids : List ObjectId) (a b : Search) → Explores same ids a b
    → Explores objects ids a b
explored objects same e ids a b x = subst (λ o. Explores o ids a b) e x

-- more ids were looked up than allowed
pub beyond : (read : ObjectId → Option Commit) (start : ObjectId) (allowed : Option ℕ) (ids : List ObjectId) (seen : ℕ)
    → seen ≡ length ids → IsBeyond seen allowed → IsDistinct (eq_by_cmp id_cmp) ids → All (IsReachedFrom read start) ids
    → (most : ℕ) × (allowed ≡ Some most) × ReachesMore read start most
beyond read start None ids seen l b d a = absurd b
beyond read start (Some most) ids seen l b d a = (most, refl, record { ids = ids; more = omega arith; distinct = d; each = a })
