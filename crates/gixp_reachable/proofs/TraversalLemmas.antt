-- The steps of a traversal, its end, which ids it reads, and why it ends.
use Rattle.std.proofs.Common.{◌≡◌, ℕ, ◌+◌, ◌≤◌, ◌<◌, ◌∙◌, ◌⊎◌, ◌↔◌, inl, inr, ⊎_elim, Bool, true, false, true≢false, cond, List, [], ◌∷◌, ◌++◌, length, Option, Some, None, refl, sym, ap, subst, arith, length-append}
use Rattle.std.specs.Prelude.{option_map, is_some, Contains, IsTrue}
use Rattle.std.specs.List.{list_any}
use Rattle.std.specs.Ordering.{eq_by_cmp}
use Rattle.std.proofs.lemmas.Bool.{or_cases}
use Rattle.std.proofs.lemmas.List.Elements.{All-nil, All-cons, All-contains, Contains-append_left, Contains-append_right, Contains-append_cases}
use Rattle.std.specs.FinMap as finite
use Rattle.std.specs.FinMap.{get-empty, get-insert, contains_key-keys}
use Rattle.gixp_hash.specs.declared.object_id.ObjectId.{ObjectId}
use Rattle.gixp_hash.specs.ObjectId.{id_cmp}
use Rattle.gixp_hash.specs.IdLaws.{ids_total}
use Rattle.gixp_graph.specs.Object.{Object, Objects, Commit, commit_at}
use Rattle.gixp_graph.specs.Asked.{AsksEach, AsksWhere}
use Rattle.gixp_graph.specs.GraphLaws.{same_from}
use Rattle.gixp_graph.proofs.MarkLemmas.{same_id, true_or_false}
use Rattle.gixp_graph.proofs.AskedLemmas.{asks_weaker, asks_more}
use Rattle.gixp_reachable.specs.Reachable.{IsReachable, as_stored}
use Rattle.gixp_reachable.specs.Traversal.{Traversed, traversed, parents_of, IsUnfound, SkipsObject, FindsObject, VisitsObject, IsAttended, IsTraversal, HasAskedFound, parents_left, look_ups_left}

-- ---- lists and maps

is_one : (id q : ObjectId) → Contains (id ∷ []) q → id ≡ q
is_one id q h = All-contains (λ x. id ≡ x) (id ∷ []) q (All-cons (λ x. id ≡ x) id [] refl (All-nil (λ x. id ≡ x))) h

in_none : (q : ObjectId) → Contains [] q → ⊥
in_none q h = All-contains (λ x. ⊥) [] q (All-nil (λ x. ⊥)) h

abbrev no_objects : Objects
no_objects = finite.empty

not_empty : (q : ObjectId) → finite.contains_key no_objects q ≡ true → ⊥
not_empty q h = true≢false (sym h ∙ ap is_some (get-empty id_cmp q))

-- an object was added
module _ (m : Objects) (id : ObjectId) (o : Object) where
  added_cases : (q : ObjectId) → finite.contains_key (finite.insert m id o) q ≡ true → (q ≡ id) ⊎ (finite.contains_key m q ≡ true)
  added_cases q h = at (eq_by_cmp id_cmp q id) refl (ap is_some (sym (get-insert ids_total m id o q)) ∙ h)
    where
      at : (b : Bool) → eq_by_cmp id_cmp q id ≡ b → is_some (cond b (Some o) (finite.get m q)) ≡ true
          → (q ≡ id) ⊎ (finite.contains_key m q ≡ true)
      at true e f = inl (same_from q id e)
      at false e f = inr f

  added_keeps : (q : ObjectId) → finite.contains_key m q ≡ true → finite.contains_key (finite.insert m id o) q ≡ true
  added_keeps q h = ap is_some (get-insert ids_total m id o q) ∙ at (eq_by_cmp id_cmp q id)
    where
      at : (b : Bool) → is_some (cond b (Some o) (finite.get m q)) ≡ true
      at true = refl
      at false = h

  added_at : finite.get (finite.insert m id o) id ≡ Some o
  added_at = get-insert ids_total m id o id ∙ ap (λ b. cond b (Some o) (finite.get m id)) (same_id id)

  added_here : finite.contains_key (finite.insert m id o) id ≡ true
  added_here = ap is_some added_at

  added_apart : (q : ObjectId) → eq_by_cmp id_cmp q id ≡ false → finite.get (finite.insert m id o) q ≡ finite.get m q
  added_apart q e = get-insert ids_total m id o q ∙ ap (λ b. cond b (Some o) (finite.get m q)) e

-- ---- the beginning

begun_empty : (objects : Objects) (tips : List ObjectId) → IsTraversal objects tips (traversed no_objects tips)
begun_empty objects tips = record {
  reached = λ q h. absurd (not_empty q h);
  values = λ q h. absurd (not_empty q h);
  waits = λ q w e. IsReachable.tip w e;
  begun = λ q t e. inr t;
  closed = λ child q c h r p e. absurd (not_empty child h);
}

pub traversal_begun : (objects : Objects) (tips : List ObjectId) (found : Objects) (waiting : List ObjectId) → found ≡ no_objects
    → waiting ≡ tips → IsTraversal objects tips (traversed found waiting)
traversal_begun objects tips found waiting e f =
    subst (λ m. IsTraversal objects tips (traversed m waiting)) (sym e)
    (subst (λ xs. IsTraversal objects tips (traversed no_objects xs)) (sym f) (begun_empty objects tips))

-- ---- a step: the last id that waits is taken and visited

module _ (objects : Objects) (tips : List ObjectId) (a b c : Traversed) (id : ObjectId) (same : b.found ≡ a.found)
    (taken : a.waiting ≡ b.waiting ++ id ∷ []) (t : IsTraversal objects tips a) where
  still_waits : (q : ObjectId) → Contains b.waiting q → Contains a.waiting q
  still_waits q h = subst (λ xs. Contains xs q) (sym taken) (Contains-append_left b.waiting (id ∷ []) q h)

  waited : Contains a.waiting id
  waited = subst (λ xs. Contains xs id) (sym taken) (Contains-append_right b.waiting (id ∷ []) id (0, omega arith, refl))

  waited_cases : (q : ObjectId) → Contains a.waiting q → Contains b.waiting q ⊎ (id ≡ q)
  waited_cases q h = ⊎_elim (λ w. inl w) (λ w. inr (is_one id q w))
      (Contains-append_cases b.waiting (id ∷ []) q (subst (λ xs. Contains xs q) taken h))

  -- the id that is taken is reachable if it exists
  pub taken_reachable : finite.contains_key objects id ≡ true → IsReachable objects tips id
  taken_reachable e = t.waits id waited e

  -- ids that were found are reachable
  pub found_reachable : (q : ObjectId) → finite.contains_key b.found q ≡ true → IsReachable objects tips q
  found_reachable q h = t.reached q (ap (λ m. finite.contains_key m q) (sym same) ∙ h)

  module _ (p : SkipsObject objects id b c) where
    passed_found : c.found ≡ a.found
    passed_found = p.found ∙ same

    passed_attended : (q : ObjectId) → IsAttended objects a q → IsAttended objects c q
    passed_attended q h e = ⊎_elim
        (λ f. inl (ap (λ m. finite.contains_key m q) passed_found ∙ f))
        (λ w. ⊎_elim
        (λ v. inr (subst (λ xs. Contains xs q) (sym p.waiting) v))
        (λ is. ⊎_elim
        (λ n. absurd (true≢false (sym e ∙ ap (finite.contains_key objects) (sym is) ∙ n)))
        (λ f. inl (ap (finite.contains_key c.found) (sym is) ∙ ap (λ m. finite.contains_key m id) p.found ∙ f))
        p.done)
        (waited_cases q w))
        (h e)

    passed_traversal : IsTraversal objects tips c
    passed_traversal = record {
      reached = λ q h. t.reached q (ap (λ m. finite.contains_key m q) (sym passed_found) ∙ h);
      values = λ q h. ap (λ m. finite.get m q) passed_found ∙ t.values q (ap (λ m. finite.contains_key m q) (sym passed_found) ∙ h);
      waits = λ q w e. t.waits q (still_waits q (subst (λ xs. Contains xs q) p.waiting w)) e;
      begun = λ q h. passed_attended q (t.begun q h);
      closed = λ child q k h r i. passed_attended q (t.closed child q k (ap (λ m. finite.contains_key m child) (sym passed_found) ∙ h) r i);
    }

  module _ (f : FindsObject objects id b c) where
    found_is : c.found ≡ finite.insert a.found id (as_stored f.object)
    found_is = f.found ∙ ap (λ (m : Objects). finite.insert m id (as_stored f.object)) same

    found_exists : finite.contains_key objects id ≡ true
    found_exists = ap is_some f.exists

    found_here : finite.contains_key c.found id ≡ true
    found_here = ap (λ m. finite.contains_key m id) found_is ∙ added_here a.found id (as_stored f.object)

    found_keeps : (q : ObjectId) → finite.contains_key a.found q ≡ true → finite.contains_key c.found q ≡ true
    found_keeps q h = ap (λ m. finite.contains_key m q) found_is ∙ added_keeps a.found id (as_stored f.object) q h

    found_cases : (q : ObjectId) → finite.contains_key c.found q ≡ true → (q ≡ id) ⊎ (finite.contains_key a.found q ≡ true)
    found_cases q h = added_cases a.found id (as_stored f.object) q (ap (λ m. finite.contains_key m q) (sym found_is) ∙ h)

    found_commit : (o : Option Commit) → f.object.commit ≡ o → commit_at objects id ≡ o
    found_commit o e = ap (λ (x : Option Object). commit_in x) f.exists ∙ e
      where
        commit_in : Option Object → Option Commit
        commit_in None = None
        commit_in (Some x) = x.commit

    found_attended : (q : ObjectId) → IsAttended objects a q → IsAttended objects c q
    found_attended q h e = ⊎_elim
        (λ k. inl (found_keeps q k))
        (λ w. ⊎_elim
        (λ v. inr (subst (λ xs. Contains xs q) (sym f.waiting) (Contains-append_left b.waiting (parents_of f.object.commit) q v)))
        (λ is. inl (ap (finite.contains_key c.found) (sym is) ∙ found_here))
        (waited_cases q w))
        (h e)

    parent_reachable : (o : Option Commit) → f.object.commit ≡ o → (q : ObjectId) → Contains (parents_of o) q
        → finite.contains_key objects q ≡ true → IsReachable objects tips q
    parent_reachable None e q i there = absurd (in_none q i)
    parent_reachable (Some k) e q i there = IsReachable.parent (taken_reachable found_exists) (found_commit (Some k) e) i there

    found_value : (q : ObjectId) → finite.contains_key c.found q ≡ true
        → finite.get c.found q ≡ option_map as_stored (finite.get objects q)
    found_value q h = ap (λ m. finite.get m q) found_is ∙ ⊎_elim
        (λ e.
        let is : q ≡ id = same_from q id e in
        ap (finite.get (finite.insert a.found id (as_stored f.object))) is
        ∙ added_at a.found id (as_stored f.object)
        ∙ sym (ap (λ x. option_map as_stored (finite.get objects x)) is ∙ ap (option_map as_stored) f.exists))
        (λ e. added_apart a.found id (as_stored f.object) q e ∙ t.values q
        (ap is_some (sym (added_apart a.found id (as_stored f.object) q e)) ∙ ap (λ m. finite.contains_key m q) (sym found_is) ∙ h))
        (true_or_false (eq_by_cmp id_cmp q id))

    found_closed : (child q : ObjectId) (k : Commit) → finite.contains_key c.found child ≡ true → commit_at objects child ≡ Some k
        → Contains k.parents q → IsAttended objects c q
    found_closed child q k h r i = ⊎_elim
        (λ is e. inr (subst (λ xs. Contains xs q) (sym f.waiting) (Contains-append_right b.waiting (parents_of f.object.commit) q
        (subst (λ o. Contains (parents_of o) q) (sym (sym (found_commit f.object.commit refl) ∙ ap (commit_at objects) (sym is) ∙ r)) i))))
        (λ was. found_attended q (t.closed child q k was r i))
        (found_cases child h)

    found_traversal : IsTraversal objects tips c
    found_traversal = record {
      reached = λ q h. ⊎_elim (λ is. subst (IsReachable objects tips) (sym is) (taken_reachable found_exists)) (λ was. t.reached q was)
          (found_cases q h);
      values = found_value;
      waits = λ q w e. ⊎_elim (λ v. t.waits q (still_waits q v) e) (λ i. parent_reachable f.object.commit refl q i e)
          (Contains-append_cases b.waiting (parents_of f.object.commit) q (subst (λ xs. Contains xs q) f.waiting w));
      begun = λ q h. found_attended q (t.begun q h);
      closed = found_closed;
    }

  pub traversal_step : VisitsObject objects id b c → IsTraversal objects tips c
  traversal_step v = ⊎_elim passed_traversal found_traversal v

-- ---- the end: no id waits

no_ids : (ids : List ObjectId) → length ids ≡ 0 → ids ≡ []
no_ids [] e = refl
no_ids (x ∷ xs) e = absurd (omega arith)

module _ (objects : Objects) (tips : List ObjectId) (s : Traversed) (t : IsTraversal objects tips s) (none : length s.waiting ≡ 0) where
  idle : s.waiting ≡ []
  idle = no_ids s.waiting none

  not_waiting : (q : ObjectId) → IsAttended objects s q → finite.contains_key objects q ≡ true → finite.contains_key s.found q ≡ true
  not_waiting q h e = ⊎_elim (λ f. f) (λ w. absurd (in_none q (subst (λ xs. Contains xs q) idle w))) (h e)

  all_found : (q : ObjectId) → IsReachable objects tips q → finite.contains_key s.found q ≡ true
  all_found q (IsReachable.tip i e) = not_waiting q (t.begun q i) e
  all_found q (IsReachable.parent {child} {id} {c} k r i e) = not_waiting q (t.closed child q c (all_found child k) r i) e

  pub ends_reached : (q : ObjectId) → IsTrue (finite.contains_key s.found q) ↔ IsReachable objects tips q
  ends_reached q = (t.reached q, all_found q)

  pub ends_values : (q : ObjectId) → IsReachable objects tips q → finite.get s.found q ≡ option_map as_stored (finite.get objects q)
  ends_values q r = t.values q (all_found q r)

-- ---- equal objects

pub visits_same : (objects same : Objects) → same ≡ objects → (id : ObjectId) (old new : Traversed) → VisitsObject same id old new
    → VisitsObject objects id old new
visits_same objects same e id old new v = subst (λ o. VisitsObject o id old new) e v

pub asks_same : (objects same : Objects) → same ≡ objects → (found : Objects) (id : ObjectId) (before after : List ObjectId)
    → AsksWhere (IsUnfound same found id) id before after → AsksWhere (IsUnfound objects found id) id before after
asks_same objects same e found id before after a = subst (λ o. AsksWhere (IsUnfound o found id) id before after) e a

-- ---- which ids were read

module _ (objects : Objects) (id : ObjectId) (b : Traversed) (start before after : List ObjectId)
    (asks : AsksWhere (IsUnfound objects b.found id) id before after) (has : HasAskedFound b start before) where
  unlike : finite.contains_key b.found id ≡ false → (q : ObjectId) → finite.contains_key b.found q ≡ true → eq_by_cmp id_cmp id q ≡ false
  unlike u q h = ⊎_elim (λ e. absurd (true≢false (sym h ∙ ap (finite.contains_key b.found) (sym (same_from id q e)) ∙ u))) (λ e. e)
      (true_or_false (eq_by_cmp id_cmp id q))

  asks_on : (Q : ObjectId → Type 0) → ((q : ObjectId) → finite.contains_key b.found q ≡ true → Q q)
      → (IsUnfound objects b.found id → Q id) → AsksEach Q start after
  asks_on Q weaker own = ⊎_elim
      (λ e. subst (AsksEach Q start) (sym e) (asks_weaker (λ q. finite.contains_key b.found q ≡ true) Q weaker start before has))
      (λ e. asks_more (λ q. finite.contains_key b.found q ≡ true) Q weaker id (own e.0) (unlike e.0.1) start before after e.1 has)
      asks

  -- each id that was read is reachable
  pub asked_reachable : (tips : List ObjectId) → ((q : ObjectId) → finite.contains_key b.found q ≡ true → IsReachable objects tips q)
      → (finite.contains_key objects id ≡ true → IsReachable objects tips id) → AsksEach (IsReachable objects tips) start after
  asked_reachable tips found own = asks_on (IsReachable objects tips) found (λ u. own u.0)

  -- after a visit each id that was read is found
  pub asked_found : (c : Traversed) → VisitsObject objects id b c → HasAskedFound c start after
  asked_found c v = ⊎_elim
      (λ p. asks_on (λ q. finite.contains_key c.found q ≡ true) (λ q h. ap (λ m. finite.contains_key m q) p.found ∙ h)
      (λ u. ⊎_elim (λ n. absurd (true≢false (sym u.0 ∙ n))) (λ f. absurd (true≢false (sym f ∙ u.1))) p.done))
      (λ f. asks_on (λ q. finite.contains_key c.found q ≡ true)
      (λ q h. ap (λ m. finite.contains_key m q) f.found ∙ added_keeps b.found id (as_stored f.object) q h)
      (λ u. ap (λ m. finite.contains_key m id) f.found ∙ added_here b.found id (as_stored f.object)))
      v

-- ---- the measure

-- how many parents count for one id
one_left : (old new : Bool) (n : ℕ) → (old ≡ true → new ≡ true) → cond new 0 n ≤ cond old 0 n
one_left true true n k = omega arith
one_left true false n k = absurd (let e : false ≡ true = k refl in cc)
one_left false true n k = omega arith
one_left false false n k = omega arith

module _ (objects old new : Objects) (keeps : (q : ObjectId) → finite.contains_key old q ≡ true → finite.contains_key new q ≡ true) where
  left_le : (ids : List ObjectId) → parents_left objects new ids ≤ parents_left objects old ids
  left_le [] = omega arith
  left_le (x ∷ xs) = omega (
    arith,
    left_le xs,
    one_left (finite.contains_key old x) (finite.contains_key new x) (length (parents_of (commit_at objects x))) (keeps x),
  )

  left_less : (id : ObjectId) → finite.contains_key old id ≡ false → finite.contains_key new id ≡ true → (ids : List ObjectId)
      → list_any (eq_by_cmp id_cmp id) ids ≡ true
      → parents_left objects new ids + length (parents_of (commit_at objects id)) ≤ parents_left objects old ids
  left_less id u h [] w = absurd (let e : false ≡ true = w in cc)
  left_less id u h (x ∷ xs) w = ⊎_elim
      (λ e.
      let is : id ≡ x = same_from id x e in
      let n : ℕ = length (parents_of (commit_at objects x)) in
      let same : length (parents_of (commit_at objects id)) ≡ n = ap (λ y. length (parents_of (commit_at objects y))) is in
      let was : ◌≡◌ {A = ℕ} (cond (finite.contains_key old x) 0 n) n =
      ap (λ b. cond {A = ℕ} b 0 n) (ap (finite.contains_key old) (sym is) ∙ u) in
      let now : ◌≡◌ {A = ℕ} (cond (finite.contains_key new x) 0 n) 0 =
      ap (λ b. cond {A = ℕ} b 0 n) (ap (finite.contains_key new) (sym is) ∙ h) in
      omega (arith, left_le xs))
      (λ e. omega (
        arith,
        left_less id u h xs e,
        one_left (finite.contains_key old x) (finite.contains_key new x) (length (parents_of (commit_at objects x))) (keeps x),
      ))
      (or_cases (eq_by_cmp id_cmp id x) (list_any (eq_by_cmp id_cmp id) xs) w)

-- a step lowers the number of look-ups that are left
pub look_ups_fewer : (objects : Objects) (a b c : Traversed) (id : ObjectId) → b.found ≡ a.found → a.waiting ≡ b.waiting ++ id ∷ []
    → VisitsObject objects id b c → look_ups_left objects c < look_ups_left objects a
look_ups_fewer objects a b c id same taken v =
    let last : length a.waiting ≡ length b.waiting + 1 = ap length taken ∙ length-append b.waiting (id ∷ []) in
    let keys : List ObjectId = finite.keys objects in
    ⊎_elim
    (λ p.
    let w : length c.waiting ≡ length b.waiting = ap length p.waiting in
    let l : parents_left objects c.found keys ≡ parents_left objects a.found keys =
    ap (λ m. parents_left objects m keys) (p.found ∙ same) in
    omega arith)
    (λ f.
    let ps : List ObjectId = parents_of f.object.commit in
    let w : length c.waiting ≡ length b.waiting + length ps = ap length f.waiting ∙ length-append b.waiting ps in
    let commit : commit_at objects id ≡ f.object.commit = ap (λ (o : Option Object). commit_in o) f.exists in
    let n : length (parents_of (commit_at objects id)) ≡ length ps = ap (λ o. length (parents_of o)) commit in
    let l : parents_left objects c.found keys + length (parents_of (commit_at objects id)) ≤ parents_left objects b.found keys =
    left_less objects b.found c.found
    (λ q h. ap (λ m. finite.contains_key m q) f.found ∙ added_keeps b.found id (as_stored f.object) q h) id f.unfound
    (ap (λ m. finite.contains_key m id) f.found ∙ added_here b.found id (as_stored f.object)) keys
    (sym (contains_key-keys objects id) ∙ ap is_some f.exists) in
    let s : parents_left objects b.found keys ≡ parents_left objects a.found keys = ap (λ m. parents_left objects m keys) same in
    omega arith)
    v
  where
    commit_in : Option Object → Option Commit
    commit_in None = None
    commit_in (Some x) = x.commit
