-- Looking up one id, and several.
use Rattle.std.proofs.Common.{◌≡◌, ℕ, ℤ, ◌+◌, ◌≤◌, ◌<◌, ◌∙◌, ◌⊎◌, inl, inr, ⊎_elim, Bool, true, false, cond, not, ◌||◌, List, [], ◌∷◌, ◌++◌, take, drop, length, get_or, Option, Some, None, refl, sym, ap, subst, arith}
use Rattle.std.specs.Prelude.{option_map, is_some, IsSome, IfSome, option_and_then, Contains}
use Rattle.std.specs.Option.{option_or}
use Rattle.std.specs.List.{list_any}
use Rattle.std.specs.BinaryHeap.{heap_items}
use Rattle.std.specs.List.Sorted.{IsPermutation}
use Rattle.std.specs.Ordering.{eq_by_cmp}
use Rattle.std.proofs.lemmas.Bool.{or_cases, or_left, or_right}
use Rattle.std.proofs.lemmas.Cmp.{eq_by_cmp_equiv}
use Rattle.std.proofs.lemmas.List.Sorted.{list_any-IsPermutation, All-permutation}
use Rattle.std.proofs.lemmas.List.Elements.{All-nil, All-cons, All-push, All-weaker, Contains-append_left, Contains-append_right, Contains-get_or, All-contains}
use Rattle.std.proofs.lemmas.List.{take_more, take-append-drop}
use Rattle.std.specs.FinMap as finite
use Rattle.std.specs.FinMap.{contains_key-keys, get-insert}
use Rattle.gixp_hash.specs.declared.object_id.ObjectId.{ObjectId}
use Rattle.gixp_hash.specs.ObjectId.{id_cmp}
use Rattle.gixp_graph.specs.Object.{Objects, Object, Commit, commit_at, time_at}
use Rattle.gixp_graph.specs.GraphData.{HeldCommit, GraphData, graph_of, found_in, looked_up, put, unmarked, shown}
use Rattle.gixp_graph.specs.declared.flags.Flags.{Flags}
use Rattle.gixp_graph.specs.GraphLaws.{same_from, put_same}
use Rattle.gixp_hash.specs.IdLaws.{ids_total}
use Rattle.gixp_graph.specs.CountLaws.{count_le, count_lt}
use Rattle.gixp_updates.specs.declared.refs.heap.Pending.{Pending}
use Rattle.gixp_updates.specs.declared.refs.heap.Heap.{Heap}
use Rattle.gixp_updates.specs.Pending.{pending_at}
use Rattle.gixp_updates.specs.Search.{Search, WaitByTime, unseen, LooksUp, SeesMore, Explores, HoldsWaiting}

pub as_or : (b x : Bool) → cond b true x ≡ (b || x)
as_or true x = refl
as_or false x = refl

not_true : (b : Bool) → not b ≡ true → b ≡ false
not_true true e = cc
not_true false e = refl

fewer : (a b : Bool) → (a ≡ true → b ≡ true) → not b ≡ true → not a ≡ true
fewer true b k e = absurd (let t : b ≡ true = k refl in let f : b ≡ false = not_true b e in cc)
fewer false b k e = refl

pub same_id : (id : ObjectId) → eq_by_cmp id_cmp id id ≡ true
same_id id = (eq_by_cmp_equiv ids_total).refl id

pub one_has : (id q : ObjectId) → id ≡ q → Contains (id ∷ []) q
one_has id q e = (0, omega arith, e)

-- the queue with and without the commit that was taken
pub popped : (o : Option Pending) (old new : List Pending) → IfSome o (λ x. IsPermutation old (x ∷ new))
    → IfSome o (λ x. (q : ObjectId) → list_any (λ (p : Pending). eq_by_cmp id_cmp q p.id) old
    ≡ (eq_by_cmp id_cmp q x.id || list_any (λ (p : Pending). eq_by_cmp id_cmp q p.id) new))
popped None old new h = h
popped (Some x) old new h = λ q. list_any-IsPermutation (λ (p : Pending). eq_by_cmp id_cmp q p.id) old (x ∷ new) h

-- one more commit is queued under its time
pub waits_by_time : (objects : Objects) (id : ObjectId) (t : ℤ) (old new : Heap)
    → IsPermutation (pending_at t id ∷ heap_items old.waiting) (heap_items new.waiting) → time_at objects id ≡ Some t
    → WaitByTime objects old → WaitByTime objects new
waits_by_time objects id t old new p e w =
    let P : Pending → Type 0 = λ (x : Pending). time_at objects x.id ≡ Some x.time in
    All-permutation P (pending_at t id ∷ heap_items old.waiting) (heap_items new.waiting) p
    (All-cons P (pending_at t id) (heap_items old.waiting) e w)

-- a commit without a time doesn't exist
pub absent : (o : Option Commit) → ◌≡◌ {A = Option ℤ} None (option_map (λ (c : Commit). c.time) o) → o ≡ None
absent None e = refl
absent (Some c) e = cc

-- a commit with a time exists
pub present : (t : ℤ) (o : Option Commit) → Some t ≡ option_map (λ (c : Commit). c.time) o → IsSome o
present t None e = absurd (cc)
present t (Some c) e = refl

-- a commit that is shown is held
pub shows : (x : ℤ × Flags) (o : Option HeldCommit) → Some x ≡ option_map shown o → IsSome o
shows x None e = absurd (cc)
shows x (Some h) e = refl

-- ---- which ids are looked up

-- one more id
module _ (id : ObjectId) (old new : Search) (noted : (q : ObjectId) → new.seen q ≡ (eq_by_cmp id_cmp id q || old.seen q)) where
  -- ids that were looked up stay so
  pub noted_keeps : (q : ObjectId) → old.seen q ≡ true → new.seen q ≡ true
  noted_keeps q h = noted q ∙ or_right (eq_by_cmp id_cmp id q) (old.seen q) h

  -- the id is looked up
  pub noted_here : new.seen id ≡ true
  noted_here = noted id ∙ or_left (eq_by_cmp id_cmp id id) (old.seen id) (same_id id)

  -- no other id is
  noted_cases : (q : ObjectId) → new.seen q ≡ true → (id ≡ q) ⊎ (old.seen q ≡ true)
  noted_cases q h = ⊎_elim (λ e. inl (same_from id q e)) (λ e. inr e) (or_cases (eq_by_cmp id_cmp id q) (old.seen q) (sym (noted q) ∙ h))

  pub more_one : SeesMore (id ∷ []) old new
  more_one = record { keeps = noted_keeps; only = λ q h. ⊎_elim (λ e. inr (one_has id q e)) (λ e. inl e) (noted_cases q h) }

  -- no more ids are left
  unseen_le : (objects : Objects) → unseen objects new ≤ unseen objects old
  unseen_le objects = count_le (λ q. not (old.seen q)) (λ q. not (new.seen q)) (λ q. fewer (old.seen q) (new.seen q) (noted_keeps q))
      (finite.keys objects)

  -- no commit is queued: the id was looked up before, or doesn't exist
  pub explores_same : (objects : Objects) → ((old.seen id ≡ true) ⊎ (commit_at objects id ≡ None))
      → ((q : ObjectId) → new.waits q ≡ old.waits q) → new.waiting ≡ old.waiting → Explores objects (id ∷ []) old new
  explores_same objects why waits count = record {
    more = more_one;
    sees = All-cons (λ q. new.seen q ≡ true) id [] noted_here (All-nil (λ q. new.seen q ≡ true));
    stays = λ q h. waits q ∙ h;
    waits = λ q h s. ⊎_elim
        (λ e. ⊎_elim (λ w. inl (subst (λ x. old.seen x ≡ true) e w)) (λ n. absurd (let t : is_some (commit_at objects q) ≡ true = s in
        let f : is_some (commit_at objects q) ≡ false = ap is_some (ap (commit_at objects) (sym e) ∙ n) in cc)) why)
        (λ e. inl e) (noted_cases q h);
    found = λ q h. inl (sym (waits q) ∙ h);
    less = omega (arith, unseen_le objects);
  }

  -- the commit is found and queued
  module _ (objects : Objects) (before : old.seen id ≡ false) (there : IsSome (commit_at objects id))
      (waits : (q : ObjectId) → new.waits q ≡ (eq_by_cmp id_cmp q id || old.waits q)) (count : new.waiting ≡ old.waiting + 1) where
    is_some_at : (o : Option Object) → IsSome (option_and_then (λ (k : Object). k.commit) o) → is_some o ≡ true
    is_some_at None e = e
    is_some_at (Some k) e = refl

    one_less : unseen objects new + 1 ≤ unseen objects old
    one_less = count_lt (λ q. not (old.seen q)) (λ q. not (new.seen q)) (λ q. fewer (old.seen q) (new.seen q) (noted_keeps q)) id
        (ap not before) (ap not noted_here) (finite.keys objects)
        (sym (contains_key-keys objects id) ∙ is_some_at (finite.get objects id) there)

    pub explores_found : Explores objects (id ∷ []) old new
    explores_found = record {
      more = more_one;
      sees = All-cons (λ q. new.seen q ≡ true) id [] noted_here (All-nil (λ q. new.seen q ≡ true));
      stays = λ q h. waits q ∙ or_right (eq_by_cmp id_cmp q id) (old.waits q) h;
      waits = λ q h s. ⊎_elim
          (λ e. inr (waits q ∙ or_left (eq_by_cmp id_cmp q id) (old.waits q) (subst (λ x. eq_by_cmp id_cmp x id ≡ true) e (same_id id))))
          (λ e. inl e) (noted_cases q h);
      found = λ q h. ⊎_elim
          (λ e. let same : q ≡ id = same_from q id e in
          inr (subst (λ x. IsSome (commit_at objects x)) (sym same) there, one_has id q (sym same)))
          (λ e. inl e) (or_cases (eq_by_cmp id_cmp q id) (old.waits q) (sym (waits q) ∙ h));
      less = omega (arith, one_less);
    }

-- no more ids are looked up
pub more_same : (ids : List ObjectId) (old new : Search) → ((q : ObjectId) → new.seen q ≡ old.seen q) → SeesMore ids old new
more_same ids old new same = record { keeps = λ q h. same q ∙ h; only = λ q h. inl (sym (same q) ∙ h) }

-- two steps in a row
pub more_on : (ids others all : List ObjectId) (a b c : Search) → ((q : ObjectId) → Contains ids q → Contains all q)
    → ((q : ObjectId) → Contains others q → Contains all q) → SeesMore ids a b → SeesMore others b c → SeesMore all a c
more_on ids others all a b c left right m n = record {
  keeps = λ q h. n.keeps q (m.keeps q h);
  only = λ q h. ⊎_elim (λ e. ⊎_elim (λ e. inl e) (λ e. inr (left q e)) (m.only q e)) (λ e. inr (right q e)) (n.only q h);
}

-- no ids
pub explores_none : (objects : Objects) (s : Search) → Explores objects [] s s
explores_none objects s = record {
  more = more_same [] s s (λ q. refl);
  sees = All-nil (λ q. s.seen q ≡ true);
  stays = λ q h. h;
  waits = λ q h e. inl h;
  found = λ q h. inl h;
  less = omega arith;
}

-- one more id
pub explores_on : (objects : Objects) (ids : List ObjectId) (id : ObjectId) (a b c : Search) → Explores objects ids a b
    → Explores objects (id ∷ []) b c → Explores objects (ids ++ id ∷ []) a c
explores_on objects ids id a b c m n = record {
  more = more_on ids (id ∷ []) (ids ++ id ∷ []) a b c (λ q. Contains-append_left ids (id ∷ []) q)
      (λ q. Contains-append_right ids (id ∷ []) q) m.more n.more;
  sees = All-push (λ q. c.seen q ≡ true) ids id (All-weaker (λ q. b.seen q ≡ true) (λ q. c.seen q ≡ true) n.more.keeps ids m.sees)
      (n.sees 0 id (omega arith));
  stays = λ q h. n.stays q (m.stays q h);
  waits = λ q h s. ⊎_elim (λ e. ⊎_elim (λ e. inl e) (λ e. inr (n.stays q e)) (m.waits q e s)) (λ e. inr e) (n.waits q h s);
  found = λ q h. ⊎_elim
      (λ e. ⊎_elim (λ e. inl e) (λ e. inr (e.0, Contains-append_left ids (id ∷ []) q e.1)) (m.found q e))
      (λ e. inr (e.0, Contains-append_right ids (id ∷ []) q e.1)) (n.found q h);
  less = omega (arith, m.less, n.less);
}

-- ---- which commits are held

-- nothing is looked up
pub looks_none : (g : GraphData) → LooksUp g g
looks_none g = record { objects = refl; held = λ id. inl refl }

pub looks_same : (g h : GraphData) → h ≡ g → LooksUp g h
looks_same g h e = subst (LooksUp g) (sym e) (looks_none g)

-- two look-ups in a row
pub looks_on : (g h i : GraphData) → LooksUp g h → LooksUp h i → LooksUp g i
looks_on g h i a b = record {
  objects = b.objects ∙ a.objects;
  held = λ id. ⊎_elim
      (λ e. ⊎_elim (λ f. inl (e ∙ f)) (λ f. inr (f.0, e ∙ f.1)) (a.held id))
      (λ e. ⊎_elim
      (λ f. inr (sym f ∙ e.0, e.1 ∙ ap (λ (o : Objects). option_map unmarked (commit_at o id)) a.objects))
      (λ f. inr (f.0, e.1 ∙ ap (λ (o : Objects). option_map unmarked (commit_at o id)) a.objects)) (a.held id))
      (b.held id);
}

up_at : (g : GraphData) (id q : ObjectId) (o : Option HeldCommit) (p : Option Commit) → finite.get g.held id ≡ o
    → commit_at g.objects id ≡ p
    → (finite.get (put g.held id (option_or o (option_map unmarked p))) q ≡ finite.get g.held q) ⊎ ((finite.get g.held q ≡ None)
    × (finite.get (put g.held id (option_or o (option_map unmarked p))) q ≡ option_map unmarked (commit_at g.objects q)))
up_at g id q (Some h) p is has = inl (ap (λ m. finite.get m q) (put_same g.held id h is))
up_at g id q None None is has = inl refl
up_at g id q None (Some c) is has = at (eq_by_cmp id_cmp q id) refl
  where
    at : (b : Bool) → eq_by_cmp id_cmp q id ≡ b → (finite.get (finite.insert g.held id (unmarked c)) q ≡ finite.get g.held q)
        ⊎ ((finite.get g.held q ≡ None) × (finite.get (finite.insert g.held id (unmarked c)) q
        ≡ option_map unmarked (commit_at g.objects q)))
    at true e =
        inr (
          ap (finite.get g.held) (same_from q id e) ∙ is,
          get-insert ids_total g.held id (unmarked c) q
              ∙ ap (λ b. cond b (Some (unmarked c)) (finite.get g.held q)) e
              ∙ sym (ap (option_map unmarked) (ap (commit_at g.objects) (same_from q id e) ∙ has)),
        )
    at false e = inl (get-insert ids_total g.held id (unmarked c) q ∙ ap (λ b. cond b (Some (unmarked c)) (finite.get g.held q)) e)

-- one look-up
pub looks_up : (g h : GraphData) (id : ObjectId) → h ≡ graph_of g.objects (looked_up g id) → LooksUp g h
looks_up g h id e = subst (LooksUp g) (sym e)
    (record { objects = refl; held = λ q. up_at g id q (finite.get g.held id) (commit_at g.objects id) refl refl })

-- held commits stay held
pub still_held : (g h : GraphData) → LooksUp g h → (q : ObjectId) → IsSome (finite.get g.held q) → IsSome (finite.get h.held q)
still_held g h l q s = ⊎_elim (λ e. subst IsSome (sym e) s) (λ e. absurd (let t : is_some (finite.get g.held q) ≡ true = s in
    let f : is_some (finite.get g.held q) ≡ false = ap is_some e.0 in cc)) (l.held q)

-- a commit that is found is held
held_at : (g : GraphData) (id : ObjectId) (o : Option HeldCommit) → IsSome o → IsSome (finite.get (put g.held id o) id)
held_at g id None s = absurd (let t : false ≡ true = s in cc)
held_at g id (Some h) s =
    subst IsSome (sym (get-insert ids_total g.held id h id ∙ ap (λ b. cond b (Some h) (finite.get g.held id)) (same_id id))) refl

pub held_here : (g h : GraphData) (id : ObjectId) → h ≡ graph_of g.objects (looked_up g id) → IsSome (found_in g id)
    → IsSome (finite.get h.held id)
held_here g h id e s = subst (λ (k : GraphData). IsSome (finite.get k.held id)) (sym e) (held_at g id (found_in g id) s)

-- each queued commit is held
pub holds_on : (g h : GraphData) (old new : Search) → LooksUp g h → ((q : ObjectId) → new.waits q ≡ true → (old.waits q ≡ true)
    ⊎ IsSome (finite.get h.held q)) → HoldsWaiting g old → HoldsWaiting h new
holds_on g h old new l cases held q w = ⊎_elim (λ e. still_held g h l q (held q e)) (λ e. e) (cases q w)

-- ---- one of several ids

module _ (ids : List ObjectId) (k : ℕ) (d : ObjectId) (l : k < length ids) where
  -- the first ids, and the next one
  pub explores_step : (objects same : Objects) → same ≡ objects → (a b c : Search) → Explores objects (take k ids) a b
      → Explores same (get_or ids k d ∷ []) b c → Explores objects (take (k + 1) ids) a c
  explores_step objects same e a b c m n =
      subst (λ xs. Explores objects xs a c) (sym (take_more ids k d l))
      (explores_on objects (take k ids) (get_or ids k d) a b c m (subst (λ o. Explores o (get_or ids k d ∷ []) b c) e n))

  -- also if the look-up failed
  pub more_step : (a b c : Search) → SeesMore (take k ids) a b → SeesMore (get_or ids k d ∷ []) b c → SeesMore ids a c
  more_step a b c m n = more_on (take k ids) (get_or ids k d ∷ []) ids a b c
      (λ q h. subst (λ xs. Contains xs q) (take-append-drop k ids) (Contains-append_left (take k ids) (drop k ids) q h))
      (λ q h. subst (Contains ids) (All-contains (λ x. get_or ids k d ≡ x) (get_or ids k d ∷ []) q (All-cons (λ x. get_or ids k d ≡ x)
      (get_or ids k d) [] refl (All-nil (λ x. get_or ids k d ≡ x))) h) (Contains-get_or ids k d l))
      m n
