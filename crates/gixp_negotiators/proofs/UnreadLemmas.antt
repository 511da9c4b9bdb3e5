-- Commits that weren't read before they were queued, and marking from a commit on.
use Rattle.std.proofs.Common.{◌≡◌, ◌∙◌, ◌<◌, ℕ, length, get_or, inl, inr, ⊎_elim, Bool, true, false, cond, List, [], ◌∷◌, ◌||◌, Option, None, refl, sym, ap, subst, arith, true≢false}
use Rattle.std.specs.Prelude.{Contains, is_some}
use Rattle.std.specs.Option.{option_map_or}
use Rattle.std.specs.FinMap as finite
use Rattle.std.specs.BTreeSet.{BTreeSet, contains}
use Rattle.std.specs.BTreeMap.{is_at}
use Rattle.std.specs.Ordering.{eq_by_cmp}
use Rattle.std.proofs.lemmas.Bool.{or_cases, or_right}
use Rattle.std.proofs.lemmas.List.Elements.{Contains-push, Contains-push_cases, Contains-get_or}
use Rattle.gixp_hash.specs.declared.object_id.ObjectId.{ObjectId}
use Rattle.gixp_hash.specs.ObjectId.{id_cmp}
use Rattle.gixp_graph.specs.GraphData.{HeldCommit, GraphData, parents_in}
use Rattle.gixp_graph.specs.GraphLaws.{same_from}
use Rattle.gixp_negotiators.specs.Marks.{COMMON, SEEN, POPPED, has_all, has_mark}
use Rattle.gixp_negotiators.specs.AddedMarks.{Grows, SeesNone, MarksCommonOnly, PopsNone, PopsOnly}
use Rattle.gixp_negotiators.specs.MarkLaws.{held_marked}
use Rattle.gixp_negotiators.specs.NewlyCommon.{AllRead, AllHeld, IsNewlyCommon, MarksOn, MarksThrough, MarksCommonAmong}
use Rattle.gixp_negotiators.specs.Unread.{KeepsUnread}
use Rattle.gixp_negotiators.proofs.GrowLemmas.{same_id}
use Rattle.gixp_negotiators.proofs.FitLemmas.{lacked, none_held}

-- no commit is queued, and none is taken
pub unread_same : (us vs : BTreeSet ObjectId) (g h : GraphData) → vs ≡ us → PopsNone g h → KeepsUnread us g vs h
unread_same us vs g h e p = record {
  stays = λ id c free. subst (λ s. contains id_cmp s id ≡ true) (sym e) c;
  only = λ id c. inl (subst (λ s. contains id_cmp s id ≡ true) e c);
  taken = λ id c free. lacked (has_mark POPPED h.held id) (has_mark POPPED g.held id) (p id) free;
}

-- two steps in a row
before : (g h : GraphData) (id : ObjectId) → Grows g h → finite.get h.held id ≡ None → finite.get g.held id ≡ None
before g h id v n = none_held (finite.get g.held id)
    (lacked (is_some (finite.get g.held id)) (is_some (finite.get h.held id)) (v.held id) (ap is_some n))

unmarked : (h : GraphData) (id : ObjectId) → finite.get h.held id ≡ None → has_mark POPPED h.held id ≡ false
unmarked h id n = ap (λ (o : Option HeldCommit). option_map_or (λ (k : HeldCommit). has_all POPPED k.flags.0) o false) n

pub unread_on : (us vs ws : BTreeSet ObjectId) (g h k : GraphData) → Grows g h → Grows h k → KeepsUnread us g vs h
    → KeepsUnread vs h ws k → KeepsUnread us g ws k
unread_on us vs ws g h k v w a b = record {
  stays = λ id c free. b.stays id (a.stays id c (lacked (has_mark POPPED h.held id) (has_mark POPPED k.held id)
      (w.marks POPPED id) free)) free;
  only = λ id c. ⊎_elim (λ was. a.only id was) (λ n. inr (before g h id v n)) (b.only id c);
  taken = λ id c free. b.taken id c (⊎_elim (λ was. a.taken id was free) (λ n. unmarked h id n) (b.only id c));
}

-- a commit is queued that the graph doesn't hold
pub unread_pushed : (us vs : BTreeSet ObjectId) (g h : GraphData) (one : ObjectId) → finite.get g.held one ≡ None
    → ((q : ObjectId) → contains id_cmp vs q ≡ (is_at (id_cmp one) q || contains id_cmp us q)) → PopsNone g h → KeepsUnread us g vs h
unread_pushed us vs g h one new kept p = record {
  stays = λ id c free. kept id ∙ or_right (is_at (id_cmp one) id) (contains id_cmp us id) c;
  only = λ id c. ⊎_elim (λ e. inr (subst (λ i. finite.get g.held i ≡ None) (same_from one id e) new)) inl
      (or_cases (is_at (id_cmp one) id) (contains id_cmp us id) (sym (kept id) ∙ c));
  taken = λ id c free. lacked (has_mark POPPED h.held id) (has_mark POPPED g.held id) (p id) free;
}

-- a commit is taken
pub unread_taken : (us vs : BTreeSet ObjectId) (g h : GraphData) (one : ObjectId)
    → ((q : ObjectId) → contains id_cmp vs q ≡ cond (is_at (id_cmp one) q) false (contains id_cmp us q)) → PopsOnly one g h
    → has_mark POPPED h.held one ≡ true → KeepsUnread us g vs h
unread_taken us vs g h one gone p popped = record {
  stays = λ id c free. kept id c free (is_at (id_cmp one) id) refl;
  only = λ id c. inl (had id c (is_at (id_cmp one) id) refl).0;
  taken = λ id c free. lacked (has_mark POPPED h.held id) (has_mark POPPED g.held id) (λ t. ⊎_elim (λ was. was)
      (λ e. absurd (true≢false (sym (subst (λ i. is_at (id_cmp one) i ≡ true) (sym (same_from id one e)) (same_id one))
      ∙ (had id c (is_at (id_cmp one) id) refl).1)))
      (or_cases (has_mark POPPED g.held id) (eq_by_cmp id_cmp id one) (p id t))) free;
}
  where
    kept : (id : ObjectId) → contains id_cmp us id ≡ true → has_mark POPPED h.held id ≡ false → (b : Bool) → is_at (id_cmp one) id ≡ b
        → contains id_cmp vs id ≡ true
    kept id c free true e =
        absurd (true≢false (sym (subst (λ i. has_mark POPPED h.held i ≡ true) (same_from one id e) popped) ∙ free))
    kept id c free false e = gone id ∙ ap (λ b. cond b false (contains id_cmp us id)) e ∙ c

    had : (id : ObjectId) → contains id_cmp vs id ≡ true → (b : Bool) → is_at (id_cmp one) id ≡ b
        → (contains id_cmp us id ≡ true) × (is_at (id_cmp one) id ≡ false)
    had id c true e = absurd (true≢false (sym c ∙ gone id ∙ ap (λ b. cond b false (contains id_cmp us id)) e))
    had id c false e = (sym (ap (λ b. cond b false (contains id_cmp us id)) e) ∙ sym (gone id) ∙ c, e)

-- ---- each commit that became common was read

-- in the first of two steps
pub held_first : (us : BTreeSet ObjectId) (g h k : GraphData) → Grows h k → AllHeld us g k → AllHeld us g h
held_first us g h k w all id n = all id (n.0, w.marks COMMON id n.1)

-- in the second of two steps
pub held_then : (us vs : BTreeSet ObjectId) (g h k : GraphData) → Grows g h → KeepsUnread us g vs h → AllHeld us g k → AllHeld vs h k
held_then us vs g h k v u all id n =
    let was = all id (lacked (has_mark COMMON g.held id) (has_mark COMMON h.held id) (v.marks COMMON id) n.0, n.1) in (
      lacked (contains id_cmp vs id) (contains id_cmp us id) (λ c. ⊎_elim (λ e. e)
          (λ none. absurd (true≢false (sym was.1 ∙ ap is_some none))) (u.only id c)) was.0,
      v.held id was.1,
    )

pub read_then : (us vs : BTreeSet ObjectId) (g h k : GraphData) → Grows g h → KeepsUnread us g vs h → AllHeld us g k → AllRead vs h k
read_then us vs g h k v u all id n = (held_then us vs g h k v u all id n).0

-- ---- marking from a commit on

-- marking begins with the commit
pub through_first : (us : BTreeSet ObjectId) (g h : GraphData) (one : ObjectId) → MarksCommonAmong (one ∷ []) g h → MarksThrough us g one h
through_first us g h one among q n = ⊎_elim (λ was. absurd (true≢false (sym was ∙ n.0)))
    (λ some. ⊎_elim (λ none. absurd (no_element q none)) (λ same. subst (MarksOn us g one) same MarksOn.itself)
    (Contains-push_cases [] one q some.1)) (among q n.1)
  where
    no_element : (q : ObjectId) → Contains [] q → ⊥
    no_element q c = absurd (omega (arith, c.1))

-- a commit that became common was seen
pub settled_seen : (g h : GraphData) (ids : List ObjectId) → MarksCommonAmong ids g h → (q : ObjectId) → IsNewlyCommon g h q
    → has_mark SEEN g.held q ≡ true
settled_seen g h ids among q n = ⊎_elim (λ was. absurd (true≢false (sym was ∙ n.0))) (λ some. some.0) (among q n.1)

-- marking goes on to the parents of a commit that was read
pub through_more : (us : BTreeSet ObjectId) (g h k : GraphData) (one next : ObjectId) → Grows g h → IsNewlyCommon g h next
    → contains id_cmp us next ≡ false → ((q : ObjectId) → IsNewlyCommon g h q → has_mark SEEN g.held q ≡ true)
    → MarksCommonAmong (parents_in h.held next) h k → MarksThrough us g one h → MarksThrough us g one k
through_more us g h k one next v newly read seen among marks q n = ⊎_elim
    (λ was. marks q (n.0, was))
    (λ some. MarksOn.parent (marks next newly) read
    (subst (λ ids. Contains ids q) (v.parents next (held_marked g next SEEN (seen next newly))) some.1))
    (among q n.1)

pub seen_more : (g h k : GraphData) (ids : List ObjectId) → SeesNone g h → MarksCommonAmong ids h k
    → ((q : ObjectId) → IsNewlyCommon g h q → has_mark SEEN g.held q ≡ true) → (q : ObjectId) → IsNewlyCommon g k q
    → has_mark SEEN g.held q ≡ true
seen_more g h k ids sees among seen q n = ⊎_elim (λ was. seen q (n.0, was)) (λ some. sees q some.0) (among q n.1)

-- ---- which commits of a list become common

pub among_same : (ids : List ObjectId) (g : GraphData) → MarksCommonAmong ids g g
among_same ids g q m = inl m

pub among_one : (one : ObjectId) (g h : GraphData) → has_mark SEEN g.held one ≡ true → MarksCommonOnly one g h → MarksCommonAmong (one ∷ []) g h
among_one one g h seen only q m = ⊎_elim inl
    (λ e. inr (
      subst (λ i. has_mark SEEN g.held i ≡ true) (sym (same_from q one e)) seen,
      subst (Contains (one ∷ [])) (sym (same_from q one e)) (Contains-push [] one),
    ))
    (or_cases (has_mark COMMON g.held q) (eq_by_cmp id_cmp q one) (only q m))

pub among_step : (ids : List ObjectId) (i : ℕ) (d : ObjectId) (g h k : GraphData) → i < length ids → SeesNone g h → MarksCommonAmong ids g h
    → MarksCommonAmong (get_or ids i d ∷ []) h k → MarksCommonAmong ids g k
among_step ids i d g h k lt sees a b q m = ⊎_elim (λ was. a q was)
    (λ some. inr (
      sees q some.0,
      ⊎_elim (λ none. absurd (no_element q none))
          (λ same. subst (Contains ids) same (Contains-get_or ids i d lt)) (Contains-push_cases [] (get_or ids i d) q some.1),
    ))
    (b q m)
  where
    no_element : (q : ObjectId) → Contains [] q → ⊥
    no_element q c = absurd (omega (arith, c.1))

-- a commit is queued under its time, or as one that wasn't read
pub unread_timed : (us vs : BTreeSet ObjectId) (g h : GraphData) (one : ObjectId) (read : Bool) → (read ≡ true → vs ≡ us)
    → (read ≡ false → (q : ObjectId) → contains id_cmp vs q ≡ (is_at (id_cmp one) q || contains id_cmp us q))
    → read ≡ is_some (finite.get g.held one) → PopsNone g h → KeepsUnread us g vs h
unread_timed us vs g h one true same kept is p = unread_same us vs g h (same refl) p
unread_timed us vs g h one false same kept is p = unread_pushed us vs g h one (none_held (finite.get g.held one) (sym is)) (kept refl) p
