-- The calls of a fetch on the store of the shallow boundary, and how often it asks the interrupt.
use Rattle.std.proofs.Common.{◌≡◌, inl, inr, ℕ, suc, ◌+◌, Bool, true, false, not, length, map, List, [], ◌∷◌, ◌++◌, refl, sym, ap, subst, ◌∙◌, arith, Option, Some, None}
use Rattle.std.specs.Prelude.{◌&&◌, Result, Ok, Err, IfSome}
use Rattle.std.proofs.lemmas.List.{append_assoc, append-nil, map-append}
use Rattle.std.proofs.lemmas.Bool.{false≢true}
use Rattle.gixp_hash.specs.declared.object_id.ObjectId.{ObjectId}
use Rattle.gixp_packetline.specs.Reading.{Reading}
use Rattle.gixp_sidebands.specs.Questions.{one_if, PollsEach, Asked, TakesTexts}
use Rattle.gixp_shallow.specs.declared.update.ShallowUpdate.{ShallowUpdate}
use Rattle.gixp_fetch.specs.declared.options.Outcome.{Outcome}
use Rattle.gixp_fetch.specs.declared.error.Error.{Error}
use Rattle.gixp_fetch.specs.FetchRounds.{At, Turn, Manner, Turns, Rounds, updates_of}
use Rattle.gixp_fetch.specs.FetchShallow.{ShallowValue, no_change, at_remote, deepens, since, excludes, is_change}
use Rattle.gixp_shallow.specs.Boundary.{boundary}
use Rattle.gixp_fetch.specs.Prepare.{LocksFirst, ReleasesIf}
use Rattle.gixp_fetch.specs.Session.{is_any, HoldsBy, WritesBoundaryIf}
use Rattle.gixp_shallow.specs.Store.{StoreCalls}
use Rattle.gixp_fetch.specs.Fetch.{World, Parties, FetchOptions}
use Rattle.gixp_fetch.specs.Fetched.{FetchCall, Fetches}
use Rattle.gixp_fetch.specs.View.{AsksThrough}
use Rattle.gixp_fetch.specs.Sessions.{manner_of}
use Rattle.gixp_fetch.specs.Kept.{reported_in, CallsStore, KeepsStore, PollsGoOn, HaveTexts, questions}
use Rattle.gixp_shallow.proofs.SetLemmas.{boundary_is}
use Rattle.gixp_fetch.proofs.SessionLemmas.{is_answer, rounds_answers}

-- ---- the store

pub may_change : (s : ShallowValue) → is_change s ≡ true → s ≡ no_change → ⊥
may_change no_change e = absurd (false≢true e)
may_change (at_remote n) e = λ q. cc
may_change (deepens n) e = λ q. cc
may_change (since t) e = λ q. cc
may_change (excludes names t) e = λ q. cc

pub stays_same : (s : ShallowValue) → is_change s ≡ false → s ≡ no_change
stays_same no_change e = refl
stays_same (at_remote n) e = absurd (false≢true (sym e))
stays_same (deepens n) e = absurd (false≢true (sym e))
stays_same (since t) e = absurd (false≢true (sym e))
stays_same (excludes names t) e = absurd (false≢true (sym e))

none_told : (us : List ShallowUpdate) → is_any us ≡ false → us ≡ []
none_told [] e = refl
none_told (u ∷ us) e = absurd (false≢true (sym e))

some_told : (us : List ShallowUpdate) → is_any us ≡ true → us ≡ [] → ⊥
some_told [] e = absurd (false≢true e)
some_told (u ∷ us) e = λ q. cc

module _ {S : Type 0} (calls : StoreCalls S) (fetch_options : FetchOptions) (us : List ShallowUpdate) (old new held read had last : S)
    (ids : List ObjectId) where
  abbrev Story : Type 0
  Story = CallsStore calls fetch_options us old new

  -- the lock was taken first, and is held at the end
  where_asked : (u locked : Bool) → is_any us ≡ u → (fetch_options.shallow ≡ no_change → ⊥) → calls.locks old held → calls.reads held ids read
      → (had ≡ read) × (locked ≡ true) → WritesBoundaryIf calls u ids us had last → ReleasesIf calls.releases locked last new → Story
  where_asked true locked u may l r h s t = record {
    held = held;
    first = inr (may, l);
    ids = ids;
    read = read;
    reads = r;
    had = had;
    later = inr (inl (some_told us u, may, h.0));
    wrote = last;
    writes = inr (some_told us u, boundary ids us, boundary_is ids us, s);
    last = inr (inr may, subst (λ b. ReleasesIf calls.releases b last new) h.1 t);
  }
  where_asked false locked u may l r h s t = record {
    held = held;
    first = inr (may, l);
    ids = ids;
    read = read;
    reads = r;
    had = had;
    later = inl (none_told us u, h.0);
    wrote = last;
    writes = inl (none_told us u, s);
    last = inr (inr may, subst (λ b. ReleasesIf calls.releases b last new) h.1 t);
  }

  -- the lock wasn't taken first, and is held if the boundary changes
  where_unasked : (u reject locked : Bool) → is_any us ≡ u → fetch_options.reject ≡ reject → fetch_options.shallow ≡ no_change → held ≡ old
      → calls.reads held ids read → HoldsBy calls (u && true) reject read false had locked → WritesBoundaryIf calls u ids us had last
      → ReleasesIf calls.releases locked last new → Story
  where_unasked true true locked u j same o r h s t = absurd h
  where_unasked true false locked u j same o r h s t = record {
    held = held;
    first = inl (same, o);
    ids = ids;
    read = read;
    reads = r;
    had = had;
    later = inr (inr (some_told us u, same, j, h.0));
    wrote = last;
    writes = inr (some_told us u, boundary ids us, boundary_is ids us, s);
    last = inr (inl (some_told us u), subst (λ b. ReleasesIf calls.releases b last new) h.1 t);
  }
  where_unasked false reject locked u j same o r h s t = record {
    held = held;
    first = inl (same, o);
    ids = ids;
    read = read;
    reads = r;
    had = had;
    later = inl (none_told us u, h.0);
    wrote = last;
    writes = inl (none_told us u, s);
    last = inl (none_told us u, same, subst (λ b. ReleasesIf calls.releases b last new) h.1 t);
  }

  unheld : (u reject first locked : Bool) → first ≡ true → HoldsBy calls (u && not first) reject read first had locked
      → (had ≡ read) × (locked ≡ true)
  unheld true reject true locked e h = h
  unheld false reject true locked e h = h
  unheld u reject false locked e h = absurd (false≢true e)

  pub calls_store : (c u reject first locked : Bool) → is_change fetch_options.shallow ≡ c → is_any us ≡ u → fetch_options.reject ≡ reject
      → LocksFirst calls.locks c old held first → calls.reads held ids read
      → HoldsBy calls (u && not first) reject read first had locked → WritesBoundaryIf calls u ids us had last
      → ReleasesIf calls.releases locked last new → Story
  calls_store true u reject first locked c e j l r h s t =
      where_asked u locked e (may_change fetch_options.shallow c) l.0 r (unheld u reject first locked l.1 h) s t
  calls_store false u reject first locked c e j l r h s t =
      where_unasked u reject locked e j (stays_same fetch_options.shallow c) l.0 r
      (subst (λ b. HoldsBy calls (u && not b) reject read b had locked) l.1 h) s t

told_as : {N I A : Type 0} (m : Manner N I A) (ts : List (Turn N I)) (last : Turn N I) (more : List ShallowUpdate)
    → (updates_of m ts ++ last.reply.shallow_updates) ++ more ≡ reported_in (ts ++ last ∷ []) ++ more
told_as m [] last more = ap (λ us. us ++ more) (sym (append-nil last.reply.shallow_updates))
told_as m (t ∷ ts) last more = append_assoc (t.reply.shallow_updates ++ updates_of m ts) last.reply.shallow_updates more
    ∙ append_assoc t.reply.shallow_updates (updates_of m ts) (last.reply.shallow_updates ++ more)
    ∙ ap (λ us. t.reply.shallow_updates ++ us)
    (sym (append_assoc (updates_of m ts) last.reply.shallow_updates more) ∙ told_as m ts last more)
    ∙ sym (append_assoc t.reply.shallow_updates (reported_in (ts ++ last ∷ [])) more)

module _ {N I S A C P X : Type 0} (parties : Parties N I A S C P X) (call : FetchCall) (old new : World N I S C) (progress : P) where
  pub keeps_store : (result : Result (Option Outcome) (Error A X)) → Fetches parties call old result new progress
      → KeepsStore parties call old.store result new.store
  keeps_store (Err e) h = tt
  keeps_store (Ok None) h =
      let s = h.meets in
      calls_store parties.store_calls call.fetch_options [] old.store new.store h.held h.last.store h.last.store h.last.store s.ids
      (is_change call.fetch_options.shallow) false call.fetch_options.reject h.first h.last.locked refl refl refl h.locks s.opened.reads
      (refl, s.rests.locked) refl h.releases
  keeps_store (Ok (Some outcome)) h =
      let s = h.meets in
      let p = s.negotiated.packed in
      let m : Manner N I A = manner_of parties call h.banded in
      let us : List ShallowUpdate = s.updates ++ call.fetch_options.reported in
      let reported : us ≡ reported_in (p.turns ++ p.last ∷ []) ++ call.fetch_options.reported =
      ap (λ us. us ++ call.fetch_options.reported) p.gathered ∙ told_as m p.turns p.last call.fetch_options.reported in (
        h.banded,
        p.turns ++ p.last ∷ [],
        p.reported ∙ sym (map-append (λ (t : Turn N I). t.round) p.turns (p.last ∷ [])),
        rounds_answers m _ p.before p.turns (p.last ∷ []) p.run (is_answer _ _ _ _ _ p.lasts.answer, tt),
        subst (λ us. CallsStore parties.store_calls call.fetch_options us old.store new.store) reported
            (calls_store parties.store_calls call.fetch_options us old.store new.store h.held s.read s.delivered.held h.last.store s.ids
            (is_change call.fetch_options.shallow) (is_any us) call.fetch_options.reject h.first h.last.locked refl refl refl h.locks
            s.negotiated.begun.opened.reads s.delivered.holds s.delivered.settles h.releases),
      )

-- ---- the interrupt

module _ {I : Type 0} (polls : I → Bool → I → Type 0) where
  pub goes_each : (xs : List I) (a b c : I) (n : ℕ) → PollsEach polls xs false a b → PollsGoOn polls n b c → PollsGoOn polls (length xs + n) a c
  goes_each [] a b c n s g =
      let none : List I = [] in
      let k : n ≡ length none + n = omega arith in
      subst (λ k. PollsGoOn polls k a c) k (subst (λ x. PollsGoOn polls n x c) s g)
  goes_each (x ∷ xs) a b c n s g =
      let k : suc (length xs + n) ≡ length (x ∷ xs) + n = omega arith in
      subst (λ k. PollsGoOn polls k a c) k (x, s.0, goes_each xs x b c n s.1 g)

  -- the questions of one response
  record Each (banded : Bool) (from new : Reading) (a b : I) : Type 0 where
    count : ℕ
    polled : (c : I) (n : ℕ) → PollsGoOn polls n b c → PollsGoOn polls (count + n) a c
    plain : banded ≡ false → count ≡ 0
    texts : banded ≡ true → IfSome from.to_come (TakesTexts count from new)

  by_asked : (from new : Reading) (a b : I) → Asked polls false from new a b → Each true from new a b
  by_asked from new a b h = record {
    count = length h.after;
    polled = λ c n g. goes_each h.after a b c n h.polled g;
    plain = λ e. absurd (false≢true (sym e));
    texts = λ e.
        let k : length h.after + one_if false ≡ length h.after = omega arith in
        subst (λ n. IfSome from.to_come (TakesTexts n from new)) k h.each;
  }

  each_of : (banded plain : Bool) (from new : Reading) (a b : I) → AsksThrough polls banded plain false from new a b
      → Each banded from new a b
  each_of false plain from new a b h = record {
    count = 0;
    polled = λ c n g.
        let k : n ≡ 0 + n = omega arith in subst (λ k. PollsGoOn polls k a c) k (subst (λ x. PollsGoOn polls n x c) h g);
    plain = λ e. refl;
    texts = λ e. absurd (false≢true e);
  }
  each_of true plain from new a b (inl h) = by_asked from new a b h
  each_of true plain from new a b (inr h) = absurd (false≢true h.1)

  have_more : {N : Type 0} (banded : Bool) (t : Turn N I) (ts : List (Turn N I)) (a b : I) (e : Each banded t.sent t.after.reading a b)
      (ns : List ℕ) → HaveTexts banded ts ns → HaveTexts banded (t ∷ ts) (e.count ∷ ns)
  have_more false t ts a b e ns h = (e.plain refl, h)
  have_more true t ts a b e ns h = (e.texts refl, h)

module _ {N I A : Type 0} (m : Manner N I A) where
  abbrev Answered_each : List (Turn N I) → I → I → Type 0
  Answered_each ts a b = (counts : List ℕ) × HaveTexts m.banded ts counts × PollsGoOn m.polls (questions counts) a b

  one_asks : (old : At N I) (t : Turn N I) (ts : List (Turn N I)) (last : I) → Turns m old t → Answered_each ts t.after.interrupt last
      → Answered_each (t ∷ ts) old.interrupt last
  one_asks old t ts last h r =
      let e = each_of m.polls m.banded m.plain t.sent t.after.reading h.asks.0 t.after.interrupt h.asks.2 in (
        e.count ∷ r.0,
        have_more m.polls m.banded t ts h.asks.0 t.after.interrupt e r.0 r.1,
        (h.asks.0, h.asks.1, e.polled last (questions r.0) r.2),
      )

  pub rounds_ask : (start end : At N I) (ts : List (Turn N I)) → Rounds m start ts end
      → (counts : List ℕ) × HaveTexts m.banded ts counts × PollsGoOn m.polls (questions counts) start.interrupt end.interrupt
  rounds_ask start end [] r = ([], tt, ap (λ (a : At N I). a.interrupt) r)
  rounds_ask start end (t ∷ ts) r = one_asks start t ts end.interrupt r.0 (rounds_ask t.after end ts r.3)

  pub last_asks : (start before : At N I) (ts : List (Turn N I)) (last : Turn N I) → Rounds m start ts before → Turns m before last
      → (counts : List ℕ) × HaveTexts m.banded (ts ++ last ∷ []) counts
      × PollsGoOn m.polls (questions counts) start.interrupt last.after.interrupt
  last_asks start before [] last r h =
      subst (λ (a : At N I). Answered_each (last ∷ []) a.interrupt last.after.interrupt) r
      (one_asks before last [] last.after.interrupt h ([], tt, refl))
  last_asks start before (t ∷ ts) last r h = one_asks start t (ts ++ last ∷ []) last.after.interrupt r.0
      (last_asks t.after before ts last r.3 h)
