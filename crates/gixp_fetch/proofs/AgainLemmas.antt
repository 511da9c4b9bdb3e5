-- What requests repeat.
use Rattle.std.proofs.Common.{◌≡◌, ◌⊎◌, inl, inr, ℕ, Bool, true, false, List, [], ◌∷◌, ◌++◌, map, refl, sym, ap, subst, ◌∙◌, Some, true≢false}
use Rattle.std.specs.Prelude.{◌||◌, if◌then◌else◌}
use Rattle.std.specs.List.{Contains}
use Rattle.std.specs.Cmp.Lexicographic.{texts_ties}
use Rattle.std.proofs.lemmas.List.{append-nil, append_assoc}
use Rattle.std.proofs.lemmas.List.Elements.{Contains-append_left, Contains-append_right, Contains-append_cases}
use Rattle.gixp_hash.specs.declared.object_id.ObjectId.{ObjectId}
use Rattle.gixp_requests.specs.Arguments.{ArgumentsValue, is_v2}
use Rattle.gixp_requests.specs.Request.{sent_off}
use Rattle.gixp_graph.specs.GraphLaws.{same_from}
use Rattle.gixp_negotiate.specs.declared.negotiate.Round.{Round}
use Rattle.gixp_negotiate.specs.Negotiate.{Window}
use Rattle.gixp_requests.specs.Line.{have_text}
use Rattle.gixp_negotiate.specs.Rounds.{commons, commons_of, is_same_id, has_id, keeping, keeping_all, kept_with, kept_ids}
use Rattle.gixp_fetch.specs.FetchRounds.{At, Turn, Manner, Turns, Rounds}
use Rattle.gixp_fetch.specs.Again.{Renames, HasIndependentRequests, NamesAgain, NamesAll, named_in}
use Rattle.gixp_shallow.proofs.SetLemmas.{no_member, first_member, later_member, member_cases}
use Rattle.gixp_fetch.proofs.SentLemmas.{turn_written}

or_parts : (a b : Bool) → (a || b) ≡ true → (a ≡ true) ⊎ (b ≡ true)
or_parts true b h = inl refl
or_parts false b h = inr h

has_it : (kept : List ObjectId) (id : ObjectId) → has_id kept id ≡ true → Contains kept id
has_it [] id h = absurd (true≢false (sym h))
has_it (x ∷ xs) id h = at (or_parts (is_same_id x id) (has_id xs id) h) (has_it xs id)
  where
    at : (is_same_id x id ≡ true) ⊎ (has_id xs id ≡ true) → (has_id xs id ≡ true → Contains xs id) → Contains (x ∷ xs) id
    at (inl a) rest = first_member x xs id (sym (same_from x id (sym (texts_ties x.bytes id.bytes) ∙ a)))
    at (inr b) rest = later_member x xs id (rest b)

module _ (kept : List ObjectId) (id : ObjectId) where
  stays : (q : ObjectId) → Contains kept q → Contains (keeping kept id) q
  stays q h = at (has_id kept id)
    where
      at : (b : Bool) → Contains (if b then kept else kept ++ id ∷ []) q
      at true = h
      at false = Contains-append_left kept (id ∷ []) q h

  joins : Contains (keeping kept id) id
  joins = at (has_id kept id) refl
    where
      at : (b : Bool) → has_id kept id ≡ b → Contains (if b then kept else kept ++ id ∷ []) id
      at true e = has_it kept id e
      at false e = Contains-append_right kept (id ∷ []) id (first_member id [] id refl)

all_stay : (kept ids : List ObjectId) (q : ObjectId) → Contains kept q → Contains (keeping_all kept ids) q
all_stay kept [] q h = h
all_stay kept (id ∷ ids) q h = all_stay (keeping kept id) ids q (stays kept id q h)

all_join : (kept ids : List ObjectId) (q : ObjectId) → Contains ids q → Contains (keeping_all kept ids) q
all_join kept [] q h = all_stay kept [] q (none h)
  where
    none : Contains [] q → Contains kept q
    none h = absurd (no_member q h)
all_join kept (id ∷ ids) q h = at (member_cases id ids q h) (all_join (keeping kept id) ids q)
  where
    at : (q ≡ id) ⊎ Contains ids q → (Contains ids q → Contains (keeping_all (keeping kept id) ids) q)
        → Contains (keeping_all (keeping kept id) ids) q
    at (inl e) rest = all_stay (keeping kept id) ids q (subst (λ x. Contains (keeping kept id) x) (sym e) (joins kept id))
    at (inr b) rest = rest b

lines_of_haves : (ids : List ObjectId) (q : ObjectId) → Contains ids q → Contains (map have_text ids) (have_text q)
lines_of_haves [] q h = absurd (no_member q h)
lines_of_haves (id ∷ ids) q h = at (member_cases id ids q h) (lines_of_haves ids q)
  where
    at : (q ≡ id) ⊎ Contains ids q → (Contains ids q → Contains (map have_text ids) (have_text q))
        → Contains (have_text id ∷ map have_text ids) (have_text q)
    at (inl e) rest = first_member (have_text id) (map have_text ids) (have_text q) (ap have_text e)
    at (inr b) rest = later_member (have_text id) (map have_text ids) (have_text q) (rest b)

-- the lines stay where each request has to be complete in itself
lines_stay : (persists : Bool) (a : ArgumentsValue) → (is_v2 a.version ≡ true) ⊎ (persists ≡ false) → (sent_off persists a).lines ≡ a.lines
lines_stay persists a (inl e) = rw e refl
lines_stay persists a (inr e) = rw e (at (is_v2 a.version))
  where
    at : (b : Bool) → (if b then a.lines else a.lines) ≡ a.lines
    at true = refl
    at false = refl

module _ {N I A : Type 0} (m : Manner N I A) (law : Renames m.goes) where
  -- the state of a run: these ids are recorded or were acknowledged last
  record Knows (old : At N I) (lines : List (List ℕ)) (ids : List ObjectId) : Type 0 where
    kept : List ObjectId
    is_kept : old.window.kept ≡ Some kept
    known : (id : ObjectId) → Contains ids id → Contains kept id ⊎ Contains (commons_of old.previous) id
    same : old.asked.lines ≡ lines
    alone : (is_v2 old.asked.version ≡ true) ⊎ (old.reading.held.persists ≡ false)

  now_kept : (old : At N I) (lines : List (List ℕ)) (ids : List ObjectId) → Knows old lines ids → List ObjectId
  now_kept old lines ids k = keeping_all k.kept (commons_of old.previous)

  goes_names : (old : At N I) (lines : List (List ℕ)) (ids : List ObjectId) (k : Knows old lines ids) (round : Round) (done : Bool)
      (next : N) (window : Window) (asked : ArgumentsValue)
      → m.goes old.negotiate old.window old.asked old.previous round done next window asked
      → (window.kept ≡ Some (keeping_all k.kept (commons_of old.previous)))
      × (asked.lines ≡ lines) × (asked.version ≡ old.asked.version)
      × ((id : ObjectId) → Contains ids id → Contains (keeping_all k.kept (commons_of old.previous)) id)
      × ((id : ObjectId) → Contains ids id → Contains asked.haves (have_text id))
  goes_names old lines ids k round done next window asked goes =
      let kept : window.kept ≡ Some (keeping_all k.kept (commons_of old.previous)) = law.keeps _ _ _ _ _ _ _ _ _ goes
      ∙ ap (λ o. kept_with o (commons_of old.previous)) k.is_kept in
      let names = law.names _ _ _ _ _ _ _ _ _ goes in
      let all : (id : ObjectId) → Contains ids id → Contains (keeping_all k.kept (commons_of old.previous)) id =
      λ id c. by_known id (k.known id c) in (
        kept,
        ap (λ (a : ArgumentsValue). a.lines) names.1 ∙ k.same,
        ap (λ (a : ArgumentsValue). a.version) names.1,
        all,
        λ id c. subst (λ (a : ArgumentsValue). Contains a.haves (have_text id)) (sym names.1)
            (Contains-append_right old.asked.haves (map have_text (kept_ids window.kept ++ names.0)) (have_text id)
            (lines_of_haves (kept_ids window.kept ++ names.0) id
            (Contains-append_left (kept_ids window.kept) names.0 id
            (subst (λ o. Contains (kept_ids o) id) (sym kept) (all id c))))),
      )
    where
      by_known : (id : ObjectId) → Contains k.kept id ⊎ Contains (commons_of old.previous) id
          → Contains (keeping_all k.kept (commons_of old.previous)) id
      by_known id (inl a) = all_stay k.kept (commons_of old.previous) id a
      by_known id (inr b) = all_join k.kept (commons_of old.previous) id b

  one_names : (old : At N I) (t : Turn N I) (lines : List (List ℕ)) (ids : List ObjectId) (k : Knows old lines ids) → Turns m old t
      → (t.after.window.kept ≡ Some (keeping_all k.kept (commons_of old.previous)))
      × (t.asked.lines ≡ lines) × (t.asked.version ≡ old.asked.version)
      × ((id : ObjectId) → Contains ids id → Contains (keeping_all k.kept (commons_of old.previous)) id)
      × ((id : ObjectId) → Contains ids id → Contains t.asked.haves (have_text id))
  one_names old t lines ids k h =
      goes_names old lines ids k t.round t.done t.after.negotiate t.after.window t.asked h.negotiated

  next_knows : (old : At N I) (t : Turn N I) (lines : List (List ℕ)) (ids : List ObjectId) → Knows old lines ids → Turns m old t
      → Knows t.after lines (ids ++ commons t.reply.acknowledgements)
  next_knows old t lines ids k h =
      let one = one_names old t lines ids k h in
      let stay : (is_v2 t.asked.version ≡ true) ⊎ (old.reading.held.persists ≡ false) = by_alone k.alone one.2 in
      record {
        kept = keeping_all k.kept (commons_of old.previous);
        is_kept = one.0;
        known = λ id c. by_place id one.3 (Contains-append_cases ids (commons t.reply.acknowledgements) id c);
        same = ap (λ (a : ArgumentsValue). a.lines) h.rest ∙ lines_stay old.reading.held.persists t.asked stay ∙ one.1;
        alone = after_alone stay;
      }
    where
      by_alone : (is_v2 old.asked.version ≡ true) ⊎ (old.reading.held.persists ≡ false) → t.asked.version ≡ old.asked.version
          → (is_v2 t.asked.version ≡ true) ⊎ (old.reading.held.persists ≡ false)
      by_alone (inl a) e = inl (ap is_v2 e ∙ a)
      by_alone (inr b) e = inr b

      after_alone : (is_v2 t.asked.version ≡ true) ⊎ (old.reading.held.persists ≡ false) → (is_v2 t.after.asked.version ≡ true)
          ⊎ (t.after.reading.held.persists ≡ false)
      after_alone (inl a) = inl (ap (λ (x : ArgumentsValue). is_v2 x.version) h.rest ∙ a)
      after_alone (inr b) = inr ((turn_written m old t h).persists ∙ b)

      by_place : (id : ObjectId) → ((id : ObjectId) → Contains ids id → Contains (keeping_all k.kept (commons_of old.previous)) id)
          → Contains ids id ⊎ Contains (commons t.reply.acknowledgements) id
          → Contains (keeping_all k.kept (commons_of old.previous)) id ⊎ Contains (commons_of t.after.previous) id
      by_place id all (inl a) = inl (all id a)
      by_place id all (inr b) = inr (subst (λ p. Contains (commons_of p) id) (sym h.previous) b)

  run_names : (old end : At N I) (ts : List (Turn N I)) (lines : List (List ℕ)) (ids : List ObjectId) → Knows old lines ids
      → Rounds m old ts end → NamesAgain lines ids ts
  run_names old end [] lines ids k r = tt
  run_names old end (t ∷ ts) lines ids k r =
      let one = one_names old t lines ids k r.0 in
      (one.1, one.4, run_names t.after end ts lines (ids ++ commons t.reply.acknowledgements) (next_knows old t lines ids k r.0) r.3)

  more_names : (old before : At N I) (ts : List (Turn N I)) (last : Turn N I) (lines : List (List ℕ)) (ids : List ObjectId)
      → Knows old lines ids → Rounds m old ts before → Turns m before last
      → NamesAgain lines ids (ts ++ last ∷ [])
  more_names old before [] last lines ids k r h =
      let one = one_names old last lines ids k (subst (λ a. Turns m a last) r h) in
      (one.1, one.4, tt)
  more_names old before (t ∷ ts) last lines ids k r h =
      let one = one_names old t lines ids k r.0 in (
        one.1,
        one.4,
        more_names t.after before ts last lines (ids ++ commons t.reply.acknowledgements)
            (next_knows old t lines ids k r.0) r.3 h,
      )

  -- the request after these rounds
  then_names : (old before : At N I) (ts : List (Turn N I)) (lines : List (List ℕ)) (ids : List ObjectId) → Knows old lines ids
      → Rounds m old ts before → (round : Round) (done : Bool) (next : N) (window : Window) (asked : ArgumentsValue)
      → m.goes before.negotiate before.window before.asked before.previous round done next window asked
      → NamesAll lines (ids ++ named_in ts) asked
  then_names old before [] lines ids k r round done next window asked goes =
      let one = goes_names old lines ids k round done next window asked
      (subst (λ (a : At N I). m.goes a.negotiate a.window a.asked a.previous round done next window asked) r goes) in
      record { same = one.1; haves = λ id c. one.4 id (subst (λ xs. Contains xs id) (append-nil ids) c) }
  then_names old before (t ∷ ts) lines ids k r round done next window asked goes =
      let rest = then_names t.after before ts lines (ids ++ commons t.reply.acknowledgements) (next_knows old t lines ids k r.0) r.3
      round done next window asked goes in
      record {
        same = rest.same;
        haves = λ id c. rest.haves id
            (subst (λ xs. Contains xs id) (sym (append_assoc ids (commons t.reply.acknowledgements) (named_in ts))) c);
      }

  first_knows : (start : At N I) → HasIndependentRequests start → Knows start start.asked.lines []
  first_knows start s = record {
    kept = [];
    is_kept = s.kept;
    known = λ id c. inl c;
    same = refl;
    alone = s.alone;
  }

  pub rounds_name : (start end : At N I) (ts : List (Turn N I)) → HasIndependentRequests start → Rounds m start ts end
      → NamesAgain start.asked.lines [] ts
  rounds_name start end ts s r = run_names start end ts start.asked.lines [] (first_knows start s) r

  pub last_names : (start before : At N I) (ts : List (Turn N I)) (last : Turn N I) → HasIndependentRequests start → Rounds m start ts before
      → Turns m before last → NamesAgain start.asked.lines [] (ts ++ last ∷ [])
  last_names start before ts last s r h = more_names start before ts last start.asked.lines [] (first_knows start s) r h

  pub unanswered_names : (start before : At N I) (ts : List (Turn N I)) (round : Round) (done : Bool) (next : N) (window : Window)
      (asked : ArgumentsValue) → HasIndependentRequests start → Rounds m start ts before
      → m.goes before.negotiate before.window before.asked before.previous round done next window asked
      → NamesAll start.asked.lines (named_in ts) asked
  unanswered_names start before ts round done next window asked s r goes =
      then_names start before ts start.asked.lines [] (first_knows start s) r round done next window asked goes
