-- Rounds of a negotiator that offers a list: each is a function of the ids that are left, of what is asked for and of the last answer.
use Rattle.std.proofs.Common.{◌≡◌, ℕ, ◌≤◌, Bool, List, [], ◌∷◌, ◌++◌, length, take, drop, Option, inl, inr, sym, ap, ◌∙◌, subst, arith, append-nil}
use Rattle.std.proofs.lemmas.Bool.{cases_lt}
use Rattle.std.proofs.lemmas.List.{take_all, take_at, drop_at}
use Rattle.std.proofs.Math.ListN.{drop_of_length-le}
use Rattle.gixp_hash.specs.declared.object_id.ObjectId.{ObjectId}
use Rattle.gixp_graph.specs.GraphData.{GraphData}
use Rattle.gixp_graph.specs.Run.{IsRun}
use Rattle.gixp_requests.specs.Arguments.{ArgumentsValue}
use Rattle.gixp_response.specs.Answer.{AnswerValue}
use Rattle.gixp_negotiate.specs.declared.negotiate.Round.{Round}
use Rattle.gixp_negotiate.specs.Negotiate.{Window, ActionValue, no_change, skip, negotiate}
use Rattle.gixp_negotiate.specs.Marking.{tips_in, Acts}
use Rattle.gixp_negotiators.specs.HaveList.{stays, offers_first, list_calls}
use Rattle.gixp_negotiate.specs.Rounds.{offering, Offered, OneRound, commons_of, is_any, with_kept, kept_ids, asks_haves, advanced, is_last}

run-stays : (ids : List ObjectId) (n : List ObjectId) (g : GraphData) (m : List ObjectId) (h : GraphData) → IsRun stays ids n g m h → m ≡ n
run-stays [] n g m h r = r.0
run-stays (id ∷ ids) n g m h r = run-stays ids r.0 r.1 m h r.3 ∙ r.2.0

run-offers : (ids : List ObjectId) (n : List ObjectId) (g : GraphData) (m : List ObjectId) (h : GraphData)
    → IsRun (offering offers_first) ids n g m h → n ≡ ids ++ m
run-offers [] n g m h r = sym r.0
run-offers (id ∷ ids) n g m h r = r.2.0 ∙ ap (λ l. id ∷ l) (run-offers ids r.0 r.1 m h r.3)

-- what is decided leaves the list
pub acts-stay : (action : ActionValue) (n : List ObjectId) (g : GraphData) (ids tips : List ObjectId) (m : List ObjectId)
    (h : GraphData) → Acts list_calls action n g ids tips m h → m ≡ n
acts-stay no_change n g ids tips m h a = a.0
acts-stay skip n g ids tips m h a = a.0
acts-stay (negotiate known) n g ids tips m h a = run-stays (tips_in g.objects tips) a.reported a.reported_graph m h a.added
    ∙ run-stays _ n a.walked a.reported a.reported_graph a.known

-- the haves of a round are the first ids up to the window
offered-first : (w : ℕ) (xs n : List ObjectId) (g : GraphData) (m : List ObjectId) (h : GraphData) → Offered offers_first n g w xs m h
    → (xs ≡ take w n) × (m ≡ drop w n)
offered-first w xs n g m h o =
    elim (cases_lt (length xs) w) [
      | inl l ↦ by_end (o.fewer l).0.0 (o.fewer l).0.1 (omega arith)
      | inr k ↦ let e : length xs ≡ w = omega (arith, o.within) in by_window e (o.full e).0
    ]
  where
    split : n ≡ xs ++ o.last
    split = run-offers xs n g o.last o.last_graph o.run

    by_end : o.last ≡ [] → m ≡ [] → length xs ≤ w → (xs ≡ take w n) × (m ≡ drop w n)
    by_end e f l =
        let all : n ≡ xs = split ∙ ap (λ r. xs ++ r) e ∙ append-nil xs in
        (sym (take_all w xs l) ∙ ap (take w) (sym all), f ∙ sym (drop_of_length-le xs {i = w} l) ∙ ap (drop w) (sym all))

    by_window : length xs ≡ w → m ≡ o.last → (xs ≡ take w n) × (m ≡ drop w n)
    by_window e f = (sym (take_at xs o.last w e) ∙ ap (take w) (sym split), f ∙ sym (drop_at xs o.last w e) ∙ ap (drop w) (sym split))

-- a round by the list: its haves are the next ids
pub record ListRound (n : List ObjectId) (s : Window) (a : ArgumentsValue) (p : Option AnswerValue) (done : Bool) (m : List ObjectId)
    (t : Window) (b : ArgumentsValue) : Type 0 where
  pub left : m ≡ drop s.haves_to_send n
  pub state : t ≡ advanced (is_any (commons_of p)) (length (take s.haves_to_send n)) (with_kept (commons_of p) s)
  pub asked : b ≡ asks_haves (kept_ids t.kept ++ take s.haves_to_send n) a
  pub last : done ≡ is_last t s.haves_to_send (length (take s.haves_to_send n))

pub by-list : (n : List ObjectId) (g : GraphData) (s : Window) (a : ArgumentsValue) (p : Option AnswerValue) (r : Round) (done : Bool)
    (m : List ObjectId) (h : GraphData) (t : Window) (b : ArgumentsValue)
    → OneRound list_calls n g s a p r done m h t b → ListRound n s a p done m t b
by-list n g s a p r done m h t b o =
    let reported : o.reported ≡ n = run-stays (commons_of p) n g o.reported o.reported_graph o.receives in
    let parts = offered-first s.haves_to_send o.haves o.reported o.reported_graph m h o.offered in
    let haves : o.haves ≡ take s.haves_to_send n = parts.0 ∙ ap (take s.haves_to_send) reported in
    record {
      left = parts.1 ∙ ap (drop s.haves_to_send) reported;
      state = o.state ∙ ap (λ (xs : List ObjectId). advanced (is_any (commons_of p)) (length xs) (with_kept (commons_of p) s)) haves;
      asked = o.asked ∙ ap (λ (xs : List ObjectId). asks_haves (kept_ids t.kept ++ xs) a) haves;
      last = o.last ∙ ap (λ (xs : List ObjectId). is_last t s.haves_to_send (length xs)) haves;
    }

-- two rounds of the same are the same
pub record SameRound (one other : Bool) (m l : List ObjectId) (t u : Window) (b c : ArgumentsValue) : Type 0 where
  pub done : one ≡ other
  pub left : m ≡ l
  pub state : t ≡ u
  pub asked : b ≡ c

pub same-round : (n o : List ObjectId) (s w : Window) (a e : ArgumentsValue) (p q : Option AnswerValue) (done other : Bool)
    (m l : List ObjectId) (t u : Window) (b c : ArgumentsValue) → n ≡ o → s ≡ w → a ≡ e → p ≡ q
    → ListRound n s a p done m t b → ListRound o w e q other l u c → SameRound done other m l t u b c
same-round n o s w a e p q done other m l t u b c lists windows asked answers x z =
    let y : ListRound n s a p other l u c =
    subst (λ k. ListRound k s a p other l u c) (sym lists)
    (subst (λ k. ListRound o k a p other l u c) (sym windows)
    (subst (λ k. ListRound o w k p other l u c) (sym asked) (subst (λ k. ListRound o w e k other l u c) (sym answers) z))) in
    let state : t ≡ u = x.state ∙ sym y.state in
    record {
      done = x.last ∙ ap (λ (z : Window). is_last z s.haves_to_send (length (take s.haves_to_send n))) state ∙ sym y.last;
      left = x.left ∙ sym y.left;
      state = state;
      asked = x.asked ∙ ap (λ (z : Window). asks_haves (kept_ids z.kept ++ take s.haves_to_send n) a) state ∙ sym y.asked;
    }
