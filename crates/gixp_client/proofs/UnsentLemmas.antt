-- A fetch without a negotiated round sent nothing, and its consumer received nothing.
use Rattle.std.proofs.Common.{◌≡◌, ◌∙◌, ◌⊎◌, inl, inr, sym, ap, Bool, true, false, List, [], ◌∷◌, Option, Some, None, Result, Ok, Err}
use Rattle.gixp_packetline.specs.declared.protocol.Protocol.{Protocol}
use Rattle.gixp_packetline.specs.Reading.{Reading}
use Rattle.gixp_response.specs.Answer.{AnswerValue}
use Rattle.gixp_requests.specs.Arguments.{ArgumentsValue}
use Rattle.gixp_negotiate.specs.declared.negotiate.Error.{Error as NegotiateError}
use Rattle.gixp_negotiate.specs.declared.negotiate.Round.{Round}
use Rattle.gixp_negotiate.specs.Negotiate.{Window}
use Rattle.gixp_fetch.specs.declared.error.Error.{Error}
use Rattle.gixp_fetch.specs.declared.options.Outcome.{Outcome}
use Rattle.gixp_fetch.specs.Fetch.{Parties, World, FetchOptions, FetchFails, unopened, unready, unpacked, untold, undelivered, SessionEnds}
use Rattle.gixp_fetch.specs.FetchRounds.{At, Turn, Manner, Rounds, NegotiateFails, Broken, RoundsFail, Interrupts, DoneWithout}
use Rattle.gixp_fetch.specs.Fetched.{FetchCall, Fetches, CarriesOut, StartFails, unprepared, unlocked}

no_both : {X : Type 0} (b : Bool) → b ≡ true → b ≡ false → X
no_both b h e = absurd (cc)

module _ {N I A : Type 0} (m : Manner N I A) (flag : N → Bool)
    (sets : (w : N) (s : Window) (a : ArgumentsValue) (p : Option AnswerValue) (r : Round) (d : Bool) (v : N) (t : Window)
    (b : ArgumentsValue) → m.goes w s a p r d v t b → flag v ≡ true)
    (keeps : (w : N) (s : Window) (a : ArgumentsValue) (p : Option AnswerValue) (e : NegotiateError A) (v : N) (t : Window)
    (b : ArgumentsValue) → m.fails w s a p e v t b → flag v ≡ flag w) where
  -- the flag stays set after later rounds
  rounds_flagged : (old new : At N I) (ts : List (Turn N I)) → flag old.negotiate ≡ true → Rounds m old ts new
      → flag new.negotiate ≡ true
  rounds_flagged old new [] h e = ap (λ (x : At N I). flag x.negotiate) e ∙ h
  rounds_flagged old new (t ∷ ts) h r = rounds_flagged t.after new ts (sets _ _ _ _ _ _ _ _ _ r.0.negotiated) r.3

  -- if the flag isn't set, there was no round
  none_went : (old new : At N I) (ts : List (Turn N I)) → Rounds m old ts new → flag new.negotiate ≡ false → new ≡ old
  none_went old new [] r h = r
  none_went old new (t ∷ ts) r h =
      no_both (flag new.negotiate) (rounds_flagged t.after new ts (sets _ _ _ _ _ _ _ _ _ r.0.negotiated) r.3) h

  module _ {E : Type 0} (start : At N I) (e : Error A E) (rounds : List Round) (n : N) (reading : Reading) (i : I)
      (unflagged : flag n ≡ false) where
    by_end : (end : At N I) → n ≡ end.negotiate → reading ≡ end.reading
        → Interrupts m start rounds end ⊎ DoneWithout m start rounds end → reading ≡ start.reading
    by_end end k l (inl u) =
        l ∙ ap (λ (x : At N I). x.reading) u.position
        ∙ ap (λ (x : At N I). x.reading) (none_went start u.before u.turns u.run
        (sym (ap flag k ∙ ap (λ (x : At N I). flag x.negotiate) u.position) ∙ unflagged))
    by_end end k l (inr d) =
        no_both (flag n) (ap flag k ∙ ap (λ (x : At N I). flag x.negotiate) d.position ∙ sets _ _ _ _ _ _ _ _ _ d.lasts.negotiated) unflagged

    by_turn : (before : At N I) (asked : I) (ts : List (Turn N I)) → Rounds m start ts before
        → NegotiateFails m (record before { interrupt = asked }) e n reading i ⊎ Broken m (record before { interrupt = asked }) e n reading i
        → reading ≡ start.reading
    by_turn before asked ts r (inl u) =
        u.position ∙ ap (λ (x : At N I). x.reading) (none_went start before ts r (sym (keeps _ _ _ _ _ _ _ _ u.refused) ∙ unflagged))
    by_turn before asked ts r (inr b) = no_both (flag n) (sets _ _ _ _ _ _ _ _ _ b.negotiated) unflagged

    pub unflagged_rounds : RoundsFail m start e rounds n reading i → reading ≡ start.reading
    unflagged_rounds (inl f) = by_end f.end f.negotiates f.reads f.ends
    unflagged_rounds (inr (inl l)) = by_turn l.before l.asked l.turns l.run l.refused
    unflagged_rounds (inr (inr u)) =
        u.reads ∙ ap (λ (x : At N I). x.reading) (none_went start u.before u.turns u.run (sym (ap flag u.negotiates) ∙ unflagged))

module _ {N I A S C P X : Type 0} (parties : Parties N I A S C P X) (flag : N → Bool)
    (sets : (w : N) (s : Window) (a : ArgumentsValue) (p : Option AnswerValue) (r : Round) (d : Bool) (v : N) (t : Window)
    (b : ArgumentsValue) → parties.negotiation_calls.goes w s a p r d v t b → flag v ≡ true)
    (keeps : (w : N) (s : Window) (a : ArgumentsValue) (p : Option AnswerValue) (e : NegotiateError A) (v : N) (t : Window)
    (b : ArgumentsValue) → parties.negotiation_calls.round_fails w s a p e v t b → flag v ≡ flag w) where
  module _ (version : Protocol) (banded : Bool) (fetch_options : FetchOptions) (given : ArgumentsValue) (old new : World N I S C) (progress : P)
      (unflagged : flag new.negotiate ≡ false) where
    -- rounds that lead to a pack set the flag
    packed_flagged : {G : Type 0} (n : N) → new.negotiate ≡ n → flag n ≡ true → G
    packed_flagged n e h = no_both (flag new.negotiate) (ap flag e ∙ h) unflagged

    rests_fails : (e : Error A X) → FetchFails parties version banded fetch_options given old e new progress
        → (new.reading ≡ old.reading) × (new.consumer ≡ old.consumer)
    rests_fails e (unopened o n r) = (r.reading, r.consumer)
    rests_fails e (unready ids asked o f r) = (r.reading, r.consumer)
    rests_fails e (unpacked rounds u l c) =
        (unflagged_rounds _ flag sets keeps _ _ _ _ _ _ unflagged u.fails, c)
    rests_fails e (untold ids action rounds updates reply end n w s r i l c) =
        packed_flagged end.negotiate s
        (ap (λ (x : At N I). flag x.negotiate) n.packed.position ∙ sets _ _ _ _ _ _ _ _ _ n.packed.lasts.negotiated)
    rests_fails e (undelivered ids read action rounds updates reply end n s d) =
        packed_flagged end.negotiate s
        (ap (λ (x : At N I). flag x.negotiate) n.packed.position ∙ sets _ _ _ _ _ _ _ _ _ n.packed.lasts.negotiated)

    rests_ends : (r : Result (Option Outcome) (Error A X)) → SessionEnds parties version banded fetch_options given old r new progress
        → (new.reading ≡ old.reading) × (new.consumer ≡ old.consumer)
    rests_ends (Ok None) n = (n.rests.reading, n.rests.consumer)
    rests_ends (Ok (Some out)) s =
        packed_flagged s.end.negotiate s.position (ap (λ (x : At N I). flag x.negotiate) s.negotiated.packed.position
        ∙ sets _ _ _ _ _ _ _ _ _ s.negotiated.packed.lasts.negotiated)
    rests_ends (Err e) f = rests_fails e f

  module _ (call : FetchCall) (old new : World N I S C) (progress : P) (unflagged : flag new.negotiate ≡ false) where
    rests_start : (e : Error A X) → StartFails parties call old e new → (new.reading ≡ old.reading) × (new.consumer ≡ old.consumer)
    rests_start e (unprepared p s) = (ap (λ (x : World N I S C). x.reading) s, ap (λ (x : World N I S C). x.consumer) s)
    rests_start e (unlocked asked banded p c l s) =
        (ap (λ (x : World N I S C). x.reading) s, ap (λ (x : World N I S C). x.consumer) s)

    rests_out : (r : Result (Option Outcome) (Error A X)) → CarriesOut parties call old r new progress
        → (new.reading ≡ old.reading) × (new.consumer ≡ old.consumer)
    rests_out r c =
        let rests = rests_ends call.version c.banded call.fetch_options c.asked (record old { store = c.held; locked = c.first }) c.last progress
        (sym (ap (λ (x : World N I S C). flag x.negotiate) c.position) ∙ unflagged) r c.meets in (
          ap (λ (x : World N I S C). x.reading) c.position ∙ rests.0,
          ap (λ (x : World N I S C). x.consumer) c.position ∙ rests.1,
        )

    pub unsent_fetch : (r : Result (Option Outcome) (Error A X)) → Fetches parties call old r new progress
        → (new.reading ≡ old.reading) × (new.consumer ≡ old.consumer)
    unsent_fetch (Ok o) c = rests_out (Ok o) c
    unsent_fetch (Err e) (inl s) = rests_start e s
    unsent_fetch (Err e) (inr c) = rests_out (Err e) c
