-- The rounds of two fetches whose negotiators offer the same list, refused ones too: each round has the same verdict, which is a
-- function of what it asks for and of the answer to come, so they break off at the same round.
use Rattle.std.proofs.Common.{◌≡◌, ◌⊎◌, ℕ, Bool, true, false, not, List, [], ◌∷◌, ◌++◌, codes, Option, Some, Result, Ok, Err, IfSome, inl, inr, refl, sym, ap, ◌∙◌, subst, true≢false}
use Rattle.gixp_hash.specs.declared.object_id.ObjectId.{ObjectId}
use Rattle.gixp_packetline.specs.declared.protocol.Protocol.{Protocol}
use Rattle.gixp_packetline.specs.FrameText.{texts_of}
use Rattle.gixp_packetline.specs.Lines.{Ending}
use Rattle.gixp_packetline.specs.Pieces.{Refusal, io, decode, server, unexpected_frame, not_utf8, bad_band, interrupted, memory, Pieces}
use Rattle.gixp_packetline.specs.Reading.{Reading, IsOutside, IsPlain}
use Rattle.gixp_packetline.specs.TransportState.{TransportState}
use Rattle.gixp_capabilities.specs.declared.client.Error.{Error as client_error}
use Rattle.gixp_capabilities.specs.declared.client.Error.TheVariants as client
use Rattle.gixp_transport.specs.Transport.{SentBy, FailsBy, first_answer, later_answers, answer_pieces}
use Rattle.gixp_response.specs.declared.fetch.response.error.Error.{Error as response_error}
use Rattle.gixp_response.specs.declared.fetch.response.error.Error.TheVariants as response
use Rattle.gixp_response.specs.Answer.{AnswerValue, Found, whole, refused}
use Rattle.gixp_response.specs.AnswerReading.{answer_of, AnswerFails}
use Rattle.gixp_response.specs.Beginnings.{expected as flags}
use Rattle.gixp_response.specs.ResponseError.{AnswerRefusal, answer_refusal, from_reader, no_memory, is_interruption}
use Rattle.gixp_requests.specs.Arguments.{ArgumentsValue}
use Rattle.gixp_requests.specs.Request.{request, request_fits}
use Rattle.gixp_negotiate.specs.declared.negotiate.Round.{Round}
use Rattle.gixp_negotiate.specs.declared.negotiate.Error.{Error as negotiate_error}
use Rattle.gixp_negotiate.specs.declared.negotiate.Error.TheVariants as negotiate
use Rattle.gixp_negotiate.specs.Negotiate.{Window, IsOwn}
use Rattle.gixp_fetch.specs.declared.consume.copy.CopyError.{CopyError}
use Rattle.gixp_fetch.specs.declared.error.Error.{Error as FetchError}
use Rattle.gixp_fetch.specs.declared.error.Error.TheVariants as fetch
use Rattle.gixp_fetch.specs.FetchError.{of_response, of_client, of_negotiate}
use Rattle.gixp_fetch.specs.FetchRounds.{At, Turn, Manner, Turns, Rounds, DoneWithout, Interrupts, RoundsFail, TurnFails, SendsRound, Breaks, AsksBroken, before_request, at_request, after_request, at_answer, after_answer}
use Rattle.gixp_fetch.specs.View.{view, view_plain, AsksThrough}
use Rattle.gixp_sidebands.specs.Questions.{PollsEach}
use Rattle.gixp_fetch.proofs.SentLemmas.{rounds_written}
use Rattle.gixp_planner.specs.Refusal.{PlanRefusal, refusal}
use Rattle.gixp_planner.specs.Session.{end_of}
use Rattle.gixp_planner.specs.Alike.{IsDisturbed}
use Rattle.gixp_planner.proofs.MappedLemmas.{if-known}
use Rattle.gixp_planner.proofs.DiscoveredLemmas.{next_pieces}
use Rattle.gixp_planner.proofs.AnswerLemmas.{never-none, sent-failures, viewed, view-come, view-failures}
use Rattle.gixp_planner.proofs.PackEndLemmas.{pack_end, pack_ended, EndIs, found-end}
use Rattle.gixp_planner.proofs.ListRoundLemmas.{ListRound, SameRound, same-round}
use Rattle.gixp_planner.proofs.RoundLemmas.{AtAlike, turn-none, rounds-none, turns-alike}

-- ---- verdicts

-- what comes of a round: its request doesn't fit, its answer is refused, a pack with this end comes, it was the last and none comes, or
-- the next round does
pub data Verdict : Type 0 where
  too_long : Verdict
  unread : Verdict
  packs : Ending → Verdict
  lacks_pack : Verdict
  goes_on : Verdict

abbrev pub by_pack : (pack done : Bool) → Ending → Verdict
by_pack true done end = packs end
by_pack false true end = lacks_pack
by_pack false false end = goes_on

abbrev pub by_answer : (Pieces → Ending) → Bool → Found → Verdict
by_answer end_after done (whole v rest) = by_pack v.pack done (end_after rest)
by_answer end_after done (refused e) = unread

abbrev pub by_fit : Bool → (Pieces → Ending) → Bool → Found → Verdict
by_fit true end_after done found = by_answer end_after done found
by_fit false end_after done found = too_long

-- that of a round that asks for this, by what is held before it
abbrev pub verdict : Protocol → Bool → TransportState → ArgumentsValue → Bool → Verdict
verdict version banded held asked done = by_fit (request_fits asked done) (pack_end banded version) done
    (answer_of version (flags done (not done)) (viewed banded (answer_pieces (first_answer held.answers))))

-- what is held after a request, unless it doesn't fit
abbrev pub held_by : Verdict → TransportState → List ℕ → TransportState
held_by too_long held text = held
held_by unread held text = record held { written = Some []; sent = held.sent ++ text ∷ []; answers = later_answers held.answers }
held_by (packs end) held text = record held { written = Some []; sent = held.sent ++ text ∷ []; answers = later_answers held.answers }
held_by lacks_pack held text = record held { written = Some []; sent = held.sent ++ text ∷ []; answers = later_answers held.answers }
held_by goes_on held text = record held { written = Some []; sent = held.sent ++ text ∷ []; answers = later_answers held.answers }

-- how a fetch ends with such a round
abbrev pub EndsBy : Verdict → Result Bool PlanRefusal → Type 0
EndsBy too_long ended = ended ≡ Err (refusal (codes "fetch") (codes "Client"))
EndsBy unread ended = ended ≡ Err (refusal (codes "fetch") (codes "FetchResponse"))
EndsBy (packs end) ended = ended ≡ pack_ended end
EndsBy lacks_pack ended = ended ≡ Err (refusal (codes "fetch") (codes "Negotiate"))
EndsBy goes_on ended = ⊥

ends-alike : (v : Verdict) (e f : Result Bool PlanRefusal) → EndsBy v e → EndsBy v f → e ≡ f
ends-alike too_long e f p q = p ∙ sym q
ends-alike unread e f p q = p ∙ sym q
ends-alike (packs end) e f p q = p ∙ sym q
ends-alike lacks_pack e f p q = p ∙ sym q
ends-alike goes_on e f p q = absurd p

-- ---- errors

-- the refusal of an answer, but for memory
module _ {A : Type 0} where
  abbrev ended_as : FetchError A CopyError → Result Bool PlanRefusal
  ended_as e = end_of {A = A} {X = CopyError} (Err e)

  named-response : (e : response_error) → (ended_as (of_response e) ≡ Err (refusal (codes "fetch") (codes "FetchResponse")))
      ⊎ (◌≡◌ {A = FetchError A CopyError} (of_response e) fetch.Memory)
  named-response (response.Io kind) = inl refl
  named-response (response.UploadPack m) = inl refl
  named-response (response.Transport c) = inl refl
  named-response (response.MissingServerCapability f) = inl refl
  named-response (response.UnknownLineType l) = inl refl
  named-response (response.UnknownSectionHeader h) = inl refl
  named-response (response.Reader r) = inl refl
  named-response response.Memory = inr refl

  -- what the side that knows the repository refuses
  pub own-disturbs : (e : negotiate_error A) → IsOwn e → IsDisturbed {A = A} (of_negotiate e)
      ⊎ (◌≡◌ {A = FetchError A CopyError} (of_negotiate e) fetch.Memory)
  own-disturbs (negotiate.NegotiationFailed n) o = absurd o
  own-disturbs (negotiate.LookupCommitInGraph x) o = inl o
  own-disturbs negotiate.OpenPackedRefsBuffer o = inl o
  own-disturbs (negotiate.IO kind) o = inl o
  own-disturbs negotiate.InitRefIter o = inl o
  own-disturbs negotiate.PeelToId o = inl o
  own-disturbs (negotiate.AlternateRefsAndObjects x) o = inl o
  own-disturbs negotiate.Memory o = inr refl

memory-response : (e : response_error) → answer_refusal e ≡ no_memory → e ≡ response.Memory
memory-response (response.Io kind) h = cc
memory-response (response.UploadPack m) h = cc
memory-response (response.Transport c) h = cc
memory-response (response.MissingServerCapability f) h = cc
memory-response (response.UnknownLineType l) h = cc
memory-response (response.UnknownSectionHeader x) h = cc
memory-response (response.Reader r) h = cc
memory-response response.Memory h = refl

-- an interrupt that never says to stop told no reader so
advertised-stop : {I : Type 0} (polls : I → Bool → I → Type 0) (never : (i j : I) → polls i true j → ⊥) (after : List I) (a b : I)
    → PollsEach polls after true a b → ⊥
advertised-stop polls never [] a b h = never a b h
advertised-stop polls never (x ∷ xs) a b h = advertised-stop polls never xs x b h.1

not-reported : {I : Type 0} (polls : I → Bool → I → Type 0) (never : (i j : I) → polls i true j → ⊥) (banded plain stops : Bool)
    (old new : Reading) (a b : I) → plain ≡ true → stops ≡ true → (banded ≡ false → ⊥) → AsksThrough polls banded plain stops old new a b → ⊥
not-reported polls never false plain stops old new a b p s f h = f refl
not-reported polls never true plain stops old new a b p s f (inl h) =
    advertised-stop polls never h.after a b (subst (λ x. PollsEach polls h.after x a b) s h.polled)
not-reported polls never true plain stops old new a b p s f (inr h) = true≢false (sym p ∙ h.0)

bands-or-plain : (banded plain : Bool) (P : Type 0) → plain ≡ true → (view_plain banded plain ≡ true → P) → (P → ⊥) → banded ≡ false → ⊥
bands-or-plain false plain P p f n e = n (f p)
bands-or-plain true plain P p f n e = absurd (let x = e in cc)

-- what comes from outside and isn't counted: an allocation failure, or an interrupt
outside-response : {A : Type 0} (old new : Reading) (r : Refusal) (e : response_error) → new.failures ≡ 0 → IsOutside old new r
    → answer_refusal e ≡ from_reader r
    → (r ≡ interrupted) ⊎ (◌≡◌ {A = FetchError A CopyError} (of_response e) fetch.Memory)
outside-response old new r e z (inr b) h = absurd (never-none old.failures new.failures b.failures z)
outside-response old new (io kind) e z (inl f) h = absurd (never-none old.failures new.failures f.fault.2 z)
outside-response old new (decode x) e z (inl f) h = absurd f.fault
outside-response old new (server m) e z (inl f) h = absurd f.fault
outside-response old new unexpected_frame e z (inl f) h = absurd f.fault
outside-response old new not_utf8 e z (inl f) h = absurd f.fault
outside-response old new (bad_band b) e z (inl f) h = absurd f.fault
outside-response old new interrupted e z (inl f) h = inl refl
outside-response old new memory e z (inl f) h = inr (ap of_response (memory-response e h))

-- ---- the rounds of one fetch

module _ {N I A : Type 0} (m : Manner N I A) where
  abbrev verdict_at : At N I → ArgumentsValue → Bool → Verdict
  verdict_at x asked done = verdict m.version m.banded x.reading.held asked done

  -- what ends a pack after an answer
  abbrev end_after : Pieces → Ending
  end_after = pack_end m.banded m.version

  abbrev found_at : At N I → Bool → Found
  found_at x done = answer_of m.version (flags done (not done)) (viewed m.banded (next_pieces x.reading))

  -- the last round: it was negotiated, and this came of it
  pub record Last (x : At N I) (new : Reading) (ended : Result Bool PlanRefusal) : Type 0 where
    pub round : Round
    pub done : Bool
    pub next : N
    pub window : Window
    pub asked : ArgumentsValue
    pub negotiated : m.goes x.negotiate x.window x.asked x.previous round done next window asked
    pub none : x.reading.failures ≡ 0
    pub held : new.held ≡ held_by (verdict_at x asked done) x.reading.held (texts_of (request asked done))
    pub ends : EndsBy (verdict_at x asked done) ended

  -- rounds that go on, and a last one
  pub record Ran (x : At N I) (new : Reading) (ended : Result Bool PlanRefusal) : Type 0 where
    pub turns : List (Turn N I)
    pub before : At N I
    pub run : Rounds m x turns before
    pub last : Last before new ended

  -- a round that was answered, and what ends its pack, if it has one
  turn-verdict : (x : At N I) (t : Turn N I) → x.reading.held.persists ≡ false → Turns m x t → t.after.reading.failures ≡ 0
      → (end : Ending) × (verdict_at x t.asked t.done ≡ by_pack t.reply.pack t.done end)
      × (t.reply.pack ≡ true → EndIs t.after.reading end)
  turn-verdict x t alone h z =
      let s : SentBy false x.reading t.sent (texts_of (request t.asked t.done)) =
      subst (λ p. SentBy p x.reading t.sent (texts_of (request t.asked t.done))) alone h.sends.1 in
      let f = found-end (answer_of m.version (flags t.done (not t.done))) m.version m.banded (view m.banded t.sent) t.after.reading
      (viewed m.banded (next_pieces x.reading)) t.reply (view-come m.banded t.sent (next_pieces x.reading) s.0.to_come) z h.answer in (
        end_after f.0,
        ap (λ b. by_fit b end_after t.done (found_at x t.done)) h.sends.0 ∙ ap (by_answer end_after t.done) f.1,
        f.2,
      )

  -- what is held after one
  turn-held : (x : At N I) (t : Turn N I) → x.reading.held.persists ≡ false → Turns m x t
      → t.after.reading.held ≡ held_by goes_on x.reading.held (texts_of (request t.asked t.done))
  turn-held x t alone h =
      let s : SentBy false x.reading t.sent (texts_of (request t.asked t.done)) =
      subst (λ p. SentBy p x.reading t.sent (texts_of (request t.asked t.done))) alone h.sends.1 in
      h.held ∙ s.0.held

  held-answered : (pack done : Bool) (end : Ending) (held : TransportState) (text : List ℕ)
      → held_by goes_on held text ≡ held_by (by_pack pack done end) held text
  held-answered true done end held text = refl
  held-answered false true end held text = refl
  held-answered false false end held text = refl

  pub last-turn : (x : At N I) (t : Turn N I) (new : Reading) (ended : Result Bool PlanRefusal) → x.reading.held.persists ≡ false
      → Turns m x t → t.after.reading.failures ≡ 0 → new.held ≡ t.after.reading.held
      → ((end : Ending) → (t.reply.pack ≡ true → EndIs t.after.reading end) → EndsBy (by_pack t.reply.pack t.done end) ended)
      → Last x new ended
  last-turn x t new ended alone h z e k =
      let v = turn-verdict x t alone h z in
      let text = texts_of (request t.asked t.done) in
      record {
        round = t.round;
        done = t.done;
        next = t.after.negotiate;
        window = t.after.window;
        asked = t.asked;
        negotiated = h.negotiated;
        none = turn-none m x t h z;
        held = e ∙ turn-held x t alone h ∙ held-answered t.reply.pack t.done v.0 x.reading.held text
            ∙ ap (λ w. held_by w x.reading.held text) (sym v.1);
        ends = subst (λ w. EndsBy w ended) (sym v.1) (k v.0 v.2);
      }

  -- a round that came to no answer
  module _ (x : At N I) (alone : x.reading.held.persists ≡ false) (new : Reading) (z : new.failures ≡ 0)
      (e : FetchError A CopyError) (undisturbed : IsDisturbed e → ⊥) (never : ((i j : I) → m.polls i true j → ⊥) × (m.plain ≡ true))
      (round : Round) (done : Bool) (next : N) (window : Window) (asked : ArgumentsValue)
      (negotiated : m.goes x.negotiate x.window x.asked x.previous round done next window asked) where
    abbrev Stops : Type 0
    Stops = (e ≡ fetch.Memory) ⊎ Last x new (end_of {A = A} {X = CopyError} (Err e))

    last-by : (v : Verdict) → verdict_at x asked done ≡ v → x.reading.failures ≡ 0
        → new.held ≡ held_by v x.reading.held (texts_of (request asked done)) → EndsBy v (end_of {A = A} {X = CopyError} (Err e)) → Stops
    last-by v q none h k = inr (record {
      round = round;
      done = done;
      next = next;
      window = window;
      asked = asked;
      negotiated = negotiated;
      none = none;
      held = h ∙ ap (λ w. held_by w x.reading.held (texts_of (request asked done))) (sym q);
      ends = subst (λ w. EndsBy w (end_of {A = A} {X = CopyError} (Err e))) (sym q) k;
    })

    -- its request wasn't sent
    at-client : (c : client_error) → SendsRound x.reading new asked done (Err c) → e ≡ of_client c → Stops
    at-client (client.Io kind) s g =
        let f : FailsBy false x.reading new (texts_of (request asked done)) kind =
        subst (λ p. FailsBy p x.reading new (texts_of (request asked done)) kind) alone s.1 in
        absurd (never-none x.reading.failures new.failures f.1.1 z)
    at-client client.LineTooLong s g =
        last-by too_long (ap (λ b. by_fit b end_after done (found_at x done)) s.0) (ap (λ (r : Reading). r.failures) (sym s.1) ∙ z)
        (ap (λ (r : Reading). r.held) s.1) (ap (λ (w : FetchError A CopyError). end_of {A = A} {X = CopyError} (Err w)) g)
    at-client (client.Read r) s g = absurd s
    at-client client.AuthenticationUnsupported s g = absurd s
    at-client (client.UnsupportedProtocolVersion l) s g = absurd s
    at-client client.MissingDelimitingNullByte s g = absurd s
    at-client client.Memory s g = inl g

    module _ (sent : Reading) (s : SendsRound x.reading sent asked done (Ok tt)) (error : response_error) (h : new.held ≡ sent.held)
        (g : e ≡ of_response error) where
      one-sent : SentBy false x.reading sent (texts_of (request asked done))
      one-sent = subst (λ p. SentBy p x.reading sent (texts_of (request asked done))) alone s.1

      by-name : (r : AnswerRefusal) → found_at x done ≡ refused r → sent.failures ≡ 0
          → (end_of {A = A} {X = CopyError} (Err (of_response error)) ≡ Err (refusal (codes "fetch") (codes "FetchResponse")))
          ⊎ (◌≡◌ {A = FetchError A CopyError} (of_response error) fetch.Memory) → Stops
      by-name r f q (inr n) = inl (g ∙ n)
      by-name r f q (inl n) =
          last-by unread (ap (λ b. by_fit b end_after done (found_at x done)) s.0 ∙ ap (by_answer end_after done) f)
          (sym (sent-failures false x.reading sent (texts_of (request asked done)) one-sent) ∙ q) (h ∙ one-sent.0.held)
          (ap (λ (w : FetchError A CopyError). end_of {A = A} {X = CopyError} (Err w)) g ∙ n)

      refused-so : (r : AnswerRefusal) → IfSome (view m.banded sent).to_come (λ p. answer_of m.version (flags done (not done)) p
          ≡ refused r) → (view m.banded new).failures ≡ (view m.banded sent).failures → Stops
      refused-so r k q =
          by-name r
          (if-known (λ p. answer_of m.version (flags done (not done)) p ≡ refused r) (view m.banded sent).to_come
          (viewed m.banded (next_pieces x.reading)) (view-come m.banded sent (next_pieces x.reading) one-sent.0.to_come) k)
          (sym (view-failures m.banded sent) ∙ sym q ∙ view-failures m.banded new ∙ z) (named-response error)

      at-response : AnswerFails (answer_of m.version (flags done (not done))) (view_plain m.banded m.plain) (view m.banded sent)
          (view m.banded new) error → (advertised now : I)
          → AsksThrough m.polls m.banded m.plain (is_interruption (answer_refusal error)) sent new advertised now → Stops
      at-response (inl l) advertised now k = refused-so l.refusal l.first l.read.failures
      at-response (inr (inl l)) advertised now k = refused-so (from_reader l.refusal) l.first (l.refused.failures ∙ l.read.failures)
      at-response (inr (inr (inl l))) advertised now k =
          at (outside-response l.now (view m.banded new) l.refusal error (view-failures m.banded new ∙ z) l.failed l.error)
        where
          at : (l.refusal ≡ interrupted) ⊎ (◌≡◌ {A = FetchError A CopyError} (of_response error) fetch.Memory) → Stops
          at (inr n) = inl (g ∙ n)
          at (inl i) =
              absurd (not-reported m.polls never.0 m.banded m.plain (is_interruption (answer_refusal error)) sent new advertised now never.1
              (ap is_interruption (l.error ∙ ap from_reader i))
              (bands-or-plain m.banded m.plain (IsPlain (view m.banded new) l.refusal) never.1 l.is_plain
              (λ q. subst (λ r. IsPlain (view m.banded new) r) i q)) k)
      at-response (inr (inr (inr l))) advertised now k = inl (g ∙ ap of_response l.error)

    stops : (left : I) (b : Breaks m x asked done e new) → AsksBroken m b left → Stops
    stops left (before_request w r) k = inl w
    stops left (at_request c s g) k = at-client c s g
    stops left (after_request s w) k = inl w.1
    stops left (at_answer sent s error a h g) k = at-response sent s error h g a x.interrupt left k
    stops left (after_answer sent s reply a h w) k = inl w

  -- how rounds fail
  module _ (never : ((i j : I) → m.polls i true j → ⊥) × (m.plain ≡ true)) (x : At N I) (alone : x.reading.held.persists ≡ false)
      (new : Reading) (z : new.failures ≡ 0) (e : FetchError A CopyError) (undisturbed : IsDisturbed e → ⊥) where
    abbrev pub RunStops : Type 0
    RunStops = (e ≡ fetch.Memory) ⊎ Ran x new (end_of {A = A} {X = CopyError} (Err e))

    alone-then : (before : At N I) (turns : List (Turn N I)) → Rounds m x turns before → before.reading.held.persists ≡ false
    alone-then before turns run = (rounds_written m x before turns run).persists ∙ alone

    ran-to : (turns : List (Turn N I)) (before : At N I) → Rounds m x turns before → (e ≡ fetch.Memory)
        ⊎ Last before new (end_of {A = A} {X = CopyError} (Err e)) → RunStops
    ran-to turns before run (inl q) = inl q
    ran-to turns before run (inr l) = inr (record { turns = turns; before = before; run = run; last = l })

    own-stops : (error : negotiate_error A) → IsOwn error → e ≡ of_negotiate error → RunStops
    own-stops error own g = at (own-disturbs error own)
      where
        at : IsDisturbed {A = A} (of_negotiate error) ⊎ (◌≡◌ {A = FetchError A CopyError} (of_negotiate error) fetch.Memory) → RunStops
        at (inl d) = absurd (undisturbed (subst (λ w. IsDisturbed w) (sym g) d))
        at (inr n) = inl (g ∙ n)

    -- the interrupt that was asked before a round has no part in what came of it
    as-before : (before : At N I) (asked : I) → (e ≡ fetch.Memory)
        ⊎ Last (record before { interrupt = asked }) new (end_of {A = A} {X = CopyError} (Err e)) → (e ≡ fetch.Memory)
        ⊎ Last before new (end_of {A = A} {X = CopyError} (Err e))
    as-before before asked (inl q) = inl q
    as-before before asked (inr l) = inr (record {
      round = l.round;
      done = l.done;
      next = l.next;
      window = l.window;
      asked = l.asked;
      negotiated = l.negotiated;
      none = l.none;
      held = l.held;
      ends = l.ends;
    })

    turn-fails : (turns : List (Turn N I)) (before : At N I) (asked : I) (next : N) (interrupt : I) → Rounds m x turns before
        → TurnFails m (record before { interrupt = asked }) e next new interrupt → RunStops
    turn-fails turns before asked next interrupt run (inl u) = own-stops u.error u.own u.gives
    turn-fails turns before asked next interrupt run (inr b) =
        ran-to turns before run (as-before before asked
        (stops (record before { interrupt = asked }) (alone-then before turns run) new z e undisturbed never b.round b.done next b.window
        b.asked b.negotiated interrupt b.breaks b.asks))

    pub rounds-fail : (rounds : List Round) (next : N) (interrupt : I) → RoundsFail m x e rounds next new interrupt → RunStops
    rounds-fail rounds next interrupt (inr (inr u)) = inl u.gives
    rounds-fail rounds next interrupt (inr (inl l)) = turn-fails l.turns l.before l.asked next interrupt l.run l.refused
    rounds-fail rounds next interrupt (inl f) = by-end f.ends
      where
        by-end : Interrupts m x rounds f.end ⊎ DoneWithout m x rounds f.end → RunStops
        by-end (inl i) = absurd (never.0 i.before.interrupt f.end.interrupt i.polled)
        by-end (inr d) =
            let here : new ≡ d.last.after.reading = f.reads ∙ ap (λ (a : At N I). a.reading) d.position in
            let at : (end : Ending) → by_pack d.last.reply.pack d.last.done end ≡ lacks_pack =
            λ end. ap (λ p. by_pack p d.last.done end) d.no_pack ∙ ap (λ b. by_pack false b end) d.done in
            inr (record {
              turns = d.turns;
              before = d.before;
              run = d.run;
              last =
                  last-turn d.before d.last new (end_of {A = A} {X = CopyError} (Err e)) (alone-then d.before d.turns d.run) d.lasts
                  (ap (λ (r : Reading). r.failures) (sym here) ∙ z) (ap (λ (r : Reading). r.held) here)
                  (λ end had. subst (λ w. EndsBy w (end_of {A = A} {X = CopyError} (Err e))) (sym (at end))
                  (ap (λ (w : FetchError A CopyError). end_of {A = A} {X = CopyError} (Err w)) f.gives));
            })

-- ---- the rounds of two

module _ {N I A : Type 0} (m : Manner N I A) (haves : N → List ObjectId)
    (goes : (n : N) (s : Window) (a : ArgumentsValue) (p : Option AnswerValue) (r : Round) (done : Bool) (n' : N) (t : Window)
    (b : ArgumentsValue)
    → m.goes n s a p r done n' t b → ListRound (haves n) s a p done (haves n') t b) where
  same-asked : (x y : At N I) → AtAlike haves x y → (r q : Round) (c d : Bool) (n o : N) (v w : Window) (a b : ArgumentsValue)
      → m.goes x.negotiate x.window x.asked x.previous r c n v a
      → m.goes y.negotiate y.window y.asked y.previous q d o w b → SameRound c d (haves n) (haves o) v w a b
  same-asked x y s r q c d n o v w a b h k =
      same-round _ _ _ _ _ _ _ _ _ _ _ _ _ _ _ _ s.left s.window s.asked s.previous
      (goes x.negotiate x.window x.asked x.previous r c n v a h) (goes y.negotiate y.window y.asked y.previous q d o w b k)

  verdicts-same : (x y : At N I) (a b : ArgumentsValue) (c d : Bool) → x.reading.held ≡ y.reading.held → a ≡ b → c ≡ d
      → verdict_at m x a c ≡ verdict_at m y b d
  verdicts-same x y a b c d h e f =
      ap (λ (k : TransportState). verdict m.version m.banded k a c) h ∙ ap
      (λ (k : ArgumentsValue). verdict m.version m.banded y.reading.held k c) e ∙ ap (verdict m.version m.banded y.reading.held b) f

  -- a last round goes no further where the other does
  last-on : (x y : At N I) (new : Reading) (ended : Result Bool PlanRefusal) (u : Turn N I) → AtAlike haves x y → Last m x new ended
      → Turns m y u → u.done ≡ false → u.reply.pack ≡ false → u.after.reading.failures ≡ 0 → ⊥
  last-on x y new ended u s l k p q z =
      let r =
      same-asked x y s l.round u.round l.done u.done l.next u.after.negotiate l.window u.after.window l.asked u.asked l.negotiated
      k.negotiated in
      let alone : y.reading.held.persists ≡ false = ap (λ (h : TransportState). h.persists) (sym s.reading.held) ∙ s.reading.alone in
      let t = turn-verdict m y u alone k z in
      let v = verdicts-same x y l.asked u.asked l.done u.done s.reading.held r.asked r.done ∙ t.1
      ∙ ap (λ b. by_pack b u.done t.0) q ∙ ap (λ b. by_pack false b t.0) p in
      subst (λ w. EndsBy w ended) v l.ends

  -- two that went alike
  pub record EndSame (new other : Reading) (e f : Result Bool PlanRefusal) : Type 0 where
    pub held : new.held ≡ other.held
    pub ends : e ≡ f

  last-last : (x y : At N I) (new other : Reading) (e f : Result Bool PlanRefusal) → AtAlike haves x y → Last m x new e
      → Last m y other f → EndSame new other e f
  last-last x y new other e f s l k =
      let r = same-asked x y s l.round k.round l.done k.done l.next k.next l.window k.window l.asked k.asked l.negotiated k.negotiated in
      let v = verdicts-same x y l.asked k.asked l.done k.done s.reading.held r.asked r.done in
      record {
        held =
            l.held ∙ ap (λ w. held_by w x.reading.held (texts_of (request l.asked l.done))) v
            ∙ ap (λ h. held_by (verdict_at m y k.asked k.done) h (texts_of (request l.asked l.done))) s.reading.held
            ∙ ap (λ (a : ArgumentsValue). held_by (verdict_at m y k.asked k.done) y.reading.held (texts_of (request a l.done))) r.asked
            ∙ ap (λ d. held_by (verdict_at m y k.asked k.done) y.reading.held (texts_of (request k.asked d))) r.done
            ∙ sym k.held;
        ends = ends-alike (verdict_at m y k.asked k.done) e f (subst (λ w. EndsBy w e) v l.ends) k.ends;
      }

  runs-by : (ts us : List (Turn N I)) (x y b c : At N I) (new other : Reading) (e f : Result Bool PlanRefusal) → AtAlike haves x y
      → Rounds m x ts b → Last m b new e → Rounds m y us c → Last m c other f → EndSame new other e f
  runs-by [] [] x y b c new other e f s r l q k =
      last-last x y new other e f s (subst (λ a. Last m a new e) r l) (subst (λ a. Last m a other f) q k)
  runs-by [] (v ∷ us) x y b c new other e f s r l q k =
      absurd (last-on x y new e v s (subst (λ a. Last m a new e) r l) q.0 q.1 q.2 (rounds-none m us v.after c q.3 k.none))
  runs-by (t ∷ ts) [] x y b c new other e f s r l q k =
      absurd (last-on y x other f t (turned s) (subst (λ a. Last m a other f) q k) r.0 r.1 r.2 (rounds-none m ts t.after b r.3 l.none))
    where
      turned : AtAlike haves x y → AtAlike haves y x
      turned w = record {
        left = sym w.left;
        window = sym w.window;
        asked = sym w.asked;
        previous = sym w.previous;
        reading = record {
          version = sym w.reading.version;
          held = sym w.reading.held;
          alone = ap (λ (h : TransportState). h.persists) (sym w.reading.held) ∙ w.reading.alone;
        };
      }
  runs-by (t ∷ ts) (v ∷ us) x y b c new other e f s r l q k =
      runs-by ts us t.after v.after b c new other e f (turns-alike m haves goes x y t v s r.0 q.0
      (rounds-none m ts t.after b r.3 l.none) (rounds-none m us v.after c q.3 k.none)).1 r.3 l q.3 k

  -- rounds of both break off alike
  pub runs-alike : (x y : At N I) (new other : Reading) (e f : Result Bool PlanRefusal) → AtAlike haves x y → Ran m x new e
      → Ran m y other f → EndSame new other e f
  runs-alike x y new other e f s l k = runs-by l.turns k.turns x y l.before k.before new other e f s l.run l.last k.run k.last
