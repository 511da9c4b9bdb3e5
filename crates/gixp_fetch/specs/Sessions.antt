-- A fetch seen from outside: its arguments, its rounds with their requests and responses, the pack, and its error
-- (gitprotocol-pack, "Packfile Negotiation"; gitprotocol-v2, "fetch").
use Rattle.std.proofs.Common.{inl, inr}
use Rattle.std.specs.Borrow.{GName}
use Rattle.std.specs.Prelude.{◌≡◌, ◌⊎◌, ⊤, ℕ, ◌+◌, ◌/◌, ◌≤◌, Bool, true, false, not, ◌||◌, length, codes, List, [], ◌∷◌, ◌++◌, map, Option, Some, None, IfSome, Result, Ok, Err}
use Rattle.gixp_packetline.specs.declared.protocol.Protocol.{Protocol}
use Rattle.gixp_packetline.specs.declared.protocol.MessageKind.{MessageKind}
use Rattle.gixp_packetline.specs.Lines.{stop}
use Rattle.gixp_packetline.specs.Pieces.{Pieces}
use Rattle.gixp_packetline.specs.FrameText.{texts_of}
use Rattle.gixp_packetline.specs.Reading.{Reading, lines_ahead}
use Rattle.gixp_hash.specs.declared.object_id.ObjectId.{ObjectId}
use Rattle.gixp_sidebands.specs.Bands.{Side, side_reading, side_content, content_of, KeepsEndUncounted}
use Rattle.gixp_response.specs.Answer.{AnswerValue, Found, whole}
use Rattle.gixp_response.specs.Beginnings.{expected as flags}
use Rattle.gixp_response.specs.AnswerReading.{answer_of, AnswerBrokeOff}
use Rattle.gixp_response.specs.Features.{Feature, missing_feature}
use Rattle.gixp_shallow.specs.declared.update.ShallowUpdate.{ShallowUpdate}
use Rattle.gixp_requests.specs.Feature.{feature_values, has_feature}
use Rattle.gixp_requests.specs.Arguments.{ArgumentsValue, is_v2, asks_nothing}
use Rattle.gixp_requests.specs.Request.{request, sent_off}
use Rattle.gixp_negotiate.specs.declared.negotiate.Round.{Round}
use Rattle.gixp_negotiate.specs.declared.negotiate.Error.TheVariants.{NegotiationFailed}
use Rattle.gixp_negotiate.specs.Negotiate.{ActionValue, action_value, negotiate, first_window}
use Rattle.gixp_fetch.specs.declared.options.Outcome.{Outcome}
use Rattle.gixp_fetch.specs.declared.error.Error.{Error}
use Rattle.gixp_fetch.specs.declared.error.Error.TheVariants.{Negotiate, Memory}
use Rattle.gixp_fetch.specs.declared.receive.PackFailure.{PackFailure}
use Rattle.gixp_fetch.specs.declared.receive.PackFailure.TheVariants.{Consumer, Rest}
use Rattle.gixp_fetch.specs.FetchRounds.{At, Turn, Manner, Turns, Rounds, Packed, TurnFails, Breaks, before_request, at_request, after_request, at_answer, after_answer, updates_of, reported_of, haves_of, windows_of}
use Rattle.gixp_fetch.specs.Bound.{but_last}
use Rattle.gixp_fetch.specs.View.{view}
use Rattle.gixp_fetch.specs.Sent.{requests_of, WroteRequests}
use Rattle.gixp_fetch.specs.FetchShallow.{is_change, shallow_asks}
use Rattle.gixp_fetch.specs.Prepare.{asks_tags, Prepared, LocksFirst, ReleasesIf}
use Rattle.gixp_fetch.specs.Receive.{GivesBack, DrainFails, fresh_side}
use Rattle.gixp_fetch.specs.Received.{of_pack}
use Rattle.gixp_fetch.specs.Session.{OpenFails, Idle, ReadyFails, Holds, HoldFails, WritesBoundary, BoundaryWriteFails}
use Rattle.gixp_fetch.specs.Fetch.{World, Parties}
use Rattle.gixp_fetch.specs.Fetched.{FetchCall, features, StartFails}

-- ---- the arguments of a round, and its response

-- a response is the one that the grammar finds in the unread input; or a read failed like at the end of the stream,
-- and it is the one that the grammar finds in the pieces before
abbrev pub IsAnswer : (Pieces → Found) → Protocol → Reading → Reading → AnswerValue → Type 0
IsAnswer found version old new value = IfSome old.to_come (λ p. (q : Pieces) × (new.to_come ≡ Some q) × (found p ≡ whole value q))
    ⊎ AnswerBrokeOff found version old new value

abbrev pub AreAnswers : {N I : Type 0} → Protocol → Bool → List (Turn N I) → Type 0
AreAnswers version banded [] = ⊤
AreAnswers version banded (t ∷ ts) = IsAnswer (answer_of version (flags t.done (not t.done))) version (view banded t.sent)
    (view banded t.after.reading) t.reply × AreAnswers version banded ts

-- none of these rounds is the last or has a pack
abbrev pub GoOn : {N I : Type 0} → List (Turn N I) → Type 0
GoOn [] = ⊤
GoOn (t ∷ ts) = (t.done ≡ false) × (t.reply.pack ≡ false) × GoOn ts

-- the reports of these rounds
abbrev pub rounds_of : {N I : Type 0} → List (Turn N I) → List Round
rounds_of ts = map (λ t. t.round) ts

module _ {N I A : Type 0} (m : Manner N I A) where
  -- the arguments of each round are made by the negotiation from the arguments before, its window and the previous
  -- response; after its request no have is left, and the lines are kept if each request has to repeat them
  abbrev pub AreNegotiated : At N I → List (Turn N I) → Type 0
  AreNegotiated old [] = ⊤
  AreNegotiated old (t ∷ ts) =
      m.goes old.negotiate old.window old.asked old.previous t.round t.done t.after.negotiate t.after.window t.asked
      × (t.after.asked ≡ sent_off old.reading.held.persists t.asked) × (t.after.previous ≡ Some t.reply)
      × AreNegotiated t.after ts

  module _ {E : Type 0} where
    -- the request of a round without a response, if sending it was begun
    abbrev pub begun_by : {old : At N I} {asked : ArgumentsValue} {done : Bool} {e : Error A E} {reading : Reading}
        → Breaks m old asked done e reading → List (List ℕ)
    begun_by (before_request w r) = []
    begun_by {old} {asked} {done} (at_request error s g) = texts_of (request asked done) ∷ []
    begun_by {old} {asked} {done} (after_request s w) = texts_of (request asked done) ∷ []
    begun_by {old} {asked} {done} (at_answer sent s error a h g) = texts_of (request asked done) ∷ []
    begun_by {old} {asked} {done} (after_answer sent s reply a h w) = texts_of (request asked done) ∷ []

    abbrev pub begun_in : {old : At N I} {e : Error A E} {negotiate : N} {reading : Reading} {interrupt : I}
        → TurnFails m old e negotiate reading interrupt → List (List ℕ)
    begun_in (inl u) = []
    begun_in (inr b) = begun_by b.breaks

module _ {N I A S C P X : Type 0} (parties : Parties N I A S C P X) where
  -- the relations of the rounds of a call
  abbrev pub manner_of : FetchCall → Bool → Manner N I A
  manner_of call banded = record {
    goes = parties.negotiation_calls.goes;
    fails = parties.negotiation_calls.round_fails;
    polls = parties.polls;
    version = call.version;
    banded = banded;
    plain = parties.plain;
  }

  -- ---- the first arguments

  -- before any want: the features, the tags, the boundary and the depth, by the table, the capabilities and the boundary of the
  -- store, whose lock is held if the boundary may change
  pub record Asks (call : FetchCall) (store : S) (banded : Bool) (ids : List ObjectId) (asked : ArgumentsValue) (locked : Bool)
      (read : S) : Type 0 where
    pub raw : List Feature
    pub values : feature_values raw ≡ features call
    pub needed : missing_feature call.version raw ≡ None
    pub bands : banded ≡ has_feature (codes "sideband-all") (features call)
    pub given : ArgumentsValue
    pub tags : asks_tags call.tags (asks_nothing call.table call.version (features call)) ≡ Ok given
    pub held : S
    pub locks : LocksFirst parties.store_calls.locks (is_change call.fetch_options.shallow) store held locked
    pub reads : parties.store_calls.reads held ids read
    pub depth : shallow_asks call.fetch_options.shallow ids given ≡ Ok asked

  -- the rounds begin: the wants of the negotiation were added, the window is the first, there was no response, and nothing was
  -- written or read
  pub record Starts (call : FetchCall) (old : World N I S C) (banded : Bool) (ids : List ObjectId) (action : ActionValue)
      (locked : Bool) (read : S) (start : At N I) : Type 0 where
    pub asked : ArgumentsValue
    pub asks : Asks call old.store banded ids asked locked read
    pub known : List Bool
    pub marked : N
    pub must : action ≡ negotiate known
    pub marks : parties.negotiation_calls.marks old.negotiate action marked
    pub adds : parties.negotiation_calls.adds marked known asked true start.asked start.negotiate
    pub window : start.window ≡ first_window (not old.reading.held.persists || is_v2 start.asked.version)
    pub previous : start.previous ≡ None
    pub reading : start.reading ≡ old.reading
    pub interrupt : start.interrupt ≡ old.interrupt

  -- nothing was written or read, the interrupt wasn't asked, and the consumer got no pack
  pub record Untouched (old last : World N I S C) : Type 0 where
    pub reading : last.reading ≡ old.reading
    pub interrupt : last.interrupt ≡ old.interrupt
    pub consumer : last.consumer ≡ old.consumer

  -- there was nothing to fetch: the decision needs no objects, or the negotiation added no want
  pub record AsksNothing (call : FetchCall) (old last : World N I S C) : Type 0 where
    pub banded : Bool
    pub ids : List ObjectId
    pub asked : ArgumentsValue
    pub asks : Asks call old.store banded ids asked last.locked last.store
    pub idle : Idle parties.negotiation_calls old.negotiate asked last.negotiate
    pub untouched : Untouched old last

  -- ---- the pack

  -- the consumer got a sideband reader over this transport. The bytes that it read begin the joined payloads of band
  -- 1, and the rest of these payloads is unread: if nothing is, it read all of them. They end as before, unless a
  -- failure was counted
  pub record TakesPack (c : C) (from : Reading) (returned : Result Bool X) (d : C) (left : Side) (progress : P) : Type 0 where
    pub name : GName
    pub asks : GName
    pub before : P
    pub took : parties.consumes c (fresh_side name asks from) before returned d left progress
    pub read : List ℕ
    pub begins : IfSome from.to_come (λ p. (q : Pieces) × (left.reading.to_come ≡ Some q) × (content_of p ≡ read ++ side_content left q))
    pub all : IfSome from.to_come (λ p. IfSome left.reading.to_come (λ q. side_content left q ≡ [] → content_of p ≡ read))
    pub ending : KeepsEndUncounted from left.reading

  -- all lines up to a special packet were read, and that packet, and no read failed
  pub record ReadsToStop (old new : Reading) : Type 0 where
    pub kind : MessageKind
    pub stopped : new.stopped ≡ Some kind
    pub failures : new.failures ≡ old.failures
    pub rest : IfSome old.to_come (λ p. (q : Pieces) × (new.to_come ≡ Some q) × ((lines_ahead old p).ending ≡ stop kind q))

  -- if the consumer returned true, the rest up to the special packet was read, else nothing more
  pub record TakesAll (c : C) (from : Reading) (d : C) (new : Reading) (progress : P) : Type 0 where
    pub finished : Bool
    pub left : Side
    pub end : Side
    pub takes : TakesPack c from (Ok finished) d left progress
    pub drains : finished ≡ true → ReadsToStop (side_reading left) (side_reading end)
    pub stays : finished ≡ false → end ≡ left
    pub back : GivesBack end new

  -- the consumer failed, or the rest failed before a special packet
  abbrev pub RefusesPack : C → Reading → PackFailure X → C → Reading → P → Type 0
  RefusesPack c from (Consumer x) d new progress = (left : Side) × TakesPack c from (Err x) d left progress × GivesBack left new
  RefusesPack c from (Rest x) d new progress = (left end : Side) × TakesPack c from (Ok true) d left progress
      × DrainFails (side_reading left) (side_reading end) x × GivesBack end new

  -- ---- a session with a pack

  -- its rounds, each with its request, which is the stated function of its arguments, and its response; then the
  -- lock, the pack and the boundary
  pub record Conversation (call : FetchCall) (old : World N I S C) (action : ActionValue) (rounds : List Round) (answer : AnswerValue)
      (last : World N I S C) (progress : P) : Type 0 where
    pub banded : Bool
    pub ids : List ObjectId
    pub locked : Bool
    pub read : S
    pub start : At N I
    pub starts : Starts call old banded ids action locked read start
    pub updates : List ShallowUpdate
    pub reply : AnswerValue
    pub end : At N I
    pub packed : Packed (manner_of call banded) start rounds updates reply end
    pub go_on : GoOn packed.turns
    pub negotiated : AreNegotiated (manner_of call banded) start (packed.turns ++ packed.last ∷ [])
    pub answers : AreAnswers call.version banded (packed.turns ++ packed.last ∷ [])
    pub requests : WroteRequests old.reading last.reading (requests_of (packed.turns ++ packed.last ∷ []))
    pub haves : haves_of rounds ≤ parties.negotiation_calls.count start.negotiate
    pub windows : windows_of (but_last rounds) ≤ parties.negotiation_calls.count start.negotiate
    pub few : length (requests_of (packed.turns ++ packed.last ∷ [])) ≤ parties.negotiation_calls.count start.negotiate / 16 + 1
    pub polls : answer ≡ record packed.last.reply { shallow_updates = packed.last.reply.shallow_updates ++ call.fetch_options.reported }
    pub position : last.negotiate ≡ end.negotiate
    pub held : S
    pub holds : Holds parties.store_calls (updates ++ call.fetch_options.reported) call.fetch_options.reject read locked held last.locked
    pub pack : TakesAll old.consumer end.reading last.consumer last.reading progress
    pub settles : WritesBoundary parties.store_calls ids (updates ++ call.fetch_options.reported) held last.store

  -- ---- a session that broke off

  -- the boundary and its lock are the same as before the rounds, and the consumer got no pack
  pub record Unlent (c : C) (read : S) (had : Bool) (last : World N I S C) : Type 0 where
    pub consumer : last.consumer ≡ c
    pub store : last.store ≡ read
    pub lock : last.locked ≡ had

  -- the negotiation and the transport are in a state between two rounds
  pub record IsAtPosition (at : At N I) (last : World N I S C) : Type 0 where
    pub negotiate : last.negotiate ≡ at.negotiate
    pub reading : last.reading ≡ at.reading

  -- a pack was received, and the rest failed for this reason: an allocation, the lock, the consumer or the rest after the
  -- pack, or writing the boundary
  pub data Unpacks (ids : List ObjectId) (updates : List ShallowUpdate) (reject : Bool) (c : C) (read : S) (locked : Bool)
      (from : Reading) (e : Error A X) (last : World N I S C) (progress : P) : Type 0 where
    lacks_memory : e ≡ Memory → last.reading ≡ from → Unlent c read locked last
        → Unpacks ids updates reject c read locked from e last progress
    lacks_lock : HoldFails parties.store_calls updates reject read locked e last.store last.locked → last.reading ≡ from
        → last.consumer ≡ c → Unpacks ids updates reject c read locked from e last progress
    lacks_room : Holds parties.store_calls updates reject read locked last.store last.locked → e ≡ Memory → last.reading ≡ from
        → last.consumer ≡ c → Unpacks ids updates reject c read locked from e last progress
    untaken : Holds parties.store_calls updates reject read locked last.store last.locked → (error : PackFailure X) → e ≡ of_pack error
        → RefusesPack c from error last.consumer last.reading progress
        → Unpacks ids updates reject c read locked from e last progress
    unwritten : (held : S) → Holds parties.store_calls updates reject read locked held last.locked
        → TakesAll c from last.consumer last.reading progress → BoundaryWriteFails parties.store_calls updates held e last.store
        → Unpacks ids updates reject c read locked from e last progress

  -- after rounds that weren't the last and had no pack, with this error: the name of one more couldn't be allocated;
  -- the caller stopped; one more round was the last and had no pack; one more failed in the negotiation, its request
  -- or its response; or one more had a pack, and the rest failed
  pub data RoundsBreakOff (call : FetchCall) (banded : Bool) (ids : List ObjectId) (c : C) (read : S) (locked : Bool)
      (turns : List (Turn N I)) (before : At N I) (e : Error A X) (last : World N I S C) (progress : P) : Type 0 where
    unnamed : e ≡ Memory → IsAtPosition before last → last.interrupt ≡ before.interrupt → Unlent c read locked last
        → RoundsBreakOff call banded ids c read locked turns before e last progress
    by_caller : parties.polls before.interrupt true last.interrupt → e ≡ Negotiate (NegotiationFailed (length turns))
        → IsAtPosition before last → Unlent c read locked last
        → RoundsBreakOff call banded ids c read locked turns before e last progress
    exhausted : (t : Turn N I) → Turns (manner_of call banded) before t → t.done ≡ true → t.reply.pack ≡ false → e ≡ Negotiate
        (NegotiationFailed (length turns + 1)) → IsAtPosition t.after last → last.interrupt ≡ t.after.interrupt → Unlent c read locked last
        → RoundsBreakOff call banded ids c read locked turns before e last progress
    at_round : (asked : I) → parties.polls before.interrupt false asked
        → TurnFails (manner_of call banded) (record before { interrupt = asked }) e last.negotiate last.reading last.interrupt
        → Unlent c read locked last
        → RoundsBreakOff call banded ids c read locked turns before e last progress
    after_pack : (t : Turn N I) → Turns (manner_of call banded) before t → t.reply.pack ≡ true → last.negotiate ≡ t.after.negotiate
        → last.reading.held ≡ t.after.reading.held
        → Unpacks ids ((updates_of (manner_of call banded) turns ++ t.reply.shallow_updates)
        ++ call.fetch_options.reported) call.fetch_options.reject c read locked t.after.reading e last progress
        → RoundsBreakOff call banded ids c read locked turns before e last progress

  module _ {call : FetchCall} {banded : Bool} {ids : List ObjectId} {c : C} {read : S} {locked : Bool} {turns : List
      (Turn N I)} {before : At N I} {e : Error A X} {last : World N I S C} {progress : P} where
    -- the one more round with a response, if there is one
    abbrev pub one_more : RoundsBreakOff call banded ids c read locked turns before e last progress → List (Turn N I)
    one_more (unnamed g at i u) = []
    one_more (by_caller s g at u) = []
    one_more (exhausted t r d n g at i u) = t ∷ []
    one_more (at_round i s f u) = []
    one_more (after_pack t r p n h u) = t ∷ []

    -- the transport after the last response
    abbrev pub answered_at : RoundsBreakOff call banded ids c read locked turns before e last progress → Reading
    answered_at (unnamed g at i u) = before.reading
    answered_at (by_caller s g at u) = before.reading
    answered_at (exhausted t r d n g at i u) = t.after.reading
    answered_at (at_round i s f u) = before.reading
    answered_at (after_pack t r p n h u) = t.after.reading

    -- the one more request that was begun and got no response, if there is one
    abbrev pub unanswered : RoundsBreakOff call banded ids c read locked turns before e last progress → List (List ℕ)
    unanswered (unnamed g at i u) = []
    unanswered (by_caller s g at u) = []
    unanswered (exhausted t r d n g at i u) = []
    unanswered (at_round i s f u) = begun_in (manner_of call banded) f
    unanswered (after_pack t r p n h u) = []

    -- the report of the last round, if it has one
    abbrev pub reported_last : RoundsBreakOff call banded ids c read locked turns before e last progress → List Round
    reported_last (unnamed g at i u) = []
    reported_last (by_caller s g at u) = []
    reported_last (exhausted t r d n g at i u) = t.round ∷ []
    reported_last (at_round i s f u) = reported_of (manner_of call banded) f
    reported_last (after_pack t r p n h u) = t.round ∷ []

  -- its rounds, each with its request and its response, and why there is no pack or the rest failed
  pub record BrokenOff (call : FetchCall) (old : World N I S C) (e : Error A X) (last : World N I S C) (progress : P) : Type 0 where
    pub banded : Bool
    pub ids : List ObjectId
    pub action : ActionValue
    pub locked : Bool
    pub read : S
    pub start : At N I
    pub starts : Starts call old banded ids action locked read start
    pub turns : List (Turn N I)
    pub before : At N I
    pub run : Rounds (manner_of call banded) start turns before
    pub go_on : GoOn turns
    pub ends : RoundsBreakOff call banded ids old.consumer read locked turns before e last progress
    pub negotiated : AreNegotiated (manner_of call banded) start (turns ++ one_more ends)
    pub answers : AreAnswers call.version banded (turns ++ one_more ends)
    pub requests : WroteRequests old.reading (answered_at ends) (requests_of (turns ++ one_more ends))
    pub haves : haves_of (rounds_of turns ++ reported_last ends) ≤ parties.negotiation_calls.count start.negotiate
    pub windows : windows_of (but_last (rounds_of turns ++ reported_last ends)) ≤ parties.negotiation_calls.count start.negotiate
    pub few : length (requests_of (turns ++ one_more ends) ++ unanswered ends) ≤ parties.negotiation_calls.count start.negotiate / 16 + 1

  -- ---- by the result

  -- a fetch that failed after its first arguments and its lock, for this reason: reading the boundary failed, or
  -- adding its lines or the depth's; the negotiation failed in one of its first two steps; or the session broke off
  pub data SessionFails (call : FetchCall) (old : World N I S C) (e : Error A X) (last : World N I S C) (progress : P) : Type 0 where
    at_depth : (given : ArgumentsValue) (banded : Bool) (held : S) → Prepared call.table call.version (features call) call.tags given banded
        → LocksFirst parties.store_calls.locks (is_change call.fetch_options.shallow) old.store held last.locked
        → OpenFails parties.store_calls call.fetch_options.shallow held given e last.store
        → last.negotiate ≡ old.negotiate → Untouched old last → SessionFails call old e last progress
    at_wants : (banded : Bool) (ids : List ObjectId) (asked : ArgumentsValue)
        → Asks call old.store banded ids asked last.locked last.store
        → ReadyFails parties.negotiation_calls old.negotiate asked e last.negotiate
        → Untouched old last → SessionFails call old e last progress
    in_session : BrokenOff call old e last progress → SessionFails call old e last progress

  -- a lock that is held is released, and nothing else changes
  pub record Releases (last new : World N I S C) : Type 0 where
    pub releases : ReleasesIf parties.store_calls.releases last.locked last.store new.store
    pub position : new ≡ record last { store = new.store; locked = false }

  -- a fetch by its result: an outcome is the one of a session with a pack; without an outcome there was nothing to
  -- fetch; an error is the one of the first part that failed
  abbrev pub HoldsSession : FetchCall → World N I S C → Result (Option Outcome) (Error A X) → World N I S C → P → Type 0
  HoldsSession call old (Ok (Some outcome)) new progress =
      (last : World N I S C) × Conversation call old
      (action_value outcome.negotiate.action) outcome.negotiate.rounds.items outcome.last_response last progress × Releases last new
  HoldsSession call old (Ok None) new progress = (last : World N I S C) × AsksNothing call old last × Releases last new
  HoldsSession call old (Err e) new progress = StartFails parties call old e new
      ⊎ ((last : World N I S C) × SessionFails call old e last progress × Releases last new)
