-- A fetch seen from outside.
use Rattle.std.proofs.Common.{◌≡◌, ◌⊎◌, inl, inr, ℕ, ◌+◌, ◌/◌, ◌≤◌, Bool, true, false, not, ◌||◌, List, [], ◌∷◌, ◌++◌, length, map, length-append, arith, refl, sym, ap, subst, ◌∙◌, Option, Some, None, drop}
use Rattle.std.specs.Prelude.{Result, Ok, Err, IfSome}
use Rattle.std.proofs.lemmas.List.{append-nil}
use Rattle.std.specs.Borrow.{GName}
use Rattle.gixp_hash.specs.declared.object_id.ObjectId.{ObjectId}
use Rattle.gixp_packetline.specs.declared.protocol.Protocol.{Protocol}
use Rattle.gixp_packetline.specs.declared.protocol.MessageKind.{MessageKind}
use Rattle.gixp_packetline.specs.Pieces.{Pieces, Refusal}
use Rattle.gixp_packetline.specs.Reading.{Reading, Fails as reader_fails}
use Rattle.gixp_sidebands.specs.Bands.{Side, content_left, content_of, side_content, IsFirstOf, side_reading, is_begun}
use Rattle.gixp_shallow.specs.declared.update.ShallowUpdate.{ShallowUpdate}
use Rattle.gixp_response.specs.Answer.{AnswerValue, Found}
use Rattle.gixp_response.specs.AnswerReading.{Answered}
use Rattle.gixp_requests.specs.Arguments.{ArgumentsValue, is_v2}
use Rattle.gixp_negotiate.specs.declared.negotiate.Round.{Round}
use Rattle.gixp_negotiate.specs.declared.negotiate.Error.TheVariants.{NegotiationFailed}
use Rattle.gixp_negotiate.specs.Negotiate.{ActionValue, Lawful, IsWide, first_window}
use Rattle.gixp_fetch.specs.declared.options.Outcome.{Outcome}
use Rattle.gixp_fetch.specs.declared.error.Error.{Error}
use Rattle.gixp_fetch.specs.declared.error.Error.TheVariants.{Negotiate}
use Rattle.gixp_fetch.specs.declared.receive.PackFailure.{PackFailure}
use Rattle.gixp_fetch.specs.declared.receive.PackFailure.TheVariants.{Consumer, Rest}
use Rattle.gixp_fetch.specs.FetchRounds.{At, Turn, Manner, Rounds, Packed, Interrupts, DoneWithout, RoundsFail, TurnFails, Breaks, before_request, at_request, after_request, at_answer, after_answer, reported_of, haves_of, windows_of}
use Rattle.gixp_fetch.specs.Bound.{Bounded, but_last}
use Rattle.gixp_fetch.specs.FetchShallow.{is_change}
use Rattle.gixp_fetch.specs.Prepare.{Prepared, LocksFirst}
use Rattle.gixp_fetch.specs.View.{view}
use Rattle.gixp_fetch.specs.Sent.{request_of, requests_of, WroteRequests}
use Rattle.gixp_fetch.specs.Receive.{fresh_side, Consumed, GivesBack, Finishes}
use Rattle.gixp_fetch.specs.Received.{PackFails, Received, ReceiveFails}
use Rattle.gixp_shallow.specs.Store.{StoreCalls}
use Rattle.gixp_fetch.specs.Session.{DeliverFails, at_lock, at_pack, at_boundary}
use Rattle.gixp_fetch.specs.Fetch.{World, Parties, Begun, Negotiated, FetchFails, unopened, unready, unpacked, untold, undelivered}
use Rattle.gixp_fetch.specs.Fetched.{FetchCall, features, Fetches}
use Rattle.gixp_packetline.specs.TransportState.{TransportState as held_data}
use Rattle.gixp_fetch.specs.Session as session
use Rattle.gixp_fetch.specs.Sessions.{IsAnswer, AreAnswers, GoOn, begun_by, begun_in, AreNegotiated, manner_of, Asks, Starts, TakesPack, TakesAll, RefusesPack, Unpacks, lacks_memory, lacks_lock, lacks_room, untaken, unwritten, Unlent, RoundsBreakOff, unnamed, by_caller, exhausted, at_round, after_pack, one_more, answered_at, unanswered, reported_last, BrokenOff, SessionFails, at_depth, at_wants, in_session, HoldsSession}
use Rattle.gixp_fetch.proofs.SentLemmas.{none_written, both_written, held_written, turn_written}

-- ---- reading a pack changes nothing of what the transport holds

inner : held_data → held_data
inner h = record h { names = drop 1 h.names }

held_through : (s t : Side) → (side_reading t).held ≡ (side_reading s).held → t.reading.held ≡ s.reading.held
unfolding inner
held_through s t e = ap inner e

pub fails_held : (old new : Reading) (e : Refusal) → reader_fails old new e → new.held ≡ old.held
fails_held old new e (inl r) = r.held
fails_held old new e (inr (inl f)) = f.stays.held
fails_held old new e (inr (inr b)) = b.held

finished_held : (finished : Bool) (old new : Side) → Finishes finished old new → new.reading.held ≡ old.reading.held
finished_held true old new f = held_through old new (f.drains refl).held
finished_held false old new f = ap (λ (s : Side). s.reading.held) (f.stays refl)

back_held : (s : Side) (new : Reading) → GivesBack s new → new.held ≡ s.reading.held
back_held s new b = at (is_begun s.place) refl
  where
    at : (x : Bool) → is_begun s.place ≡ x → new.held ≡ s.reading.held
    at true e = (b.begun e).held
    at false e = ap (λ (r : Reading). r.held) (b.fresh e)

module _ {C P X : Type 0} (consumes : C → Side → P → Result Bool X → C → Side → P → Type 0) (c : C) where
  pub received_held : (from : Reading) (d : C) (new : Reading) (q : P) → Received consumes c from d new q → new.held ≡ from.held
  received_held from d new q r = back_held r.end new r.back ∙ finished_held r.finished r.mid r.end r.finishes
      ∙ held_through (fresh_side r.name r.asks from) r.mid r.consumed.held

  pack_held : (start : Side) (p : P) (error : PackFailure X) (d : C) (end : Side) (q : P) → PackFails consumes c start p error d end q
      → end.reading.held ≡ start.reading.held
  pack_held start p (Consumer e) d end q h = held_through start end h.held
  pack_held start p (Rest e) d end q h = held_through h.0 end (fails_held _ _ _ h.2.refused ∙ h.2.passed.held)
      ∙ held_through start h.0 h.1.held

  unreceived_held : {A : Type 0} (from : Reading) (e : Error A X) (d : C) (new : Reading) (q : P)
      → ReceiveFails consumes c from e d new q → new.held ≡ from.held
  unreceived_held from e d new q (inl r) = back_held r.end new r.back
      ∙ pack_held (fresh_side r.name r.asks from) r.p r.error d r.end q r.fails
  unreceived_held from e d new q (inr m) = ap (λ (r : Reading). r.held) m.2

  module _ {S : Type 0} (store_calls : StoreCalls S) (ids : List ObjectId) (updates : List ShallowUpdate) (reject : Bool) (store : S)
      (locked : Bool) (from : Reading) where
    pub undelivered_held : {A : Type 0} (e : Error A X) (d : C) (store' : S) (locked' : Bool) (reading : Reading) (q : P)
        → DeliverFails store_calls consumes ids updates reject c store locked from e d store' locked' reading q → reading.held ≡ from.held
    undelivered_held e d store' locked' reading q (at_lock u x r) = ap (λ (r : Reading). r.held) r
    undelivered_held e d store' locked' reading q (at_pack h u) = unreceived_held from e d reading q u
    undelivered_held e d store' locked' reading q (at_boundary held h r u) = received_held from d reading q r

-- ---- responses

pub is_answer : (found : Pieces → Found) (version : Protocol) (old new : Reading) (value : AnswerValue)
    → Answered found version old new value → IsAnswer found version old new value
is_answer found version old new value (inl r) = inl r.answer
is_answer found version old new value (inr b) = inr b

-- ---- how many rounds and requests

requests_length : {N I : Type 0} (ts : List (Turn N I)) → length (requests_of ts) ≡ length ts
requests_length [] = refl
requests_length (t ∷ ts) = let h = requests_length ts in omega arith

rounds_length : {N I : Type 0} (ts : List (Turn N I)) (rs : List Round) → length (map (λ (t : Turn N I). t.round) ts ++ rs)
    ≡ length ts + length rs
rounds_length [] rs = let n = length rs in omega arith
rounds_length (t ∷ ts) rs = let h = rounds_length ts rs in omega arith

pub count_same : {N I : Type 0} (ts : List (Turn N I)) (rounds : List Round) (n : ℕ) → n ≡ length rounds
    → rounds ≡ map (λ (t : Turn N I). t.round) ts → n ≡ length ts
count_same ts rounds n c e =
    let a = rounds_length ts [] in
    let b = ap length (e ∙ sym (append-nil (map (λ (t : Turn _ _). t.round) ts))) in
    omega arith

pub count_more : {N I : Type 0} (ts : List (Turn N I)) (r : Round) (rounds : List Round) (n : ℕ) → n ≡ length rounds
    → rounds ≡ map (λ (t : Turn N I). t.round) ts ++ r ∷ [] → n ≡ length ts + 1
count_more ts r rounds n c e =
    let a = rounds_length ts (r ∷ []) in
    let b = ap length e in
    omega arith

few_packed : {N I : Type 0} (ts : List (Turn N I)) (t : Turn N I) (rounds : List Round) (n : ℕ)
    → rounds ≡ map (λ (t : Turn N I). t.round) ts ++ t.round ∷ [] → length rounds ≤ n → length (requests_of (ts ++ t ∷ [])) ≤ n
few_packed ts t rounds n e l =
    let a = requests_length (ts ++ t ∷ []) in
    let b = length-append ts (t ∷ []) in
    let c = rounds_length ts (t.round ∷ []) in
    let d = ap length e in
    omega arith

few_all : {N I : Type 0} (ts more : List (Turn N I)) (xs : List (List ℕ)) (rs rounds : List Round) (n : ℕ)
    → rounds ≡ map (λ (t : Turn N I). t.round) ts ++ rs → length more + length xs ≤ length rs → length rounds ≤ n
    → length (requests_of (ts ++ more) ++ xs) ≤ n
few_all ts more xs rs rounds n e m l =
    let a = requests_length (ts ++ more) in
    let b = length-append ts more in
    let c = length-append (requests_of (ts ++ more)) xs in
    let d = rounds_length ts rs in
    let f = ap length e in
    omega arith

none_of_none : 0 ≤ 0
none_of_none = omega arith

none_of_one : 0 ≤ 1
none_of_one = omega arith

add_none : (a b : ℕ) → a ≤ b → 0 + a ≤ b
add_none a b h = omega arith

one_of_one : 1 ≤ 1
one_of_one = omega arith

module _ {N I A E : Type 0} (m : Manner N I A) where
  few_broken : (old : At N I) (asked : ArgumentsValue) (done : Bool) (e : Error A E) (reading : Reading)
      (b : Breaks m old asked done e reading) → length (begun_by m b) ≤ 1
  few_broken old asked done e reading (before_request w r) = none_of_one
  few_broken old asked done e reading (at_request error s g) = one_of_one
  few_broken old asked done e reading (after_request s w) = one_of_one
  few_broken old asked done e reading (at_answer sent s error a h g) = one_of_one
  few_broken old asked done e reading (after_answer sent s reply a h w) = one_of_one

  few_begun : (old : At N I) (e : Error A E) (negotiate : N) (reading : Reading) (interrupt : I)
      (f : TurnFails m old e negotiate reading interrupt) → length (begun_in m f) ≤ length (reported_of m f)
  few_begun old e negotiate reading interrupt (inl u) = none_of_none
  few_begun old e negotiate reading interrupt (inr b) = few_broken old b.asked b.done e reading b.breaks

-- ---- rounds

module _ {N I A : Type 0} (m : Manner N I A) where
  pub rounds_answers : (start end : At N I) (ts more : List (Turn N I)) → Rounds m start ts end → AreAnswers m.version m.banded more
      → AreAnswers m.version m.banded (ts ++ more)
  rounds_answers start end [] more r a = a
  rounds_answers start end (t ∷ ts) more r a = (is_answer _ _ _ _ _ r.0.answer, rounds_answers t.after end ts more r.3 a)

  rounds_go_on : (start end : At N I) (ts : List (Turn N I)) → Rounds m start ts end → GoOn ts
  rounds_go_on start end [] r = tt
  rounds_go_on start end (t ∷ ts) r = (r.1, r.2, rounds_go_on t.after end ts r.3)

  rounds_negotiated : (start end : At N I) (ts more : List (Turn N I)) → Rounds m start ts end → AreNegotiated m end more
      → AreNegotiated m start (ts ++ more)
  rounds_negotiated start end [] more r a = subst (λ (x : At N I). AreNegotiated m x more) r a
  rounds_negotiated start end (t ∷ ts) more r a = (r.0.negotiated, r.0.rest, r.0.previous, rounds_negotiated t.after end ts more r.3 a)

  rounds_wrote : (start end : At N I) (new : Reading) (ts more : List (Turn N I)) → Rounds m start ts end
      → WroteRequests end.reading new (requests_of more) → WroteRequests start.reading new (requests_of (ts ++ more))
  rounds_wrote start end new [] more r w = subst (λ (x : At N I). WroteRequests x.reading new (requests_of more)) r w
  rounds_wrote start end new (t ∷ ts) more r w = both_written start.reading t.after.reading new (request_of t ∷ [])
      (requests_of (ts ++ more)) (turn_written m start t r.0) (rounds_wrote t.after end new ts more r.3 w)

-- ---- the pack

view_stopped : (banded : Bool) (r : Reading) → (view banded r).stopped ≡ r.stopped
unfolding view
view_stopped true r = refl
view_stopped false r = refl

runs_on : (found : Pieces → Found) (version : Protocol) (old new : Reading) (value : AnswerValue) → value.pack ≡ true
    → Answered found version old new value → new.stopped ≡ None
runs_on found version old new value e (inl r) = r.running e
runs_on found version old new value e (inr b) = b.stopped

begins_content : (o : Option Pieces) (stopped : Option MessageKind) (end : Side) (read : List ℕ) → stopped ≡ None
    → IfSome o (λ p. Unit {0} → (q : Pieces) × (end.reading.to_come ≡ Some q) × IsFirstOf end q
    × (content_left None stopped p ≡ read ++ side_content end q))
    → IfSome o (λ p. (q : Pieces) × (end.reading.to_come ≡ Some q) × (content_of p ≡ read ++ side_content end q))
begins_content None stopped end read e h = tt
begins_content (Some p) stopped end read e h = let x = h tt in
    (x.0, x.1, subst (λ s. content_left None s p ≡ read ++ side_content end x.0) e x.3)

same_pieces : {x y : Pieces} → Some x ≡ Some y → x ≡ y
same_pieces e = cc

reads_all : (o t : Option Pieces) (end : Side) (read : List ℕ)
    → IfSome o (λ p. (q : Pieces) × (t ≡ Some q) × (content_of p ≡ read ++ side_content end q))
    → IfSome o (λ p. IfSome t (λ q. side_content end q ≡ [] → content_of p ≡ read))
reads_all None t end read h = tt
reads_all (Some p) None end read h = tt
reads_all (Some p) (Some q) end read h = λ e. h.2
    ∙ (ap (λ xs. read ++ xs) (subst (λ x. side_content end x ≡ []) (same_pieces h.1) e) ∙ append-nil read)

module _ {N I A S C P X : Type 0} (parties : Parties N I A S C P X) where
  taken : (c : C) (from : Reading) (d : C) (name asks : GName) (before : P) (returned : Result Bool X) (left : Side) (q : P)
      → from.stopped ≡ None → Consumed parties.consumes c (fresh_side name asks from) before returned d left q
      → TakesPack parties c from returned d left q
  taken c from d name asks before returned left q e h =
      let begins = begins_content from.to_come from.stopped left h.read e h.reads.content in
      record {
        name = name;
        asks = asks;
        before = before;
        took = h.took;
        read = h.read;
        begins = begins;
        all = reads_all from.to_come left.reading.to_come left h.read begins;
        ending = h.reads.ending;
      }

  takes_all : (c : C) (from : Reading) (d : C) (new : Reading) (q : P) → from.stopped ≡ None → Received parties.consumes c from d new q
      → TakesAll parties c from d new q
  takes_all c from d new q e r = record {
    finished = r.finished;
    left = r.mid;
    end = r.end;
    takes = taken c from d r.name r.asks r.p (Ok r.finished) r.mid q e r.consumed;
    drains = λ f. let x = r.finishes.drains f in record { kind = x.kind; stopped = x.stopped; failures = x.failures; rest = x.rest };
    stays = r.finishes.stays;
    back = r.back;
  }

  -- the consumer failed, or the rest after the pack did
  pub refuses_pack : (c : C) (from : Reading) (d : C) (new : Reading) (q : P) (name asks : GName) (p : P) (error : PackFailure X)
      (end : Side)
      → from.stopped ≡ None → PackFails parties.consumes c (fresh_side name asks from) p error d end q
      → GivesBack end new → RefusesPack parties c from error d new q
  refuses_pack c from d new q name asks p (Consumer x) end s f b = (end, taken c from d name asks p (Err x) end q s f, b)
  refuses_pack c from d new q name asks p (Rest x) end s f b = (f.0, end, taken c from d name asks p (Ok true) f.0 q s f.1, f.2, b)

  -- the state before the first round
  abbrev pub begin_at : World N I S C → N → ArgumentsValue → At N I
  begin_at old ready wanted = record {
    negotiate = ready;
    window = first_window (not old.reading.held.persists || is_v2 wanted.version);
    asked = wanted;
    previous = None;
    reading = old.reading;
    interrupt = old.interrupt;
  }

  pub packed_running : (m : Manner N I A) (start : At N I) (rounds : List Round) (updates : List ShallowUpdate) (reply : AnswerValue)
      (end : At N I) → Packed m start rounds updates reply end → end.reading.stopped ≡ None
  packed_running m start rounds updates reply end p = ap (λ (a : At N I). a.reading.stopped) p.position
      ∙ (sym (view_stopped m.banded p.last.after.reading) ∙ runs_on _ _ _ _ _ p.pack p.lasts.answer)

  -- after the first arguments and the lock
  module _ (call : FetchCall) (banded : Bool) (given : ArgumentsValue) (old : World N I S C) (held : S) (first : Bool)
      (prepared : Prepared call.table call.version (features call) call.tags given banded)
      (locks : LocksFirst parties.store_calls.locks (is_change call.fetch_options.shallow) old.store held first) where
    abbrev manner : Manner N I A
    manner = manner_of parties call banded

    abbrev within : World N I S C
    within = record old { store = held; locked = first }

    asks_so : (ids : List ObjectId) (asked : ArgumentsValue) (locked : Bool) (read : S)
        → LocksFirst parties.store_calls.locks (is_change call.fetch_options.shallow) old.store held locked
        → session.OpensFetch parties.store_calls call.fetch_options.shallow held given ids read asked
        → Asks parties call old.store banded ids asked locked read
    asks_so ids asked locked read l o = record {
      raw = prepared.raw;
      values = prepared.values;
      needed = prepared.needed;
      bands = prepared.bands;
      given = given;
      tags = prepared.asks;
      held = held;
      locks = l;
      reads = o.reads;
      depth = o.asks;
    }

    starts_of : (ids : List ObjectId) (read : S) (action : ActionValue) (ready : N) (wanted : ArgumentsValue)
        → Begun parties call.version banded call.fetch_options given within ids read action ready wanted
        → Starts parties call old banded ids action first read (begin_at old ready wanted)
    starts_of ids read action ready wanted b = record {
      asked = b.asked;
      asks = asks_so ids b.asked first read locks b.opened;
      known = b.readied.known;
      marked = b.readied.marked;
      must = b.readied.must;
      marks = b.readied.marks;
      adds = b.readied.adds;
      window = refl;
      previous = refl;
      reading = refl;
      interrupt = refl;
    }

    module _ (lawful : Lawful parties.negotiation_calls.goes parties.negotiation_calls.count)
        (wide : IsWide parties.negotiation_calls.goes) (e : Error A X) (last : World N I S C) (progress : P) where
      abbrev Broken : Type 0
      Broken = BrokenOff parties call old e last progress

      abbrev failed_after : ℕ → Error A X
      failed_after n = Negotiate (NegotiationFailed n)

      broken_by : (ids : List ObjectId) (read : S) (action : ActionValue) (ready : N) (wanted : ArgumentsValue) (rounds : List Round)
          → Begun parties call.version banded call.fetch_options given within ids read action ready wanted
          → Bounded parties.negotiation_calls.goes parties.negotiation_calls.count ready rounds
          → (turns : List (Turn N I)) (before : At N I) → Rounds manner (begin_at old ready wanted) turns before
          → (ends : RoundsBreakOff parties call banded ids old.consumer read first turns before e last progress)
          → rounds ≡ map (λ (t : Turn N I). t.round) turns ++ reported_last parties ends
          → length (one_more parties ends) + length (unanswered parties ends) ≤ length (reported_last parties ends)
          → AreNegotiated manner before (one_more parties ends) → AreAnswers call.version banded (one_more parties ends)
          → WroteRequests before.reading (answered_at parties ends) (requests_of (one_more parties ends)) → Broken
      broken_by ids read action ready wanted rounds b bounded turns before run ends t l g a w = record {
        banded = banded;
        ids = ids;
        action = action;
        locked = first;
        read = read;
        start = begin_at old ready wanted;
        starts = starts_of ids read action ready wanted b;
        turns = turns;
        before = before;
        run = run;
        go_on = rounds_go_on manner (begin_at old ready wanted) before turns run;
        ends = ends;
        negotiated = rounds_negotiated manner (begin_at old ready wanted) before turns (one_more parties ends) run g;
        answers = rounds_answers manner (begin_at old ready wanted) before turns (one_more parties ends) run a;
        requests = rounds_wrote manner (begin_at old ready wanted) before (answered_at parties ends) turns (one_more parties ends) run w;
        haves = subst (λ rs. haves_of rs ≤ parties.negotiation_calls.count ready) t (bounded.haves lawful);
        windows = subst (λ rs. windows_of (but_last rs) ≤ parties.negotiation_calls.count ready) t (bounded.windows lawful);
        few = few_all turns (one_more parties ends) (unanswered parties ends) (reported_last parties ends) rounds
            (parties.negotiation_calls.count ready / 16 + 1) t l (bounded.requests lawful wide);
      }

      broken_rounds : (ids : List ObjectId) (action : ActionValue) (ready : N) (wanted : ArgumentsValue) (rounds : List Round)
          → Begun parties call.version banded call.fetch_options given within ids last.store action ready wanted
          → Bounded parties.negotiation_calls.goes parties.negotiation_calls.count ready rounds → last.locked ≡ first
          → last.consumer ≡ old.consumer
          → RoundsFail manner (begin_at old ready wanted) e rounds last.negotiate last.reading last.interrupt → Broken
      broken_rounds ids action ready wanted rounds b bounded l c (inl f) = by_end f.ends
        where
          unlent_so : Unlent parties old.consumer last.store first last
          unlent_so = record { consumer = c; store = refl; lock = l }

          by_end : Interrupts manner (begin_at old ready wanted) rounds f.end
              ⊎ DoneWithout manner (begin_at old ready wanted) rounds f.end → Broken
          by_end (inl i) = broken_by ids last.store action ready wanted rounds b bounded i.turns i.before i.run
              (by_caller (subst (λ x. parties.polls i.before.interrupt true x) (sym f.asks) i.polled)
              (f.gives ∙ ap failed_after (count_same i.turns rounds f.count f.counted i.reported))
              (record {
                negotiate = f.negotiates ∙ ap (λ (a : At N I). a.negotiate) i.position;
                reading = f.reads
                    ∙ ap (λ (a : At N I). a.reading) i.position;
              }) unlent_so)
              (i.reported ∙ sym (append-nil (map (λ (t : Turn N I). t.round) i.turns))) none_of_none tt tt (none_written i.before.reading)
          by_end (inr d) = broken_by ids last.store action ready wanted rounds b bounded d.turns d.before d.run
              (exhausted d.last d.lasts d.done d.no_pack
              (f.gives ∙ ap failed_after (count_more d.turns d.last.round rounds f.count f.counted d.reported))
              (record {
                negotiate = f.negotiates ∙ ap (λ (a : At N I). a.negotiate) d.position;
                reading = f.reads
                    ∙ ap (λ (a : At N I). a.reading) d.position;
              }) (f.asks ∙ ap (λ (a : At N I). a.interrupt) d.position) unlent_so)
              d.reported one_of_one (d.lasts.negotiated, d.lasts.rest, d.lasts.previous, tt) (is_answer _ _ _ _ _ d.lasts.answer, tt)
              (turn_written manner d.before d.last d.lasts)
      broken_rounds ids action ready wanted rounds b bounded l c (inr (inr f)) =
          broken_by ids last.store action ready wanted rounds b bounded f.turns f.before f.run
          (unnamed f.gives (record { negotiate = f.negotiates; reading = f.reads }) f.asks
          (record { consumer = c; store = refl; lock = l }))
          (f.reported ∙ sym (append-nil (map (λ (t : Turn N I). t.round) f.turns))) none_of_none tt tt (none_written f.before.reading)
      broken_rounds ids action ready wanted rounds b bounded l c (inr (inl f)) =
          let few = add_none _ _ (few_begun manner (record f.before { interrupt = f.asked }) e last.negotiate last.reading last.interrupt
          f.refused) in
          broken_by ids last.store action ready wanted rounds b bounded f.turns f.before f.run
          (at_round f.asked f.polled f.refused (record { consumer = c; store = refl; lock = l })) f.reported few tt tt
          (none_written f.before.reading)

      broken_packed : (ids : List ObjectId) (read : S) (action : ActionValue) (rounds : List Round) (updates : List ShallowUpdate)
          (reply : AnswerValue) (end : At N I)
          → Negotiated parties call.version banded call.fetch_options given within ids read action rounds updates reply end
          → last.negotiate ≡ end.negotiate → last.reading.held ≡ end.reading.held
          → Unpacks parties ids (updates ++ call.fetch_options.reported) call.fetch_options.reject old.consumer read first end.reading e last progress
          → Broken
      broken_packed ids read action rounds updates reply end n g h u =
          let p = n.packed in
          broken_by ids read action n.ready n.wanted rounds n.begun n.bounded p.turns p.before p.run
          (after_pack p.last p.lasts p.pack (g ∙ ap (λ (a : At N I). a.negotiate) p.position)
          (h ∙ ap (λ (a : At N I). a.reading.held) p.position)
          (subst (λ us. Unpacks parties ids
          (us ++ call.fetch_options.reported) call.fetch_options.reject old.consumer read first p.last.after.reading e last progress) p.gathered
          (subst (λ (a : At N I). Unpacks parties ids
          (updates ++ call.fetch_options.reported) call.fetch_options.reject old.consumer read first a.reading e last progress) p.position u)))
          p.reported one_of_one (p.lasts.negotiated, p.lasts.rest, p.lasts.previous, tt) (is_answer _ _ _ _ _ p.lasts.answer, tt)
          (turn_written manner p.before p.last p.lasts)

      unpacks : (ids : List ObjectId) (read : S) (updates : List ShallowUpdate) (from : Reading) → from.stopped ≡ None
          → DeliverFails parties.store_calls parties.consumes ids updates call.fetch_options.reject old.consumer read first from e
          last.consumer last.store last.locked last.reading progress
          → Unpacks parties ids updates call.fetch_options.reject old.consumer read first from e last progress
      unpacks ids read updates from s (session.at_lock u d r) = lacks_lock u r d
      unpacks ids read updates from s (session.at_pack h (inl u)) = untaken h u.error u.gives
          (refuses_pack old.consumer from last.consumer last.reading progress u.name u.asks u.p u.error u.end s u.fails u.back)
      unpacks ids read updates from s (session.at_pack h (inr u)) = lacks_room h u.0 u.2 u.1
      unpacks ids read updates from s (session.at_boundary kept h r u) =
          unwritten kept h (takes_all old.consumer from last.consumer last.reading progress s r) u

      locks_so : last.locked ≡ first → LocksFirst parties.store_calls.locks (is_change call.fetch_options.shallow) old.store held last.locked
      locks_so l = subst (λ b. LocksFirst parties.store_calls.locks (is_change call.fetch_options.shallow) old.store held b) (sym l) locks

      refused : FetchFails parties call.version banded call.fetch_options given within e last progress
          → SessionFails parties call old e last progress
      refused (unopened u n r) = at_depth given banded held prepared (locks_so r.locked) u n
          (record { reading = r.reading; interrupt = r.interrupt; consumer = r.consumer })
      refused (unready ids asked o u r) = at_wants banded ids asked (asks_so ids asked last.locked last.store (locks_so r.locked) o) u
          (record { reading = r.reading; interrupt = r.interrupt; consumer = r.consumer })
      refused (unpacked rounds u l c) = in_session (broken_rounds u.ids u.action u.ready u.wanted rounds u.begun u.bounded l c u.fails)
      refused (untold ids action rounds updates reply end n w g r i l c) =
          in_session (broken_packed ids last.store action rounds updates reply end n g (ap (λ (r : Reading). r.held) r)
          (lacks_memory w r (record { consumer = c; store = refl; lock = l })))
      refused (undelivered ids read action rounds updates reply end n g u) =
          in_session (broken_packed ids read action rounds updates reply end n g (undelivered_held _ _ _ _ _ _ _ _ _ _ _ _ _ _ _ u)
          (unpacks ids read (updates ++ call.fetch_options.reported) end.reading (packed_running manner _ rounds updates reply end n.packed) u))

  module _ (lawful : Lawful parties.negotiation_calls.goes parties.negotiation_calls.count)
      (wide : IsWide parties.negotiation_calls.goes) where
    pub session_held : (call : FetchCall) (old : World N I S C) (result : Result (Option Outcome) (Error A X)) (new : World N I S C)
        (progress : P) → Fetches parties call old result new progress
        → HoldsSession parties call old result new progress
    session_held call old (Err e) new progress (inl u) = inl u
    session_held call old (Err e) new progress (inr h) =
        inr (
          h.last,
          refused call h.banded h.asked old h.held h.first h.prepared h.locks lawful wide e h.last progress h.meets,
          record { releases = h.releases; position = h.position },
        )
    session_held call old (Ok None) new progress h =
        let s = h.meets in (
          h.last,
          record {
            banded = h.banded;
            ids = s.ids;
            asked = s.asked;
            asks = asks_so call h.banded h.asked old h.held h.first h.prepared h.locks s.ids s.asked h.last.locked h.last.store
                (subst (λ b. LocksFirst parties.store_calls.locks (is_change call.fetch_options.shallow) old.store h.held b)
                (sym s.rests.locked) h.locks) s.opened;
            idle = s.idle;
            untouched = record { reading = s.rests.reading; interrupt = s.rests.interrupt; consumer = s.rests.consumer };
          },
          record { releases = h.releases; position = h.position },
        )
    session_held call old (Ok (Some outcome)) new progress h =
        let s = h.meets in
        let n = s.negotiated in
        let p = n.packed in
        let m : Manner N I A = manner_of parties call h.banded in (
          h.last,
          record {
            banded = h.banded;
            ids = s.ids;
            locked = h.first;
            read = s.read;
            start = begin_at old n.ready n.wanted;
            starts = starts_of call h.banded h.asked old h.held h.first h.prepared h.locks s.ids s.read _ n.ready n.wanted n.begun;
            updates = s.updates;
            reply = s.reply;
            end = s.end;
            packed = p;
            go_on = rounds_go_on m _ p.before p.turns p.run;
            negotiated =
                rounds_negotiated m _ p.before p.turns (p.last ∷ []) p.run (p.lasts.negotiated, p.lasts.rest, p.lasts.previous, tt);
            answers = rounds_answers m _ p.before p.turns (p.last ∷ []) p.run (is_answer _ _ _ _ _ p.lasts.answer, tt);
            requests = held_written old.reading p.last.after.reading h.last.reading _
                (rounds_wrote m _ p.before p.last.after.reading p.turns (p.last ∷ []) p.run (turn_written m p.before p.last p.lasts))
                (received_held _ _ _ _ _ _ s.delivered.received ∙ ap (λ (a : At N I). a.reading.held) p.position);
            haves = n.bounded.haves lawful;
            windows = n.bounded.windows lawful;
            few = few_packed p.turns p.last _ _ p.reported (n.bounded.requests lawful wide);
            polls = s.answers
                ∙ ap (λ (a : AnswerValue). record a { shallow_updates = a.shallow_updates ++ call.fetch_options.reported }) p.answer;
            position = s.position;
            held = s.delivered.held;
            holds = s.delivered.holds;
            pack = takes_all old.consumer s.end.reading h.last.consumer h.last.reading progress
                (packed_running m _ _ _ _ s.end p) s.delivered.received;
            settles = s.delivered.settles;
          },
          record { releases = h.releases; position = h.position },
        )
