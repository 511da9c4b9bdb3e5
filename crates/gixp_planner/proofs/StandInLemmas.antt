-- A fetch over a negotiation that stands for another, whose calls do what those of the other do, is one over the other.
use Rattle.std.proofs.Common.{◌≡◌, ◌⊎◌, ◌+◌, ◌/◌, ◌≤◌, length, Bool, true, false, List, [], ◌∷◌, ◌++◌, map, Option, Some, None, Result, Ok, Err, inl, inr, refl, sym, ap, ◌∙◌, subst}
use Rattle.gixp_packetline.specs.declared.protocol.Protocol.{Protocol}
use Rattle.gixp_packetline.specs.Reading.{Reading}
use Rattle.gixp_sidebands.specs.Bands.{Side}
use Rattle.gixp_response.specs.Answer.{AnswerValue}
use Rattle.gixp_shallow.specs.declared.update.ShallowUpdate.{ShallowUpdate}
use Rattle.gixp_requests.specs.Arguments.{ArgumentsValue}
use Rattle.gixp_negotiate.specs.declared.negotiate.Round.{Round}
use Rattle.gixp_negotiate.specs.declared.negotiate.Error.{Error as NegotiateError}
use Rattle.gixp_hash.specs.declared.object_id.ObjectId.{ObjectId}
use Rattle.gixp_negotiate.specs.Negotiate.{ActionValue, action_value, negotiate, Window, NegotiationCalls, Lawful, IsWide}
use Rattle.gixp_fetch.specs.declared.error.Error.{Error as FetchError}
use Rattle.gixp_fetch.specs.declared.options.Outcome.{Outcome}
use Rattle.gixp_shallow.specs.Store.{StoreCalls}
use Rattle.gixp_fetch.specs.Bound.{Bounded, but_last}
use Rattle.gixp_fetch.specs.Session.{MakesReady, Idle, ReadyFails}
use Rattle.gixp_fetch.specs.FetchRounds.{At, Turn, Manner, manner_of, Turns, Rounds, updates_of, Packed, DoneWithout, Interrupts, TurnFails, Breaks, AsksBroken, reported_of, RoundsFail, before_request, at_request, after_request, at_answer, after_answer, haves_of, windows_of}
use Rattle.gixp_fetch.specs.Fetch.{World, Parties, parties_of, FetchOptions, start, Begun, Negotiated, Rests, FetchFails, unopened, unready, unpacked, untold, undelivered, SessionEnds}
use Rattle.gixp_fetch.specs.Fetched.{FetchCall, CarriesOut, StartFails, unprepared, unlocked, Fetches}

module _ {N M A : Type 0} (calls : NegotiationCalls N A) (others : NegotiationCalls M A) (f : N → M) (Begins Stays : N → Type 0) where
  -- each call does what the other does, of what it stands for: the first two of what begins, and rounds of all
  pub record ErrorIs : Type 0 where
    pub begun : (n : N) → Begins n → Stays n
    pub count : (n : N) → calls.count n ≡ others.count (f n)
    pub marks : (n : N) (action : ActionValue) (m : N) → Begins n → calls.marks n action m → others.marks (f n) action (f m) × Begins m
    pub adds : (n : N) (known : List Bool) (a : ArgumentsValue) (any : Bool) (b : ArgumentsValue) (m : N) → Begins n
        → calls.adds n known a any b m → others.adds (f n) known a any b (f m) × Stays m
    pub goes : (n : N) (s : Window) (a : ArgumentsValue) (p : Option AnswerValue) (r : Round) (d : Bool) (m : N) (t : Window)
        (b : ArgumentsValue) → calls.goes n s a p r d m t b → others.goes (f n) s a p r d (f m) t b × (Stays n → Stays m)
    pub marking_fails : (n : N) (e : NegotiateError A) (m : N) → Begins n → calls.marking_fails n e m
        → others.marking_fails (f n) e (f m) × Stays m
    pub adding_fails : (n : N) (known : List Bool) (a : ArgumentsValue) (e : NegotiateError A) (b : ArgumentsValue) (m : N) → Begins n
        → calls.adding_fails n known a e b m → others.adding_fails (f n) known a e b (f m) × Stays m
    pub round_fails : (n : N) (s : Window) (a : ArgumentsValue) (p : Option AnswerValue) (e : NegotiateError A) (m : N) (t : Window)
        (b : ArgumentsValue) → calls.round_fails n s a p e m t b → others.round_fails (f n) s a p e (f m) t b × (Stays n → Stays m)

  -- so the rounds of the one pay for their haves where those of the other do
  lawful : ErrorIs → Lawful others.goes others.count → Lawful calls.goes calls.count
  lawful k l = record {
    lowers = λ n s a p r d m t b g.
        subst (λ c. c + r.haves_sent ≤ calls.count n) (sym (k.count m)) (subst (λ c. others.count (f m) + r.haves_sent ≤ c)
        (sym (k.count n)) (l.lowers (f n) s a p r d (f m) t b (k.goes n s a p r d m t b g).0));
    fills = λ n s a p r m t b g. l.fills (f n) s a p r (f m) t b (k.goes n s a p r false m t b g).0;
  }

  wide : ErrorIs → IsWide others.goes → IsWide calls.goes
  wide k w = record { wide = λ n s a p r m t b h g. w.wide (f n) s a p r (f m) t b h (k.goes n s a p r false m t b g).0 }

  bounded : ErrorIs → (first : N) (rounds : List Round) → Bounded calls.goes calls.count first rounds
      → Bounded others.goes others.count (f first) rounds
  bounded k first rounds b = record {
    haves = λ l. subst (λ c. haves_of rounds ≤ c) (k.count first) (b.haves (lawful k l));
    windows = λ l. subst (λ c. windows_of (but_last rounds) ≤ c) (k.count first) (b.windows (lawful k l));
    requests = λ l w. subst (λ c. length rounds ≤ c / 16 + 1) (k.count first) (b.requests (lawful k l) (wide k w));
  }

-- what such states stand for
abbrev at_of : {N M I : Type 0} → (N → M) → At N I → At M I
at_of f a = record {
  negotiate = f a.negotiate;
  window = a.window;
  asked = a.asked;
  previous = a.previous;
  reading = a.reading;
  interrupt = a.interrupt;
}

abbrev turn_of : {N M I : Type 0} → (N → M) → Turn N I → Turn M I
turn_of f t = record { asked = t.asked; round = t.round; done = t.done; sent = t.sent; reply = t.reply; after = at_of f t.after }

abbrev pub world_of : {N M I S C : Type 0} → (N → M) → World N I S C → World M I S C
world_of f w = record {
  negotiate = f w.negotiate;
  reading = w.reading;
  interrupt = w.interrupt;
  store = w.store;
  locked = w.locked;
  consumer = w.consumer;
}

rounds_told : {N M I : Type 0} (f : N → M) (ts : List (Turn N I)) → map (λ t. t.round) (map (turn_of f) ts) ≡ map (λ t. t.round) ts
rounds_told f [] = refl
rounds_told f (t ∷ ts) = ap (λ rs. t.round ∷ rs) (rounds_told f ts)

module _ {N M I A : Type 0} (calls : NegotiationCalls N A) (others : NegotiationCalls M A) (f : N → M) (Begins Stays : N → Type 0)
    (k : ErrorIs calls others f Begins Stays) (polls : I → Bool → I → Type 0) (version : Protocol) (banded plain : Bool) where
  abbrev own : Manner N I A
  own = manner_of calls polls version banded plain

  abbrev other : Manner M I A
  other = manner_of others polls version banded plain

  updates_told : (ts : List (Turn N I)) → updates_of other (map (turn_of f) ts) ≡ updates_of own ts
  updates_told [] = refl
  updates_told (t ∷ ts) = ap (λ us. t.reply.shallow_updates ++ us) (updates_told ts)

  turns : (old : At N I) (t : Turn N I) → Turns own old t → Turns other (at_of f old) (turn_of f t)
  turns old t h = record {
    asks = h.asks;
    negotiated = (k.goes old.negotiate old.window old.asked old.previous t.round t.done t.after.negotiate t.after.window t.asked
        h.negotiated).0;
    sends = h.sends;
    rest = h.rest;
    answer = h.answer;
    held = h.held;
    previous = h.previous;
  }

  turn_stays : (old : At N I) (t : Turn N I) → Turns own old t → Stays old.negotiate → Stays t.after.negotiate
  turn_stays old t h = (k.goes old.negotiate old.window old.asked old.previous t.round t.done t.after.negotiate t.after.window t.asked
      h.negotiated).1

  rounds : (old : At N I) (ts : List (Turn N I)) (new : At N I) → Rounds own old ts new
      → Rounds other (at_of f old) (map (turn_of f) ts) (at_of f new)
  rounds old [] new e = ap (at_of f) e
  rounds old (t ∷ ts) new h = (turns old t h.0, h.1, h.2, rounds t.after ts new h.3)

  rounds_stay : (old : At N I) (ts : List (Turn N I)) (new : At N I) → Rounds own old ts new → Stays old.negotiate
      → Stays new.negotiate
  rounds_stay old [] new e s = subst (λ (a : At N I). Stays a.negotiate) (sym e) s
  rounds_stay old (t ∷ ts) new h s = rounds_stay t.after ts new h.3 (turn_stays old t h.0 s)

  module _ (start : At N I) where
    packed : (reported : List Round) (updates : List ShallowUpdate) (reply : AnswerValue) (end : At N I)
        → Packed own start reported updates reply end → Packed other (at_of f start) reported updates reply (at_of f end)
    packed reported updates reply end p = record {
      turns = map (turn_of f) p.turns;
      before = at_of f p.before;
      last = turn_of f p.last;
      run = rounds start p.turns p.before p.run;
      lasts = turns p.before p.last p.lasts;
      pack = p.pack;
      answer = p.answer;
      reported = p.reported ∙ ap (λ rs. rs ++ p.last.round ∷ []) (sym (rounds_told f p.turns));
      gathered = p.gathered ∙ ap (λ us. us ++ p.last.reply.shallow_updates) (sym (updates_told p.turns));
      position = ap (at_of f) p.position;
    }

    packed_stays : (reported : List Round) (updates : List ShallowUpdate) (reply : AnswerValue) (end : At N I)
        → Packed own start reported updates reply end → Stays start.negotiate → Stays end.negotiate
    packed_stays reported updates reply end p s = subst (λ (a : At N I). Stays a.negotiate) (sym p.position)
        (turn_stays p.before p.last p.lasts (rounds_stay start p.turns p.before p.run s))

    stopped : (reported : List Round) (end : At N I) → Interrupts own start reported end → Interrupts other (at_of f start) reported (at_of f end)
    stopped reported end p = record {
      turns = map (turn_of f) p.turns;
      before = at_of f p.before;
      run = rounds start p.turns p.before p.run;
      polled = p.polled;
      reported = p.reported ∙ sym (rounds_told f p.turns);
      position = ap (at_of f) p.position;
    }

    stopped_stays : (reported : List Round) (end : At N I) → Interrupts own start reported end → Stays start.negotiate → Stays end.negotiate
    stopped_stays reported end p s =
        subst (λ (a : At N I). Stays a.negotiate) (sym p.position) (rounds_stay start p.turns p.before p.run s)

    without : (reported : List Round) (end : At N I) → DoneWithout own start reported end → DoneWithout other (at_of f start) reported (at_of f end)
    without reported end p = record {
      turns = map (turn_of f) p.turns;
      before = at_of f p.before;
      last = turn_of f p.last;
      run = rounds start p.turns p.before p.run;
      lasts = turns p.before p.last p.lasts;
      done = p.done;
      no_pack = p.no_pack;
      reported = p.reported ∙ ap (λ rs. rs ++ p.last.round ∷ []) (sym (rounds_told f p.turns));
      position = ap (at_of f) p.position;
    }

    without_stays : (reported : List Round) (end : At N I) → DoneWithout own start reported end → Stays start.negotiate → Stays end.negotiate
    without_stays reported end p s = subst (λ (a : At N I). Stays a.negotiate) (sym p.position)
        (turn_stays p.before p.last p.lasts (rounds_stay start p.turns p.before p.run s))

    ended : (reported : List Round) (end : At N I) → Interrupts own start reported end ⊎ DoneWithout own start reported end
        → (Interrupts other (at_of f start) reported (at_of f end) ⊎ DoneWithout other (at_of f start) reported (at_of f end))
        × (Stays start.negotiate → Stays end.negotiate)
    ended reported end (inl s) = (inl (stopped reported end s), stopped_stays reported end s)
    ended reported end (inr s) = (inr (without reported end s), without_stays reported end s)

  module _ {E : Type 0} where
    breaks : (old : At N I) (asked : ArgumentsValue) (done : Bool) (e : FetchError A E) (reading : Reading)
        → Breaks own old asked done e reading → Breaks other (at_of f old) asked done e reading
    breaks old asked done e reading (before_request w r) = before_request w r
    breaks old asked done e reading (at_request error s g) = at_request error s g
    breaks old asked done e reading (after_request s w) = after_request s w
    breaks old asked done e reading (at_answer sent s error a h g) = at_answer sent s error a h g
    breaks old asked done e reading (after_answer sent s reply a h w) = after_answer sent s reply a h w

    asks_broken : (old : At N I) (asked : ArgumentsValue) (done : Bool) (e : FetchError A E) (reading : Reading)
        (i : I) (b : Breaks own old asked done e reading) → AsksBroken own b i → AsksBroken other (breaks old asked done e reading b) i
    unfolding breaks
    asks_broken old asked done e reading i (before_request w r) k = k
    asks_broken old asked done e reading i (at_request error s g) k = k
    asks_broken old asked done e reading i (after_request s w) k = k
    asks_broken old asked done e reading i (at_answer sent s error a h g) k = k
    asks_broken old asked done e reading i (after_answer sent s reply a h w) k = k

    -- a round that is refused, what it told by then, and what stays
    record Refused (old : At N I) (e : FetchError A E) (n : N) (reading : Reading) (i : I) (refused : TurnFails own old e n reading i)
        : Type 0 where
      pub fails : TurnFails other (at_of f old) e (f n) reading i
      pub reported : reported_of own refused ≡ reported_of other fails
      pub stays : Stays old.negotiate → Stays n

    refused : (old : At N I) (e : FetchError A E) (n : N) (reading : Reading) (i : I) (h : TurnFails own old e n reading i)
        → Refused old e n reading i h
    refused old e n reading i (inl u) =
        let r = k.round_fails old.negotiate old.window old.asked old.previous u.error n u.window u.asked u.refused in
        record {
          fails = inl (record {
            error = u.error;
            own = u.own;
            window = u.window;
            asked = u.asked;
            refused = r.0;
            gives = u.gives;
            position = u.position;
            unasked = u.unasked;
          });
          reported = refl;
          stays = r.1;
        }
    refused old e n reading i (inr b) =
        let r = k.goes old.negotiate old.window old.asked old.previous b.round b.done n b.window b.asked b.negotiated in
        record {
          fails = inr (record {
            asked = b.asked;
            round = b.round;
            done = b.done;
            window = b.window;
            negotiated = r.0;
            breaks = breaks old b.asked b.done e reading b.breaks;
            asks = asks_broken old b.asked b.done e reading i b.breaks b.asks;
          });
          reported = refl;
          stays = r.1;
        }

    rounds_fail : (start : At N I) (e : FetchError A E) (reported : List Round) (n : N) (reading : Reading) (i : I)
        → RoundsFail own start e reported n reading i
        → RoundsFail other (at_of f start) e reported (f n) reading i × (Stays start.negotiate → Stays n)
    rounds_fail start e reported n reading i (inl h) =
        let x = ended start reported h.end h.ends in (
          inl (record {
            count = h.count;
            end = at_of f h.end;
            gives = h.gives;
            counted = h.counted;
            ends = x.0;
            negotiates = ap f h.negotiates;
            reads = h.reads;
            asks = h.asks;
          }),
          λ s. subst Stays (sym h.negotiates) (x.1 s),
        )
    rounds_fail start e reported n reading i (inr (inr u)) = (
      inr (inr (record {
        turns = map (turn_of f) u.turns;
        before = at_of f u.before;
        run = rounds start u.turns u.before u.run;
        gives = u.gives;
        reported = u.reported ∙ sym (rounds_told f u.turns);
        negotiates = ap f u.negotiates;
        reads = u.reads;
        asks = u.asks;
      })),
      λ s. subst Stays (sym u.negotiates) (rounds_stay start u.turns u.before u.run s),
    )
    rounds_fail start e reported n reading i (inr (inl l)) =
        let r = refused (record l.before { interrupt = l.asked }) e n reading i l.refused in (
          inr (inl (record {
            turns = map (turn_of f) l.turns;
            before = at_of f l.before;
            run = rounds start l.turns l.before l.run;
            asked = l.asked;
            polled = l.polled;
            refused = r.fails;
            reported = l.reported ∙ ap (λ rs. rs ++ reported_of own l.refused) (sym (rounds_told f l.turns))
                ∙ ap (λ rs. map (λ t. t.round) (map (turn_of f) l.turns) ++ rs) r.reported;
          })),
          λ h. r.stays (rounds_stay start l.turns l.before l.run h),
        )

module _ {N M I A S C P X : Type 0} (calls : NegotiationCalls N A) (others : NegotiationCalls M A) (f : N → M)
    (Begins Stays : N → Type 0) (k : ErrorIs calls others f Begins Stays) (store_calls : StoreCalls S)
    (polls : I → Bool → I → Type 0) (consumes : C → Side → P → Result Bool X → C → Side → P → Type 0) (plain : Bool) where
  abbrev ours : Parties N I A S C P X
  ours = parties_of calls store_calls polls consumes plain

  abbrev theirs : Parties M I A S C P X
  theirs = parties_of others store_calls polls consumes plain

  made_ready : (first : N) (given : ArgumentsValue) (action : ActionValue) (ready : N) (wanted : ArgumentsValue) → Begins first
      → MakesReady calls first given action ready wanted
      → MakesReady others (f first) given action (f ready) wanted × Stays ready
  made_ready first given action ready wanted b h =
      let m = k.marks first action h.marked b h.marks in
      let a = k.adds h.marked h.known given true wanted ready m.1 h.adds in
      (record { known = h.known; marked = f h.marked; must = h.must; marks = m.0; adds = a.0 }, a.1)

  idled : (first : N) (given : ArgumentsValue) (last : N) → Begins first → Idle calls first given last
      → Idle others (f first) given (f last) × Stays last
  idled first given last b h =
      let m = k.marks first h.action h.marked b h.marks in
      elim h.idle [
        | inl e ↦ (
          record { action = h.action; marked = f h.marked; marks = m.0; idle = inl (e.0, ap f e.1) },
          subst Stays (sym e.1) (k.begun h.marked m.1),
        )
        | inr e ↦ let a = k.adds h.marked e.0 given false e.1 last m.1 e.3 in
            (record { action = h.action; marked = f h.marked; marks = m.0; idle = inr (e.0, e.1, e.2, a.0) }, a.1)
      ]

  ready_fails : (first : N) (given : ArgumentsValue) (e : FetchError A X) (last : N) → Begins first
      → ReadyFails calls first given e last → ReadyFails others (f first) given e (f last) × Stays last
  ready_fails first given e last b (inl u) = let r = k.marking_fails first u.error last b u.refused in
      (inl (record { error = u.error; own = u.own; refused = r.0; gives = u.gives }), r.1)
  ready_fails first given e last b (inr u) =
      let m = k.marks first (negotiate u.known) u.marked b u.marks in
      let r = k.adding_fails u.marked u.known given u.error u.asked last m.1 u.refused in (
        inr (record {
          known = u.known;
          marked = f u.marked;
          marks = m.0;
          asked = u.asked;
          error = u.error;
          own = u.own;
          refused = r.0;
          gives = u.gives;
        }),
        r.1,
      )

  module _ (version : Protocol) (banded : Bool) (fetch_options : FetchOptions) (given : ArgumentsValue) (old : World N I S C)
      (begins : Begins old.negotiate) where
    begun : (ids : List ObjectId) (read : S) (action : ActionValue) (ready : N) (wanted : ArgumentsValue)
        → Begun ours version banded fetch_options given old ids read action ready wanted
        → Begun theirs version banded fetch_options given (world_of f old) ids read action (f ready) wanted × Stays ready
    begun ids read action ready wanted h =
        let r = made_ready old.negotiate h.asked action ready wanted begins h.readied in
        (record { asked = h.asked; opened = h.opened; readied = r.0 }, r.1)

    negotiated : (ids : List ObjectId) (read : S) (action : ActionValue) (reported : List Round) (updates : List ShallowUpdate)
        (reply : AnswerValue) (end : At N I)
        → Negotiated ours version banded fetch_options given old ids read action reported updates reply end
        → Negotiated theirs version banded fetch_options given (world_of f old) ids read action reported updates reply (at_of f end)
        × Stays end.negotiate
    negotiated ids read action reported updates reply end h =
        let b = begun ids read action h.ready h.wanted h.begun in
        let from = start ours version banded fetch_options given old h.ready h.wanted in (
          record {
            ready = f h.ready;
            wanted = h.wanted;
            begun = b.0;
            packed = packed calls others f Begins Stays k polls version banded plain from reported updates reply end h.packed;
            bounded = bounded calls others f Begins Stays k h.ready reported h.bounded;
          },
          packed_stays calls others f Begins Stays k polls version banded plain from reported updates reply end h.packed b.1,
        )

    rests : (new : World N I S C) → Rests ours version banded fetch_options given old new
        → Rests theirs version banded fetch_options given (world_of f old) (world_of f new)
    rests new h = record { reading = h.reading; interrupt = h.interrupt; locked = h.locked; consumer = h.consumer }

    fails : (e : FetchError A X) (new : World N I S C) (progress : P)
        → FetchFails ours version banded fetch_options given old e new progress
        → FetchFails theirs version banded fetch_options given (world_of f old) e (world_of f new) progress × Stays new.negotiate
    fails e new progress (unopened o n r) =
        (unopened o (ap f n) (rests new r), subst Stays (sym n) (k.begun old.negotiate begins))
    fails e new progress (unready ids asked o h r) = let x = ready_fails old.negotiate asked e new.negotiate begins h in
        (unready ids asked o x.0 (rests new r), x.1)
    fails e new progress (unpacked reported u l c) =
        let b = begun u.ids new.store u.action u.ready u.wanted u.begun in
        let x = rounds_fail calls others f Begins Stays k polls version banded plain
        (start ours version banded fetch_options given old u.ready u.wanted) e reported new.negotiate new.reading new.interrupt u.fails in (
          unpacked reported (record {
            ids = u.ids;
            action = u.action;
            ready = f u.ready;
            wanted = u.wanted;
            begun = b.0;
            fails = x.0;
            bounded = bounded calls others f Begins Stays k u.ready reported u.bounded;
          }) l c,
          x.1 b.1,
        )
    fails e new progress (untold ids action reported updates reply end g m n r i l c) =
        let x = negotiated ids new.store action reported updates reply end g in
        (untold ids action reported updates reply (at_of f end) x.0 m (ap f n) r i l c, subst Stays (sym n) x.1)
    fails e new progress (undelivered ids read action reported updates reply end g n d) =
        let x = negotiated ids read action reported updates reply end g in
        (undelivered ids read action reported updates reply (at_of f end) x.0 (ap f n) d, subst Stays (sym n) x.1)

    session_ends : (r : Result (Option Outcome) (FetchError A X)) (new : World N I S C) (progress : P)
        → SessionEnds ours version banded fetch_options given old r new progress
        → SessionEnds theirs version banded fetch_options given (world_of f old) r (world_of f new) progress × Stays new.negotiate
    session_ends (Ok (Some out)) new progress h =
        let x = negotiated h.ids h.read (action_value out.negotiate.action) out.negotiate.rounds.items h.updates h.reply h.end
        h.negotiated in (
          record {
            ids = h.ids;
            read = h.read;
            updates = h.updates;
            reply = h.reply;
            end = at_of f h.end;
            negotiated = x.0;
            position = ap f h.position;
            answers = h.answers;
            delivered = h.delivered;
          },
          subst Stays (sym h.position) x.1,
        )
    session_ends (Ok None) new progress h = let x = idled old.negotiate h.asked new.negotiate begins h.idle in
        (record { ids = h.ids; asked = h.asked; opened = h.opened; idle = x.0; rests = rests new h.rests }, x.1)
    session_ends (Err e) new progress h = fails e new progress h

  module _ (call : FetchCall) (old : World N I S C) (begins : Begins old.negotiate) where
    carries_out : (r : Result (Option Outcome) (FetchError A X)) (new : World N I S C) (progress : P)
        → CarriesOut ours call old r new progress → CarriesOut theirs call (world_of f old) r (world_of f new) progress
        × Stays new.negotiate
    carries_out r new progress h =
        let x = session_ends call.version h.banded call.fetch_options h.asked (record old { store = h.held; locked = h.first }) begins r h.last
        progress h.meets in (
          record {
            asked = h.asked;
            banded = h.banded;
            held = h.held;
            first = h.first;
            last = world_of f h.last;
            prepared = h.prepared;
            locks = h.locks;
            meets = x.0;
            releases = h.releases;
            position = ap (world_of f) h.position;
          },
          subst (λ (w : World N I S C). Stays w.negotiate) (sym h.position) x.1,
        )

    start_fails : (e : FetchError A X) (new : World N I S C) → StartFails ours call old e new
        → StartFails theirs call (world_of f old) e (world_of f new) × Stays new.negotiate
    start_fails e new (unprepared p s) = (
      unprepared p (ap (world_of f) s),
      subst (λ (w : World N I S C). Stays w.negotiate) (sym s) (k.begun old.negotiate begins),
    )
    start_fails e new (unlocked asked banded p m l s) = (
      unlocked asked banded p m l (ap (world_of f) s),
      subst (λ (w : World N I S C). Stays w.negotiate) (sym s) (k.begun old.negotiate begins),
    )

    -- a whole fetch
    pub stands_in : (r : Result (Option Outcome) (FetchError A X)) (new : World N I S C) (progress : P)
        → Fetches ours call old r new progress → Fetches theirs call (world_of f old) r (world_of f new) progress × Stays new.negotiate
    stands_in (Ok o) new progress h = carries_out (Ok o) new progress h
    stands_in (Err e) new progress (inl h) = let x = start_fails e new h in (inl x.0, x.1)
    stands_in (Err e) new progress (inr h) = let x = carries_out (Err e) new progress h in (inr x.0, x.1)
