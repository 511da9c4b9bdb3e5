-- Two fetches of the planner over the same mappings, refused ones too, whose negotiators offer the same list: nothing is asked for, or
-- they break off at the same round, or both come to a pack, which both take or both don't.
use Rattle.std.proofs.Common.{◌≡◌, ◌⊎◌, ℕ, Bool, true, false, not, List, [], ◌∷◌, ◌++◌, map, codes, Option, Some, None, Result, Ok, Err, inl, inr, refl, sym, ap, ◌∙◌, subst, arith}
use Rattle.std.specs.Prelude.{if◌then◌else◌, ◌&&◌}
use Rattle.gixp_hash.specs.declared.object_id.ObjectId.{ObjectId}
use Rattle.gixp_packetline.specs.declared.protocol.Protocol.{Protocol}
use Rattle.gixp_packetline.specs.declared.read.Error.{Error as read_error}
use Rattle.gixp_packetline.specs.Reading.{Reading, refusal_of}
use Rattle.gixp_capabilities.specs.Capabilities.{CapabilityValue}
use Rattle.gixp_sidebands.specs.Bands.{Side, side_reading}
use Rattle.gixp_response.specs.declared.fetch.response.error.Error.{Error as response_error}
use Rattle.gixp_response.specs.declared.fetch.response.error.Error.TheVariants as response
use Rattle.gixp_shallow.specs.declared.update.ShallowUpdate.{ShallowUpdate}
use Rattle.gixp_response.specs.Answer.{AnswerValue}
use Rattle.gixp_response.specs.Features.{Feature, feature_names, missing_name, missing_feature, Misses}
use Rattle.gixp_requests.specs.Feature.{FeatureValue, feature_values}
use Rattle.gixp_requests.specs.Command.{git_table}
use Rattle.gixp_requests.specs.Arguments.{ArgumentsValue, can_use}
use Rattle.gixp_handshake.specs.declared.handshake.read.Handshake.{Handshake}
use Rattle.gixp_negotiate.specs.declared.negotiate.Round.{Round}
use Rattle.gixp_negotiate.specs.Negotiate.{ActionValue}
use Rattle.gixp_fetch.specs.declared.consume.copy.CopyError.{CopyError}
use Rattle.gixp_fetch.specs.declared.error.Error.{Error as FetchError}
use Rattle.gixp_fetch.specs.declared.error.Error.TheVariants as fetch
use Rattle.gixp_fetch.specs.declared.options.Outcome.{Outcome}
use Rattle.gixp_shallow.specs.declared.store.ShallowError.{ShallowError}
use Rattle.gixp_shallow.specs.declared.store.ShallowError.TheVariants as shallow
use Rattle.gixp_fetch.specs.FetchError.{of_response, of_negotiate, of_lock, of_store_read, of_write}
use Rattle.gixp_fetch.specs.FetchRounds.{At, Manner, manner_of}
use Rattle.gixp_fetch.specs.FetchShallow.{no_change, shallow_asks, IsMissing}
use Rattle.gixp_fetch.specs.Prepare.{features_of, no_room, unneeded, untagged}
use Rattle.gixp_fetch.specs.Receive.{Consumed, DrainFails}
use Rattle.gixp_fetch.specs.Received.{PackRefused, ReceiveFails}
use Rattle.gixp_fetch.specs.Session.{OpensFetch, OpenFails, ReadyFails, UnheldBy, BoundaryWriteFails, is_any, at_lock, at_pack, at_boundary, DeliverFails}
use Rattle.gixp_fetch.specs.Fetch.{World, Parties, FetchOptions, Begun, Negotiated, FetchFails, unopened, unready, unpacked, untold, undelivered, SessionEnds}
use Rattle.gixp_fetch.specs.Fetched.{CarriesOut, StartFails, unprepared, unlocked}
use Rattle.gixp_fetch.proofs.SessionLemmas.{received_held, undelivered_held}
use Rattle.gixp_fetch.proofs.SentLemmas.{rounds_written}
use Rattle.gixp_planner.specs.Refusal.{PlanRefusal, refusal}
use Rattle.gixp_planner.specs.Session.{planner_agent, planner_call, end_of, FetchesOver, FetchesMapped}
use Rattle.gixp_planner.specs.Alike.{IsDisturbed, IsUndisturbed}
use Rattle.gixp_planner.proofs.MappedLemmas.{HoldAlike, same-ok}
use Rattle.gixp_planner.proofs.WantLemmas.{Basis, SameBasis}
use Rattle.gixp_planner.proofs.CountLemmas.{CountsNone, back-failures, received-failures}
use Rattle.gixp_planner.proofs.FetchLemmas.{OffersList, readied-asks, first_asks, bands, start_of, Began, Rested, starts-alike, first-rests, other-rests}
use Rattle.gixp_planner.proofs.PackEndLemmas.{EndsWithPack, pack-ended, FollowsPack, fails-none, taken-ends, refused-ends}
use Rattle.gixp_planner.proofs.VerdictLemmas.{by_pack, EndsBy, Ran, last-turn, own-disturbs, rounds-fail, runs-alike}

-- ---- what isn't counted

module _ {C P : Type 0} (consumes : C → Side → P → Result Bool CopyError → C → Side → P → Type 0) (none : CountsNone consumes)
    (follows : FollowsPack consumes) where
  -- by the consumer, or by what comes after the pack
  consumer-none : (c : C) (start : Side) (p : P) (x : CopyError) (d : C) (end : Side) (q : P) → Consumed consumes c start p (Err x) d end q
      → end.reading.failures ≡ 0 → start.reading.failures ≡ 0
  consumer-none c start p x d end q h z = follows.counts c start p x d end q h.took z

  rest-none : (c : C) (start : Side) (p : P) (x : read_error) (d : C) (end : Side) (q : P) (mid : Side)
      → Consumed consumes c start p (Ok true) d mid q → DrainFails (side_reading mid) (side_reading end) x → end.reading.failures ≡ 0
      → start.reading.failures ≡ 0
  rest-none c start p x d end q mid h f z = sym (none c start p true d mid q h.took) ∙ sym f.passed.failures
      ∙ (fails-none f.now (side_reading end) (refusal_of x) f.refused z).1

  -- of both, whatever the pack was refused for
  pack-none : {A : Type 0} (c : C) (from : Reading) (e : FetchError A CopyError) (d : C) (new : Reading) (q : P)
      (r : PackRefused consumes c from e d new q) → r.end.reading.failures ≡ 0 → from.failures ≡ 0
  pack-none c from e d new q r z = let h = r.fails in grind (arith, consumer-none, rest-none)

  received-none : {A : Type 0} (c : C) (from : Reading) (e : FetchError A CopyError) (d : C) (new : Reading) (q : P)
      → ReceiveFails consumes c from e d new q → new.failures ≡ 0 → from.failures ≡ 0
  received-none c from e d new q (inl r) z = pack-none c from e d new q r (sym (back-failures r.end new r.back) ∙ z)
  received-none c from e d new q (inr m) z = ap (λ (r : Reading). r.failures) (sym m.2) ∙ z

-- ---- errors

module _ {A : Type 0} where
  abbrev Chance : FetchError A CopyError → Type 0
  Chance e = IsDisturbed e ⊎ (e ≡ fetch.Memory)

  locks-disturb : (e : ShallowError) → Chance (of_lock e)
  locks-disturb (shallow.Io kind) = inl tt
  locks-disturb shallow.Locked = inl tt
  locks-disturb (shallow.Decode l) = inl tt
  locks-disturb shallow.Memory = inr refl

  reads-disturb : (e : ShallowError) → Chance (of_store_read e)
  reads-disturb (shallow.Io kind) = inl tt
  reads-disturb shallow.Locked = inl tt
  reads-disturb (shallow.Decode l) = inl tt
  reads-disturb shallow.Memory = inr refl

  writes-disturb : (e : ShallowError) → Chance (of_write e)
  writes-disturb (shallow.Io kind) = inl tt
  writes-disturb shallow.Locked = inl tt
  writes-disturb (shallow.Decode l) = inl tt
  writes-disturb shallow.Memory = inr refl

-- a feature that is missing
missing-named : (A : Type 0) (name : List ℕ) (e : response_error) → Misses (Some name) (Err e)
    → end_of {A = A} {X = CopyError} (Err (of_response e)) ≡ Err (refusal (codes "fetch") (codes "FetchResponse"))
missing-named A name (response.Io kind) m = refl
missing-named A name (response.UploadPack s) m = refl
missing-named A name (response.Transport c) m = refl
missing-named A name (response.MissingServerCapability f) m = refl
missing-named A name (response.UnknownLineType l) m = refl
missing-named A name (response.UnknownSectionHeader h) m = refl
missing-named A name (response.Reader r) m = refl
missing-named A name response.Memory m = cc

-- the names of features are those of their values
names-of : (raw : List Feature) → feature_names raw ≡ map (λ (f : FeatureValue). f.name) (feature_values raw)
names-of [] = refl
names-of (f ∷ fs) = ap (λ ns. f.0.now ∷ ns) (names-of fs)

-- the feature that the planner's fetch lacks, if it lacks one
abbrev lacking : Protocol → List CapabilityValue → Option (List ℕ)
lacking v caps = missing_name v (map (λ (f : FeatureValue). f.name) (features_of git_table v caps planner_agent []))

lacking-so : (v : Protocol) (caps : List CapabilityValue) (raw : List Feature)
    → feature_values raw ≡ features_of git_table v caps planner_agent [] → missing_feature v raw ≡ lacking v caps
lacking-so v caps raw e = ap (missing_name v) (names-of raw ∙ ap (map (λ (f : FeatureValue). f.name)) e)

abbrev ok_asked : ArgumentsValue → Result ArgumentsValue (List ℕ)
ok_asked a = Ok a

abbrev err_asked : List ℕ → Result ArgumentsValue (List ℕ)
err_asked name = Err name

asked-or-not : (a : ArgumentsValue) (name : List ℕ) → ok_asked a ≡ err_asked name → ⊥
asked-or-not a name e = cc

asked-anyway : (b : Bool) (a : ArgumentsValue) (name : List ℕ) → (if b then ok_asked a else ok_asked a) ≡ err_asked name → ⊥
asked-anyway true a name e = asked-or-not a name e
asked-anyway false a name e = asked-or-not a name e

abbrev some_name : List ℕ → Option (List ℕ)
some_name name = Some name

lacks-or-not : (o : Option (List ℕ)) (name : List ℕ) → o ≡ some_name name → o ≡ None → ⊥
lacks-or-not o name e f = let q : some_name name ≡ None = sym e ∙ f in cc q

-- ---- one fetch

module _ {N I A S C P : Type 0} (parties : Parties N I A S C P CopyError) (basis : N → Basis) (haves : N → List ObjectId)
    (list : OffersList parties.negotiation_calls basis haves) (IsEmpty : S → Type 0)
    (reads : (s : S) (ids : List ObjectId) (t : S) → IsEmpty s → parties.store_calls.reads s ids t → ids ≡ [])
    (none : CountsNone parties.consumes) (follows : FollowsPack parties.consumes)
    (never : ((i j : I) → parties.polls i true j → ⊥) × (parties.plain ≡ true)) where
  abbrev how : Protocol → Bool → Manner N I A
  how v banded = manner_of parties.negotiation_calls parties.polls v banded parties.plain

  -- how a fetch went that nothing disturbed
  pub data Way (v : Protocol) (caps : List CapabilityValue) (banded : Bool) (n : N) (old new : Reading)
      (ended : Result Bool PlanRefusal) : Type 0 where
    lacks : {name : List ℕ} → lacking v caps ≡ Some name → new.held ≡ old.held
        → ended ≡ Err (refusal (codes "fetch") (codes "FetchResponse")) → Way v caps banded n old new ended
    rests : lacking v caps ≡ None → Rested parties.negotiation_calls basis haves list v caps n old new → ended ≡ Ok false
        → Way v caps banded n old new ended
    runs : lacking v caps ≡ None → (ready : N) (wanted : ArgumentsValue) (interrupt : I)
        → Began parties.negotiation_calls basis haves list v caps n ready wanted
        → Ran (how v banded) (start_of ready wanted old interrupt) new ended → Way v caps banded n old new ended

  module _ (v : Protocol) (caps : List CapabilityValue) (banded : Bool) (reported : List ShallowUpdate) (given : ArgumentsValue)
      (given_is : given ≡ first_asks v caps) (has_all : lacking v caps ≡ None) (old : World N I S C) (empty : IsEmpty old.store)
      (alone : old.reading.held.persists ≡ false) where
    abbrev fetch_options : FetchOptions
    fetch_options = record { shallow = no_change; reported = reported; reject = false }

    -- what is asked for of a boundary that is empty
    opened-so : (ids : List ObjectId) (t : S) (asked : ArgumentsValue)
        → OpensFetch parties.store_calls no_change old.store given ids t asked → shallow_asks no_change [] (first_asks v caps)
        ≡ Ok asked
    opened-so ids t asked o = ap (λ l. shallow_asks no_change l (first_asks v caps)) (sym (reads old.store ids t empty o.reads))
        ∙ ap (λ a. shallow_asks no_change ids a) (sym given_is) ∙ o.asks

    began-so : (ids : List ObjectId) (read : S) (action : ActionValue) (ready : N) (wanted : ArgumentsValue)
        → Begun parties v banded fetch_options given old ids read action ready wanted
        → Began parties.negotiation_calls basis haves list v caps old.negotiate ready wanted
    began-so ids read action ready wanted b =
        let a = readied-asks parties.negotiation_calls basis haves list old.negotiate b.asked action ready wanted b.readied in
        record { opened = b.asked; opens = opened-so ids read b.asked b.opened; asks = a.0; left = a.1 }

    -- rounds that came to a pack
    packed-way : (ids : List ObjectId) (read : S) (action : ActionValue) (rounds : List Round) (updates : List ShallowUpdate)
        (reply : AnswerValue) (end : At N I) (new : Reading) (ended : Result Bool PlanRefusal)
        → Negotiated parties v banded fetch_options given old ids read action rounds updates reply end → end.reading.failures ≡ 0
        → new.held ≡ end.reading.held → EndsWithPack end.reading ended → Way v caps banded old.negotiate old.reading new ended
    packed-way ids read action rounds updates reply end new ended g z h k =
        let p = g.packed in
        let m = how v banded in
        let here : end.reading ≡ p.last.after.reading = ap (λ (a : At N I). a.reading) p.position in
        let there : p.before.reading.held.persists ≡ false =
        (rounds_written m (start_of g.ready g.wanted old.reading old.interrupt) p.before p.turns p.run).persists ∙ alone in
        runs has_all g.ready g.wanted old.interrupt (began-so ids read action g.ready g.wanted g.begun)
        (record {
          turns = p.turns;
          before = p.before;
          run = p.run;
          last =
              last-turn m p.before p.last new ended there p.lasts (ap (λ (r : Reading). r.failures) (sym here) ∙ z)
              (h ∙ ap (λ (r : Reading). r.held) here)
              (λ x had. subst (λ b. EndsBy (by_pack b p.last.done x) ended) (sym p.pack)
              (pack-ended p.last.after.reading x ended (had p.pack) (subst (λ (r : Reading). EndsWithPack r ended) here k)));
        })

    module _ (new : World N I S C) (e : FetchError A CopyError) (z : new.reading.failures ≡ 0) (undisturbed : IsDisturbed e → ⊥) where
      abbrev WayOr : Type 0
      WayOr = (e ≡ fetch.Memory) ⊎ Way v caps banded old.negotiate old.reading new.reading (end_of {A = A} {X = CopyError} (Err e))

      by-chance : (d : FetchError A CopyError) → e ≡ d → Chance d → WayOr
      by-chance d g (inl c) = absurd (undisturbed (subst (λ w. IsDisturbed w) (sym g) c))
      by-chance d g (inr c) = inl (g ∙ c)

      unopened-way : OpenFails parties.store_calls no_change old.store given e new.store → WayOr
      unopened-way (inl b) = by-chance (of_store_read b.error) b.gives (reads-disturb b.error)
      unopened-way (inr u) = at u.why
        where
          at : ((name : List ℕ) × (shallow_asks no_change u.ids given ≡ Err name) × IsMissing name e) ⊎ (e ≡ fetch.Memory) → WayOr
          at (inr m) = inl m
          at (inl w) = absurd (asked-anyway (can_use (codes "shallow") given) given w.0
              (ap (λ l. shallow_asks no_change l given) (sym (reads old.store u.ids new.store empty u.reads)) ∙ w.1))

      unready-way : (asked : ArgumentsValue) → ReadyFails parties.negotiation_calls old.negotiate asked e new.negotiate → WayOr
      unready-way asked (inl u) = by-chance (of_negotiate u.error) u.gives (own-disturbs u.error u.own)
      unready-way asked (inr u) = by-chance (of_negotiate u.error) u.gives (own-disturbs u.error u.own)

      by-hold : (needs : Bool) (s t : S) (locked had : Bool) → UnheldBy parties.store_calls needs false s locked e t had → WayOr
      by-hold false s t locked had h = absurd h
      by-hold true s t locked had h = by-chance (of_lock h.0) h.2 (locks-disturb h.0)

      by-settling : (us : List ShallowUpdate) (s t : S) → BoundaryWriteFails parties.store_calls us s e t → WayOr
      by-settling us s t (_, inl m) = inl m.0
      by-settling us s t (_, inr w) = by-chance (of_write w.0) w.2 (writes-disturb w.0)

      delivered-way : (ids : List ObjectId) (read : S) (action : ActionValue) (rounds : List Round) (updates : List ShallowUpdate)
          (reply : AnswerValue) (end : At N I) (progress : P)
          → Negotiated parties v banded fetch_options given old ids read action rounds updates reply end
          → DeliverFails parties.store_calls parties.consumes ids (updates
          ++ reported) false old.consumer read old.locked end.reading e new.consumer new.store new.locked new.reading progress → WayOr
      delivered-way ids read action rounds updates reply end progress g (at_lock h c r) =
          by-hold (is_any (updates ++ reported) && not old.locked) read new.store old.locked new.locked h
      delivered-way ids read action rounds updates reply end progress g (at_boundary held h r s) =
          by-settling (updates ++ reported) held new.store s
      delivered-way ids read action rounds updates reply end progress g (at_pack h r) = by-pack r
        where
          stood : end.reading.failures ≡ 0
          stood = received-none parties.consumes none follows old.consumer end.reading e new.consumer new.reading progress r z

          kept : new.reading.held ≡ end.reading.held
          kept = undelivered_held parties.consumes old.consumer parties.store_calls ids
              (updates ++ reported) false read old.locked end.reading e new.consumer new.store new.locked new.reading progress (at_pack h r)

          named : EndsWithPack end.reading (end_of {A = A} {X = CopyError} (Err e)) ⊎ (e ≡ fetch.Memory) → WayOr
          named (inr m) = inl m
          named (inl k) =
              inr (packed-way ids read action rounds updates reply end new.reading (end_of {A = A} {X = CopyError} (Err e)) g stood kept k)

          by-pack : ReceiveFails parties.consumes old.consumer end.reading e new.consumer new.reading progress → WayOr
          by-pack (inr m) = inl m.0
          by-pack (inl p) =
              named (refused-ends parties.consumes follows old.consumer end.reading new.consumer new.reading progress e z undisturbed p)

      fails-way : (progress : P) → FetchFails parties v banded fetch_options given old e new progress → WayOr
      fails-way progress (unopened o n r) = unopened-way o
      fails-way progress (unready ids asked o f r) = unready-way asked f
      fails-way progress (untold ids action rounds updates reply end g m n r i l c) = inl m
      fails-way progress (undelivered ids read action rounds updates reply end g n d) =
          delivered-way ids read action rounds updates reply end progress g d
      fails-way progress (unpacked rounds u l c) =
          at (rounds-fail (how v banded) never
          (start_of u.ready u.wanted old.reading old.interrupt) alone new.reading z e undisturbed rounds new.negotiate new.interrupt
          u.fails)
        where
          at : (e ≡ fetch.Memory) ⊎ Ran (how v banded) (start_of u.ready u.wanted old.reading old.interrupt) new.reading
              (end_of {A = A} {X = CopyError} (Err e)) → WayOr
          at (inl m) = inl m
          at (inr w) = inr (runs has_all u.ready u.wanted old.interrupt (began-so u.ids new.store u.action u.ready u.wanted u.begun) w)

    -- by its result
    ends-way : (new : World N I S C) (progress : P) (r : Result (Option Outcome) (FetchError A CopyError)) → new.reading.failures ≡ 0
        → IsUndisturbed r → SessionEnds parties v banded fetch_options given old r new progress
        → (r ≡ Err fetch.Memory) ⊎ Way v caps banded old.negotiate old.reading new.reading (end_of r)
    ends-way new progress (Err e) z u s = at (fails-way new e z u progress s)
      where
        at : (e ≡ fetch.Memory) ⊎ Way v caps banded old.negotiate old.reading new.reading (end_of {A = A} {X = CopyError} (Err e))
            → (◌≡◌ {A = Result (Option Outcome) (FetchError A CopyError)} (Err e) (Err fetch.Memory))
            ⊎ Way v caps banded old.negotiate old.reading new.reading (end_of {A = A} {X = CopyError} (Err e))
        at (inl m) = inl (ap Err m)
        at (inr w) = inr w
    ends-way new progress (Ok None) z u s =
        inr (rests has_all (record {
          opened = s.asked;
          opens = opened-so s.ids new.store s.asked s.opened;
          last = new.negotiate;
          idle = s.idle;
          rests = s.rests.reading;
        }) refl)
    ends-way new progress (Ok (Some out)) z u s =
        let d = s.delivered.received in
        inr
        (packed-way s.ids s.read _ out.negotiate.rounds.items s.updates s.reply s.end new.reading (Ok true) s.negotiated
        (sym (received-failures parties.consumes none old.consumer s.end.reading new.consumer new.reading progress d) ∙ z)
        (received_held parties.consumes old.consumer s.end.reading new.consumer new.reading progress d)
        (taken-ends parties.consumes follows old.consumer s.end.reading new.consumer new.reading progress d))

  -- ---- a fetch of the planner

  module _ (IsOver : N → Type 0) (h : Handshake) (old new : Reading) (alone : old.held.persists ≡ false) (z : new.failures ≡ 0) where
    abbrev version : Protocol
    version = h.server_protocol_version

    abbrev caps : List CapabilityValue
    caps = h.capabilities

    abbrev AnyWay : Result (Option Outcome) (FetchError A CopyError) → Type 0
    AnyWay r = (r ≡ Err fetch.Memory) ⊎ ((n : N) × IsOver n × Way version caps (bands version caps) n old new (end_of r))

    carried : (r : Result (Option Outcome) (FetchError A CopyError)) → IsUndisturbed r
        → (f : FetchesOver parties IsOver IsEmpty h old new r)
        → CarriesOut parties (planner_call h) f.first r f.last f.progress → AnyWay r
    carried r u f c =
        at
        (ends-way version caps c.banded (planner_call h).fetch_options.reported c.asked
        (sym (same-ok _ (first_asks version caps) c.asked refl c.prepared.asks))
        (sym (lacking-so version caps c.prepared.raw c.prepared.values) ∙ c.prepared.needed)
        (record f.first { store = c.held; locked = c.first }) (subst IsEmpty (sym c.locks.0) f.empty)
        (ap (λ (w : Reading). w.held.persists) f.begins ∙ alone) c.last f.progress r (ap (λ (w : Reading). w.failures) here
        ∙ z) u c.meets)
      where
        here : c.last.reading ≡ new
        here = ap (λ (w : World N I S C). w.reading) (sym c.position) ∙ f.ends

        at : (r ≡ Err fetch.Memory) ⊎ Way version caps c.banded f.first.negotiate f.first.reading c.last.reading (end_of r) → AnyWay r
        at (inl m) = inl m
        at (inr w) =
            inr (
              f.first.negotiate,
              f.over,
              subst (λ (x : Reading). Way version caps (bands version caps) f.first.negotiate old x (end_of r)) here
                  (subst (λ (x : Reading). Way version caps (bands version caps) f.first.negotiate x c.last.reading (end_of r)) f.begins
                  (subst (λ b. Way version caps b f.first.negotiate f.first.reading c.last.reading (end_of r)) c.prepared.bands w)),
            )

    unstarted : (e : FetchError A CopyError) → (IsDisturbed e → ⊥) → (f : FetchesOver parties IsOver IsEmpty h old new (Err e))
        → StartFails parties (planner_call h) f.first e f.last → AnyWay (Err e)
    unstarted e u f (unlocked asked banded p m l s) = at (locks-disturb l.error)
      where
        at : Chance {A = A} (of_lock l.error) → AnyWay (Err e)
        at (inl d) = absurd (u (subst (λ w. IsDisturbed w) (sym l.gives) d))
        at (inr m) = inl (ap Err (l.gives ∙ m))
    unstarted e u f (unprepared (no_room m) s) = inl (ap Err m)
    unstarted e u f (unprepared (untagged raw values needed name asks missing) s) = absurd (asked-or-not _ name asks)
    unstarted e u f (unprepared (unneeded raw values error misses gives) s) =
        at (missing_feature version raw) (sym (lacking-so version caps raw values)) misses
      where
        stood : new.held ≡ old.held
        stood = ap (λ (w : Reading). w.held) (sym f.ends) ∙ ap (λ (w : World N I S C). w.reading.held) s
            ∙ ap (λ (w : Reading). w.held) f.begins

        at : (o : Option (List ℕ)) → lacking version caps ≡ o → Misses o (Err error) → AnyWay (Err e)
        at None q m = absurd m
        at (Some name) q m =
            inr (
              f.first.negotiate,
              f.over,
              lacks q stood (ap (λ (w : FetchError A CopyError). end_of {A = A} {X = CopyError} (Err w)) gives
                  ∙ missing-named A name error m),
            )

    pub goes-way : (r : Result (Option Outcome) (FetchError A CopyError)) → IsUndisturbed r
        → FetchesMapped parties IsOver IsEmpty h old new r → AnyWay r
    goes-way r u (inr n) = inl n.1
    goes-way (Ok o) u (inl f) = carried (Ok o) u f f.fetched.fetched
    goes-way (Err e) u (inl f) = at f.fetched.fetched
      where
        at : StartFails parties (planner_call h) f.first e f.last
            ⊎ CarriesOut parties (planner_call h) f.first (Err e) f.last f.progress → AnyWay (Err e)
        at (inl s) = unstarted e u f s
        at (inr c) = carried (Err e) u f c

  -- ---- two fetches

  module _ (v : Protocol) (caps : List CapabilityValue) (n o : N) (a b c d : Reading) (basis_same : SameBasis (basis n) (basis o))
      (haves_same : haves n ≡ haves o) (hold : HoldAlike a b) (e f : Result Bool PlanRefusal) where
    abbrev Ends : Type 0
    Ends = (c.held ≡ d.held) × (e ≡ f)

    pub ways-alike : Way v caps (bands v caps) n a c e → Way v caps (bands v caps) o b d f → Ends
    ways-alike (lacks p q r) (lacks s t u) = (q ∙ hold.held ∙ sym t, r ∙ sym u)
    ways-alike (lacks {name} p q r) (rests s t u) = absurd (lacks-or-not (lacking v caps) name p s)
    ways-alike (lacks {name} p q r) (runs s t u w x y) = absurd (lacks-or-not (lacking v caps) name p s)
    ways-alike (rests p q r) (lacks {name} s t u) = absurd (lacks-or-not (lacking v caps) name s p)
    ways-alike (rests p q r) (rests s t u) =
        (ap (λ (x : Reading). x.held) q.rests ∙ hold.held ∙ sym (ap (λ (x : Reading). x.held) t.rests), r ∙ sym u)
    ways-alike (rests p q r) (runs s t u w x y) =
        absurd (first-rests parties.negotiation_calls basis haves list v caps n o basis_same haves_same a b hold c t u q x)
    ways-alike (runs p ready wanted i l k) (lacks {name} s t u) = absurd (lacks-or-not (lacking v caps) name s p)
    ways-alike (runs p ready wanted i l k) (rests s t u) =
        absurd (other-rests parties.negotiation_calls basis haves list v caps n o basis_same haves_same a b hold d ready wanted l t)
    ways-alike (runs p ready wanted i l k) (runs s other asked j r m) =
        let x = runs-alike (how v (bands v caps)) haves list.goes (start_of ready wanted a i) (start_of other asked b j) c d e f
        (starts-alike parties.negotiation_calls basis haves list v caps n o basis_same haves_same a b hold ready other wanted asked
        i j l r) k m in (x.held, x.ends)
