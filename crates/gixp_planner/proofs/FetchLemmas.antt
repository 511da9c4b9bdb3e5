-- Two fetches of the planner over the same mappings, whose negotiators offer the same list: they come to the same end, and where no
-- failure is counted they send the same.
use Rattle.std.proofs.Common.{◌≡◌, ◌⊎◌, Bool, true, false, not, ◌||◌, List, [], codes, Option, Some, None, Result, Ok, Err, inl, inr, refl, sym, ap, ◌∙◌, subst, true≢false}
use Rattle.std.specs.List.{list_any}
use Rattle.gixp_hash.specs.declared.object_id.ObjectId.{ObjectId}
use Rattle.gixp_packetline.specs.declared.protocol.Protocol.{Protocol}
use Rattle.gixp_capabilities.specs.Capabilities.{CapabilityValue}
use Rattle.gixp_packetline.specs.Reading.{Reading}
use Rattle.gixp_packetline.specs.TransportState.{TransportState}
use Rattle.gixp_shallow.specs.declared.update.ShallowUpdate.{ShallowUpdate}
use Rattle.gixp_response.specs.Answer.{AnswerValue}
use Rattle.gixp_requests.specs.Feature.{has_feature}
use Rattle.gixp_requests.specs.Command.{git_table}
use Rattle.gixp_requests.specs.Arguments.{ArgumentsValue, is_v2, asks_nothing}
use Rattle.gixp_refmap.specs.declared.fetch.Tags.TheVariants as tags
use Rattle.gixp_handshake.specs.declared.handshake.read.Handshake.{Handshake}
use Rattle.gixp_negotiate.specs.declared.negotiate.Round.{Round}
use Rattle.gixp_negotiate.specs.Negotiate.{ActionValue, no_change as nothing_changes, skip, negotiate, Window, NegotiationCalls, first_window}
use Rattle.gixp_negotiate.specs.Wants.{asks_for, asking_all, AddsWants}
use Rattle.gixp_fetch.specs.declared.options.Outcome.{Outcome}
use Rattle.gixp_fetch.specs.FetchShallow.{no_change, shallow_asks}
use Rattle.gixp_fetch.specs.FetchRounds.{At, Manner, manner_of, Packed}
use Rattle.gixp_fetch.specs.Session.{MakesReady, Idle, OpensFetch}
use Rattle.gixp_fetch.specs.Prepare.{features_of, Prepared}
use Rattle.gixp_fetch.specs.Fetch.{World, Parties}
use Rattle.gixp_fetch.specs.Fetched.{CarriesOut}
use Rattle.gixp_fetch.proofs.SessionLemmas.{received_held}
use Rattle.gixp_planner.specs.Refusal.{PlanRefusal}
use Rattle.gixp_planner.specs.Session.{planner_agent, planner_call, FetchesOver, FetchesMapped}
use Rattle.gixp_planner.specs.Follows.{AsksAfterMap}
use Rattle.gixp_planner.proofs.MappedLemmas.{HoldAlike, same-ok}
use Rattle.gixp_planner.proofs.WantLemmas.{Basis, SameBasis, decided, asked_for, decided-alike, asked-alike}
use Rattle.gixp_planner.proofs.CountLemmas.{CountsNone, received-failures}
use Rattle.gixp_planner.proofs.ListRoundLemmas.{ListRound}
use Rattle.gixp_planner.proofs.RoundLemmas.{AtAlike, asks-following, packed-alike}

-- a side that knows the repository: it goes by a basis, and its negotiator offers a list
pub record OffersList {N A : Type 0} (negotiation_calls : NegotiationCalls N A) (basis : N → Basis)
    (haves : N → List ObjectId) : Type 0 where
  pub marks : (n : N) (action : ActionValue) (m : N) → negotiation_calls.marks n action m
      → (action ≡ decided (basis n)) × (haves m ≡ haves n)
      × ((a : ArgumentsValue) (known : List Bool) → asked_for (basis m) a known ≡ asked_for (basis n) a known)
  pub adds : (n : N) (known : List Bool) (a : ArgumentsValue) (any : Bool) (b : ArgumentsValue) (m : N)
      → negotiation_calls.adds n known a any b m → AddsWants (asked_for (basis n) a known) any a b × (haves m ≡ haves n)
  pub goes : (n : N) (s : Window) (a : ArgumentsValue) (p : Option AnswerValue) (r : Round) (done : Bool) (m : N) (t : Window)
      (b : ArgumentsValue) → negotiation_calls.goes n s a p r done m t b
      → ListRound (haves n) s a p done (haves m) t b

-- ---- the first two steps of a negotiation

-- by this basis objects are to be asked for, and these lines do so
pub record Asks (b : Basis) (given wanted : ArgumentsValue) : Type 0 where
  pub known : List Bool
  pub must : decided b ≡ negotiate known
  pub any : list_any asks_for (asked_for b given known) ≡ true
  pub asked : wanted ≡ asking_all (asked_for b given known) given

same-known : (known other : List Bool) → negotiate known ≡ negotiate other → known ≡ other
same-known known other e = cc

pub asks-same : (p q : Basis) (given wanted other : ArgumentsValue) → SameBasis p q → Asks p given wanted → Asks q given other
    → wanted ≡ other
asks-same p q given wanted other s l r =
    let known : l.known ≡ r.known = same-known l.known r.known (sym l.must ∙ decided-alike p q s ∙ r.must) in
    l.asked ∙ ap (λ ws. asking_all ws given) (asked-alike p q given l.known s ∙ ap (asked_for q given) known) ∙ sym r.asked

module _ {N A : Type 0} (negotiation_calls : NegotiationCalls N A) (basis : N → Basis) (haves : N → List ObjectId)
    (list : OffersList negotiation_calls basis haves) (n : N) (given : ArgumentsValue) where
  pub readied-asks : (action : ActionValue) (ready : N) (wanted : ArgumentsValue)
      → MakesReady negotiation_calls n given action ready wanted → Asks (basis n) given wanted × (haves ready ≡ haves n)
  readied-asks action ready wanted r =
      let m = list.marks n action r.marked r.marks in
      let a = list.adds r.marked r.known given true wanted ready r.adds in (
        record {
          known = r.known;
          must = sym m.0 ∙ r.must;
          any = ap (list_any asks_for) (sym (m.2 given r.known)) ∙ sym a.0.any;
          asked = a.0.asked ∙ ap (λ ws. asking_all ws given) (m.2 given r.known);
        },
        a.1 ∙ m.1,
      )

  -- where there is nothing to ask for, none are asked for by a basis that decides and asks the same
  pub idle-asks-none : (b : Basis) (last : N) (wanted : ArgumentsValue) → decided (basis n) ≡ decided b
      → ((known : List Bool) → asked_for (basis n) given known ≡ asked_for b given known) → Idle negotiation_calls n given last
      → Asks b given wanted → ⊥
  idle-asks-none b last wanted d w i a = by_action (list.marks n i.action i.marked i.marks) i.idle
    where
      by_action : (i.action ≡ decided (basis n)) × (haves i.marked ≡ haves n)
          × ((x : ArgumentsValue) (known : List Bool) → asked_for (basis i.marked) x known ≡ asked_for (basis n) x known)
          → (((i.action ≡ nothing_changes) ⊎ (i.action ≡ skip)) × (last ≡ i.marked)) ⊎ ((known : List Bool) × (wanted : ArgumentsValue)
          × (i.action ≡ negotiate known) × negotiation_calls.adds i.marked known given false wanted last) → ⊥
      by_action m (inl (inl e, l)) = not_nothing a.known (sym e ∙ m.0 ∙ d ∙ a.must)
        where
          not_nothing : (known : List Bool) → nothing_changes ≡ negotiate known → ⊥
          not_nothing known f = absurd cc
      by_action m (inl (inr e, l)) = not_skip a.known (sym e ∙ m.0 ∙ d ∙ a.must)
        where
          not_skip : (known : List Bool) → skip ≡ negotiate known → ⊥
          not_skip known f = absurd cc
      by_action m (inr (known, wanted, e, adds)) =
          let same : known ≡ a.known = same-known known a.known (sym e ∙ m.0 ∙ d ∙ a.must) in
          let none = list.adds i.marked known given false wanted last adds in
          true≢false (sym a.any ∙ ap (list_any asks_for) (ap (asked_for b given) (sym same) ∙ sym (w known) ∙ sym (m.2 given known))
          ∙ sym none.0.any)

-- ---- a fetch

-- what the planner asks for at first, and whether all is banded then
abbrev pub first_asks : Protocol → List CapabilityValue → ArgumentsValue
first_asks v caps = asks_nothing git_table v (features_of git_table v caps planner_agent [])

abbrev pub bands : Protocol → List CapabilityValue → Bool
bands v caps = has_feature (codes "sideband-all") (features_of git_table v caps planner_agent [])

-- where rounds begin
abbrev pub start_of : {N I : Type 0} → N → ArgumentsValue → Reading → I → At N I
start_of ready wanted old interrupt = record {
  negotiate = ready;
  window = first_window (not old.held.persists || is_v2 wanted.version);
  asked = wanted;
  previous = None;
  reading = old;
  interrupt = interrupt;
}

module _ {N A : Type 0} (negotiation_calls : NegotiationCalls N A) (basis : N → Basis) (haves : N → List ObjectId)
    (list : OffersList negotiation_calls basis haves) (v : Protocol) (caps : List CapabilityValue) where
  -- objects are asked for
  pub record Began (n ready : N) (wanted : ArgumentsValue) : Type 0 where
    pub opened : ArgumentsValue
    pub opens : shallow_asks no_change [] (first_asks v caps) ≡ Ok opened
    pub asks : Asks (basis n) opened wanted
    pub left : haves ready ≡ haves n

  -- or there is nothing to ask for
  pub record Rested (n : N) (old new : Reading) : Type 0 where
    pub opened : ArgumentsValue
    pub opens : shallow_asks no_change [] (first_asks v caps) ≡ Ok opened
    pub last : N
    pub idle : Idle negotiation_calls n opened last
    pub rests : new ≡ old

  -- two fetches begin alike, or both have nothing to ask for
  module _ (n o : N) (basis_same : SameBasis (basis n) (basis o)) (haves_same : haves n ≡ haves o) (a b : Reading)
      (hold : HoldAlike a b) where
    pub starts-alike : {I : Type 0} (ready other : N) (wanted asked : ArgumentsValue) (i j : I) → Began n ready wanted
        → Began o other asked → AtAlike haves (start_of ready wanted a i) (start_of other asked b j)
    starts-alike ready other wanted asked i j l r =
        let opened = same-ok _ l.opened r.opened l.opens r.opens in
        let same : wanted ≡ asked = asks-same (basis n) (basis o) l.opened wanted asked basis_same l.asks
        (subst (λ x. Asks (basis o) x asked) (sym opened) r.asks) in
        record {
          left = l.left ∙ haves_same ∙ sym r.left;
          window =
              ap (λ (h : TransportState). first_window (not h.persists || is_v2 wanted.version)) hold.held
              ∙ ap (λ (x : ArgumentsValue). first_window (not b.held.persists || is_v2 x.version)) same;
          asked = same;
          previous = refl;
          reading = hold;
        }

    pub first-rests : (c : Reading) (other : N) (asked : ArgumentsValue) → Rested n a c → Began o other asked → ⊥
    first-rests c other asked l r =
        idle-asks-none negotiation_calls basis haves list n l.opened (basis o) l.last asked
        (decided-alike (basis n) (basis o) basis_same) (λ known. asked-alike (basis n) (basis o) l.opened known basis_same) l.idle
        (subst (λ x. Asks (basis o) x asked) (sym (same-ok _ l.opened r.opened l.opens r.opens)) r.asks)

    pub other-rests : (d : Reading) (ready : N) (wanted : ArgumentsValue) → Began n ready wanted → Rested o b d → ⊥
    other-rests d ready wanted l r =
        idle-asks-none negotiation_calls basis haves list o r.opened (basis n) r.last wanted (sym (decided-alike (basis n)
        (basis o) basis_same)) (λ known. sym (asked-alike (basis n) (basis o) r.opened known basis_same)) r.idle
        (subst (λ x. Asks (basis n) x wanted) (same-ok _ l.opened r.opened l.opens r.opens) l.asks)

-- how a fetch ended that wasn't refused
abbrev pub came_to : Option Outcome → Result Bool PlanRefusal
came_to (Some out) = Ok true
came_to None = Ok false

pub not-refused-ok : {B E : Type 0} (o : B) (e : E) → ◌≡◌ {A = Result B E} (Ok o) (Err e) → ⊥
not-refused-ok o e h = absurd cc

module _ {N I A S C P X : Type 0} (parties : Parties N I A S C P X) (basis : N → Basis) (haves : N → List ObjectId)
    (list : OffersList parties.negotiation_calls basis haves) (IsEmpty : S → Type 0)
    (reads : (s : S) (ids : List ObjectId) (t : S) → IsEmpty s → parties.store_calls.reads s ids t → ids ≡ [])
    (none : CountsNone parties.consumes) where
  abbrev how : Protocol → Bool → Manner N I A
  how v banded = manner_of parties.negotiation_calls parties.polls v banded parties.plain

  -- it came to a pack
  pub record Rounded (v : Protocol) (caps : List CapabilityValue) (n : N) (old new : Reading) : Type 0 where
    ready : N
    wanted : ArgumentsValue
    began : Began parties.negotiation_calls basis haves list v caps n ready wanted
    interrupt : I
    rounds : List Round
    updates : List ShallowUpdate
    reply : AnswerValue
    end : At N I
    packed : Packed (how v (bands v caps)) (start_of ready wanted old interrupt) rounds updates reply end
    held : new.held ≡ end.reading.held
    failures : new.failures ≡ end.reading.failures

  -- or there was nothing to ask for
  abbrev pub Received : Protocol → List CapabilityValue → N → Reading → Reading → Option Outcome → Type 0
  Received v caps n old new (Some out) = Rounded v caps n old new
  Received v caps n old new None = Rested parties.negotiation_calls basis haves list v caps n old new

  module _ (IsOver : N → Type 0) (h : Handshake) (old new : Reading) where
    prepared-first : (asked : ArgumentsValue) (banded : Bool) → Prepared git_table h.server_protocol_version
        (features_of git_table h.server_protocol_version h.capabilities planner_agent []) tags.None asked banded
        → (asked ≡ first_asks h.server_protocol_version h.capabilities) × (banded ≡ bands h.server_protocol_version h.capabilities)
    prepared-first asked banded p = (sym (same-ok _ (first_asks h.server_protocol_version h.capabilities) asked refl p.asks), p.bands)

    opened-first : (s : S) (ids : List ObjectId) (t : S) (given asked : ArgumentsValue) → IsEmpty s
        → given ≡ first_asks h.server_protocol_version h.capabilities → OpensFetch parties.store_calls no_change s given ids t asked
        → shallow_asks no_change [] (first_asks h.server_protocol_version h.capabilities) ≡ Ok asked
    opened-first s ids t given asked e f o =
        ap (λ l. shallow_asks no_change l (first_asks h.server_protocol_version h.capabilities)) (sym (reads s ids t e o.reads))
        ∙ ap (λ a. shallow_asks no_change ids a) (sym f) ∙ o.asks

    rounded : (out : Outcome) (f : FetchesOver parties IsOver IsEmpty h old new (Ok (Some out)))
        → CarriesOut parties (planner_call h) f.first (Ok (Some out)) f.last f.progress
        → Rounded h.server_protocol_version h.capabilities f.first.negotiate old new
    rounded out f c =
        let p = prepared-first c.asked c.banded c.prepared in
        let s = c.meets in
        let b = s.negotiated.begun in
        let a =
        readied-asks parties.negotiation_calls basis haves list f.first.negotiate b.asked _ s.negotiated.ready s.negotiated.wanted
        b.readied in
        record {
          ready = s.negotiated.ready;
          wanted = s.negotiated.wanted;
          began = record {
            opened = b.asked;
            opens = opened-first c.held s.ids s.read c.asked b.asked
                (subst IsEmpty (sym c.locks.0) f.empty) p.0 b.opened;
            asks = a.0;
            left = a.1;
          };
          interrupt = f.first.interrupt;
          rounds = out.negotiate.rounds.items;
          updates = s.updates;
          reply = s.reply;
          end = s.end;
          packed =
              subst (λ r. Packed (how h.server_protocol_version (bands h.server_protocol_version h.capabilities))
              (start_of s.negotiated.ready s.negotiated.wanted r f.first.interrupt) out.negotiate.rounds.items s.updates s.reply
              s.end)
              f.begins
              (subst (λ d. Packed (how h.server_protocol_version d)
              (start_of s.negotiated.ready s.negotiated.wanted f.first.reading f.first.interrupt) out.negotiate.rounds.items
              s.updates s.reply s.end) p.1
              s.negotiated.packed);
          held =
              ap (λ (r : Reading). r.held) (sym f.ends)
              ∙ ap (λ (w : World N I S C). w.reading.held) c.position
              ∙ received_held parties.consumes f.first.consumer s.end.reading c.last.consumer c.last.reading f.progress
              s.delivered.received;
          failures =
              ap (λ (r : Reading). r.failures) (sym f.ends)
              ∙ ap (λ (w : World N I S C). w.reading.failures) c.position
              ∙ received-failures parties.consumes none f.first.consumer s.end.reading c.last.consumer c.last.reading f.progress
              s.delivered.received;
        }

    rested : (f : FetchesOver parties IsOver IsEmpty h old new (Ok None))
        → CarriesOut parties (planner_call h) f.first (Ok None) f.last f.progress
        → Rested parties.negotiation_calls basis haves list h.server_protocol_version h.capabilities f.first.negotiate old new
    rested f c =
        let p = prepared-first c.asked c.banded c.prepared in
        let s = c.meets in
        record {
          opened = s.asked;
          opens = opened-first c.held s.ids c.last.store c.asked s.asked (subst IsEmpty (sym c.locks.0) f.empty) p.0 s.opened;
          last = c.last.negotiate;
          idle = s.idle;
          rests = sym f.ends ∙ ap (λ (w : World N I S C). w.reading) c.position ∙ s.rests.reading ∙ f.begins;
        }

    pub came : (o : Option Outcome) → FetchesMapped parties IsOver IsEmpty h old new (Ok o) → (n : N) × IsOver n
        × Received h.server_protocol_version h.capabilities n old new o
    came o (inr n) = absurd (not-refused-ok _ _ n.1)
    came (Some out) (inl f) = (f.first.negotiate, f.over, rounded out f f.fetched.fetched)
    came None (inl f) = (f.first.negotiate, f.over, rested f f.fetched.fetched)

  -- what it asked for after the requests up to its ref map
  pub asked-following : (v : Protocol) (caps : List CapabilityValue) (n : N) (old new : Reading) → old.held.persists ≡ false
      → (o : Option Outcome) → Received v caps n old new o → AsksAfterMap (came_to o) old.held.sent new.held.sent
  asked-following v caps n old new alone (Some out) r =
      let s = asks-following (how v (bands v caps)) _ r.rounds r.updates r.reply r.end alone r.packed in
      (s.0, s.1, ap (λ (h : TransportState). h.sent) r.held ∙ s.2)
  asked-following v caps n old new alone None r = ap (λ (z : Reading). z.held.sent) r.rests

  -- ---- two fetches

  module _ (v : Protocol) (caps : List CapabilityValue) (n o : N) (a b c d : Reading) (basis_same : SameBasis (basis n) (basis o))
      (haves_same : haves n ≡ haves o) (hold : HoldAlike a b) where
    starts-so : (l : Rounded v caps n a c) (r : Rounded v caps o b d)
        → AtAlike haves (start_of l.ready l.wanted a l.interrupt) (start_of r.ready r.wanted b r.interrupt)
    starts-so l r =
        starts-alike parties.negotiation_calls basis haves list v caps n o basis_same haves_same a b hold l.ready r.ready l.wanted
        r.wanted l.interrupt r.interrupt l.began r.began

    first-none : Rested parties.negotiation_calls basis haves list v caps n a c → Rounded v caps o b d → ⊥
    first-none l r =
        first-rests parties.negotiation_calls basis haves list v caps n o basis_same haves_same a b hold c r.ready r.wanted l r.began

    other-none : Rounded v caps n a c → Rested parties.negotiation_calls basis haves list v caps o b d → ⊥
    other-none l r =
        other-rests parties.negotiation_calls basis haves list v caps n o basis_same haves_same a b hold d l.ready l.wanted l.began r

    -- both came to the same end
    pub ends-same : (x y : Option Outcome) → Received v caps n a c x → Received v caps o b d y → came_to x ≡ came_to y
    ends-same (Some x) (Some y) l r = refl
    ends-same (Some x) None l r = absurd (other-none l r)
    ends-same None (Some y) l r = absurd (first-none l r)
    ends-same None None l r = refl

    -- where none is counted both sent the same
    pub sent-same : c.failures ≡ 0 → d.failures ≡ 0 → (x y : Option Outcome) → Received v caps n a c x → Received v caps o b d y → c.held ≡ d.held
    sent-same z w (Some x) (Some y) l r =
        l.held ∙ packed-alike (how v (bands v caps)) haves list.goes _ _ _ _ _ _ _ _ _ _ (starts-so l r) l.packed
        (sym l.failures ∙ z) r.packed (sym r.failures ∙ w) ∙ sym r.held
    sent-same z w (Some x) None l r = absurd (other-none l r)
    sent-same z w None (Some y) l r = absurd (first-none l r)
    sent-same z w None None l r = ap (λ (z : Reading). z.held) l.rests ∙ hold.held ∙ sym (ap (λ (z : Reading). z.held) r.rests)
