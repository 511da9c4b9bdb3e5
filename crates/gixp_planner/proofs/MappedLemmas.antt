-- Two sessions over the same bodies: each step leaves readers of which the same is to come, and which hold the same.
use Rattle.std.proofs.Common.{◌≡◌, ◌⊎◌, ℕ, Bool, true, false, List, [], ◌∷◌, ◌++◌, map, Option, Some, None, Vec, Result, Ok, Err, IfSome, inl, inr, refl, sym, ap, ◌∙◌, subst, append_assoc, append-nil, arith}
use Rattle.std.proofs.lemmas.Bool.Decides.{nat_tests}
use Rattle.std.specs.Prelude.{IsOk, ◌==◌, codes}
use Rattle.std.specs.Io.KnownBytes.{Appends}
use Rattle.std.specs.declared.alloc.Global.{Global}
use Rattle.gixp_packetline.specs.declared.protocol.Protocol.{Protocol}
use Rattle.gixp_packetline.specs.declared.protocol.MessageKind.{MessageKind}
use Rattle.gixp_transport.specs.declared.service.Service.{Service}
use Rattle.gixp_transport.specs.declared.service.Service.TheVariants.{UploadPack}
use Rattle.gixp_transport.specs.declared.service.SetServiceResponse.{SetServiceResponse}
use Rattle.gixp_capabilities.specs.declared.client.Error.{Error as client_error}
use Rattle.gixp_capabilities.specs.declared.client.Error.TheVariants as client
use Rattle.gixp_transport.specs.declared.bodies.Body.{Body}
use Rattle.gixp_transport.specs.declared.bodies.Bodies.{Bodies}
use Rattle.gixp_transport.specs.Bodies.{answer_of, bodies_held, bodies_reading, IsNewBodies}
use Rattle.gixp_packetline.specs.Pieces.{Pieces}
use Rattle.gixp_packetline.specs.Lines.{Lines, stop, lines_to}
use Rattle.gixp_packetline.specs.TransportState.{TransportState, Answer}
use Rattle.gixp_packetline.specs.Reading.{Reading, lines_from_stop, lines_ahead}
use Rattle.gixp_transport.specs.Greeting.{Parameter}
use Rattle.gixp_transport.specs.Handshake.{Handshakes, HandshakesBy}
use Rattle.gixp_capabilities.specs.Capabilities.{CapabilityValue}
use Rattle.gixp_transport.specs.CapabilityAdvertisement.{Advertised, advertisement, ReadsAdvertisement}
use Rattle.gixp_transport.specs.Transport.{TakesAnswer, SentBy, FailsBy, Sends, entered, with_written, first_answer, later_answers, answer_pieces}
use Rattle.gixp_refs.specs.declared.handshake.Ref.{Ref}
use Rattle.gixp_shallow.specs.declared.update.ShallowUpdate.{ShallowUpdate}
use Rattle.gixp_refs.specs.Ref.{ref_value}
use Rattle.gixp_refs.specs.Refs.{v2_refs, ReadsRefs}
use Rattle.gixp_refs.specs.RefAdvertisement.{Symref, symref_table, groups}
use Rattle.gixp_refs.specs.V1Refs.{ReadsV1}
use Rattle.gixp_hash.specs.declared.object_id.ObjectId.{ObjectId}
use Rattle.gixp_packetline.specs.FrameText.{texts_of}
use Rattle.gixp_requests.specs.Arguments.{ArgumentsValue}
use Rattle.gixp_requests.specs.Request.{request, request_fits}
use Rattle.gixp_requests.specs.Command.{git_table}
use Rattle.gixp_refspec.specs.declared.spec.RefSpec.{RefSpec}
use Rattle.gixp_refspec.specs.Spec.{Spec}
use Rattle.gixp_refspec.specs.RefSpec.{owned_value_of}
use Rattle.gixp_refmap.specs.declared.refmap.map.RefMap.{RefMap}
use Rattle.gixp_refmap.specs.declared.refmap.init.Context.{Context}
use Rattle.gixp_refmap.specs.declared.refmap.init.Error.{Error as map_error}
use Rattle.gixp_refmap.specs.declared.ls_refs.error.Error.{Error as list_error}
use Rattle.gixp_refmap.specs.Listing.{Listing, listing, listing_of, Listed, Lists}
use Rattle.gixp_refmap.specs.Mapping.{unknown_format, joined_specs}
use Rattle.gixp_handshake.specs.declared.handshake.read.Handshake.{Handshake}
use Rattle.gixp_handshake.specs.declared.handshake.ref_map.ObtainRefMap.{ObtainRefMap}
use Rattle.gixp_handshake.specs.declared.handshake.ref_map.ObtainRefMap.TheVariants.{Existing, LsRefsCommand}
use Rattle.gixp_handshake.specs.Shake.{CredentialCall, OpeningResult, Got, StopsForMemory, Denied, First, Opens, ReadsFirst, KeepsVersion, FinishesHandshake, is_accepted}
use Rattle.gixp_handshake.specs.Obtain.{prefixes_if, MakesMap, PreparesBy, ByList, ObtainsBy, Obtains}
use Rattle.gixp_planner.specs.Specs.{specs_of, IsContext}
use Rattle.gixp_fetch.specs.declared.error.Error.{Error as FetchError}
use Rattle.gixp_fetch.specs.declared.options.Outcome.{Outcome}
use Rattle.gixp_fetch.specs.Sent.{WroteRequests}
use Rattle.gixp_fetch.specs.FetchRounds.{SendsRound, At, Turn as FetchTurn, Manner, TurnFails, Breaks, before_request, at_request, after_request, at_answer, after_answer}
use Rattle.gixp_fetch.specs.Sessions.{Untouched, RoundsBreakOff, unnamed, by_caller, exhausted, at_round, after_pack, answered_at, SessionFails, at_depth, at_wants, in_session, Releases, HoldsSession}
use Rattle.gixp_fetch.specs.Fetch.{World, Parties}
use Rattle.gixp_fetch.specs.Fetched.{FetchCall, Fetches, unprepared, unlocked}
use Rattle.gixp_handshake.specs.Taken.{without_refs}
use Rattle.gixp_planner.specs.declared.error.PlanError.{PlanError}
use Rattle.gixp_planner.specs.Refusal.{PlanRefusal, refusal, refusal_of}
use Rattle.gixp_planner.specs.Text.{map_shown, mapped_shown, requests_shown, end_shown, Course}
use Rattle.gixp_handshake.specs.WithoutAccount.{AreUnanswered, GreetsWithoutAccount}
use Rattle.gixp_planner.specs.Session.{planner_agent, planner_call, MapsRefs, FetchesMapped, Runs, ungreeted, unmapped, fetched, end_counted}
use Rattle.gixp_planner.specs.Discovered.{values_of}
use Rattle.gixp_planner.specs.PlannedText.{IsCourse, Shows}
use Rattle.gixp_planner.specs.Mapped.{IsMapped, MappingsFollow, ShowsMapped, ShowsFetch}
use Rattle.gixp_planner.proofs.StepLemmas.{other-step, not-unwritten, n-not-t, f-not-t, l-not-t}
use Rattle.gixp_planner.proofs.SeenLemmas.{map_text, map-text, LookAlike, look-alike}

-- ---- readers of which the same is to come

-- both know what is to come, and it is the same
pub record AreAlike (a b : Reading) : Type 0 where
  pub pieces : Pieces
  pub first : a.to_come ≡ Some pieces
  pub second : b.to_come ≡ Some pieces
  pub stopped : a.stopped ≡ b.stopped
  pub version : a.version ≡ b.version
  pub held : a.held ≡ b.held
  pub alone : a.held.persists ≡ false

-- both hold the same, whatever is to come
pub record HoldAlike (a b : Reading) : Type 0 where
  pub version : a.version ≡ b.version
  pub held : a.held ≡ b.held
  pub alone : a.held.persists ≡ false

pub hold-alike : (a b : Reading) → AreAlike a b → HoldAlike a b
hold-alike a b s = record { version = s.version; held = s.held; alone = s.alone }

pub same-ok : {A E : Type 0} (r : Result A E) (a b : A) → r ≡ Ok a → r ≡ Ok b → a ≡ b
same-ok r a b e f = cc

pub if-known : {A : Type 0} (F : A → Type 0) (o : Option A) (a : A) → o ≡ Some a → IfSome o F → F a
if-known F o a e h = subst (λ x. IfSome x F) e h

-- of readers that hold the same, the next answer
answers-alike : (a b c d : Reading) → HoldAlike a b → TakesAnswer a c → TakesAnswer b d → AreAlike c d
answers-alike a b c d h s t = record {
  pieces = answer_pieces (first_answer a.held.answers);
  first = s.to_come;
  second = t.to_come ∙ ap (λ (x : TransportState). Some (answer_pieces (first_answer x.answers))) (sym h.held);
  stopped = s.stopped ∙ sym t.stopped;
  version = s.version ∙ h.version ∙ sym t.version;
  held = s.held ∙ ap (λ (x : TransportState). record x { answers = later_answers x.answers }) h.held ∙ sym t.held;
  alone = ap (λ (x : TransportState). x.persists) s.held ∙ h.alone;
}

-- the lines up to a stop, and what is after it
record SameLines (ts us : List (List ℕ)) (k l : MessageKind) (p q : Pieces) : Type 0 where
  texts : ts ≡ us
  kind : k ≡ l
  rest : p ≡ q

same-lines : (l : Lines) (texts others : List (List ℕ)) (kind other : MessageKind) (p q : Pieces) → l ≡ lines_to texts (stop kind p)
    → l ≡ lines_to others (stop other q) → SameLines texts others kind other p q
same-lines l texts others kind other p q e f =
    let ends : stop kind p ≡ stop other q = ap (λ (x : Lines). x.ending) (sym e ∙ f) in
    record { texts = ap (λ (x : Lines). x.lines) (sym e ∙ f); kind = cc ends; rest = cc ends }

pub same-ahead : (a b : Reading) (p : Pieces) → a.stopped ≡ b.stopped → a.version ≡ b.version → lines_ahead a p ≡ lines_ahead b p
same-ahead a b p e f = ap (λ s. lines_from_stop s a.version p) e ∙ ap (λ v. lines_from_stop b.stopped v p) f

-- what reading lines up to a stop says of any reader
record Stops (old new : Reading) (texts : List (List ℕ)) (kind : MessageKind) : Type 0 where
  lines : IfSome old.to_come (λ p. (q : Pieces) × (new.to_come ≡ Some q) × (lines_ahead old p ≡ lines_to texts (stop kind q)))
  stopped : new.stopped ≡ Some kind
  version : new.version ≡ old.version
  held : new.held ≡ old.held

record StopAlike (c d : Reading) (ts us : List (List ℕ)) : Type 0 where
  alike : AreAlike c d
  texts : ts ≡ us

stops-alike : (a b c d : Reading) (texts others : List (List ℕ)) (kind other : MessageKind) → AreAlike a b → Stops a c texts kind
    → Stops b d others other → StopAlike c d texts others
stops-alike a b c d texts others kind other s l r =
    let x = if-known _ a.to_come s.pieces s.first l.lines in
    let y = if-known _ b.to_come s.pieces s.second r.lines in
    let same = same-lines _ texts others kind other x.0 y.0 x.2 (same-ahead a b s.pieces s.stopped s.version ∙ y.2) in
    record {
      alike = record {
        pieces = x.0;
        first = x.1;
        second = y.1 ∙ ap Some (sym same.rest);
        stopped = l.stopped ∙ ap Some same.kind ∙ sym r.stopped;
        version = l.version ∙ s.version ∙ sym r.version;
        held = l.held ∙ s.held ∙ sym r.held;
        alone = ap (λ (x : TransportState). x.persists) l.held ∙ s.alone;
      };
      texts = same.texts;
    }

-- ---- a handshake

record SameAnswer (x y : SetServiceResponse) : Type 0 where
  version : x.actual_protocol ≡ y.actual_protocol
  capabilities : x.capabilities ≡ y.capabilities
  follow : x.has_refs ≡ y.has_refs

record AdvertisedSo (c d : Reading) (x y : SetServiceResponse) : Type 0 where
  alike : AreAlike c d
  same : SameAnswer x y

advertised-alike : (a b c d : Reading) (x y : SetServiceResponse) → AreAlike a b → ReadsAdvertisement advertisement a c x
    → ReadsAdvertisement advertisement b d y → AdvertisedSo c d x y
advertised-alike a b c d x y s l r =
    let u = if-known _ a.to_come s.pieces s.first l.value in
    let w = if-known _ b.to_come s.pieces s.second r.value in
    let same : u.0 ≡ w.0 = same-ok (advertisement s.pieces) u.0 w.0 u.1 w.1 in
    record {
      alike = record {
        pieces = u.0.rest;
        first = u.2.rest;
        second = w.2.rest ∙ ap (λ (z : Advertised). Some z.rest) (sym same);
        stopped = u.2.stopped ∙ ap (λ (z : Advertised). z.stopped) same ∙ sym w.2.stopped;
        version = l.version ∙ u.2.version ∙ ap (λ (z : Advertised). z.version) same ∙ sym w.2.version ∙ sym r.version;
        held = l.held ∙ s.held ∙ sym r.held;
        alone = ap (λ (x : TransportState). x.persists) l.held ∙ s.alone;
      };
      same = record {
        version = u.2.version ∙ ap (λ (z : Advertised). z.version) same ∙ sym w.2.version;
        capabilities = u.2.capabilities ∙ ap (λ (z : Advertised). z.capabilities) same ∙ sym w.2.capabilities;
        follow = u.2.has_refs ∙ ap (λ (z : Advertised). z.has_refs) same ∙ sym w.2.has_refs;
      };
    }

-- the next answer was taken, and read
pub record ReceivesAdvertisement (old new : Reading) (x : SetServiceResponse) : Type 0 where
  pub mid : Reading
  pub takes : TakesAnswer old mid
  pub reads : ReadsAdvertisement advertisement mid new x

pub receives-by : (service : Service) (ps : List Parameter) (persists : Bool) (old new : Reading) (x : SetServiceResponse)
    → persists ≡ false → HandshakesBy persists service ps old new (Ok x) → ReceivesAdvertisement old new x
receives-by service ps true old new x e h = cc e
receives-by service ps false old new x e (inl h) = cc h.1
receives-by service ps false old new x e (inr h) = record { mid = h.0; takes = h.1; reads = h.3 }

abbrev opened_ok : SetServiceResponse → OpeningResult
opened_ok x = Ok x

module _ (old mid new : Reading) (turns : List CredentialCall) (x : SetServiceResponse) where
  -- who wants an account gets none
  undenied : (denied : Bool) (e : client_error) → AreUnanswered turns → Denied denied e UploadPack [] mid new turns (Ok x)
      → ReceivesAdvertisement old new x
  undenied false e u d = cc d.2
  undenied true e u (inr n) = cc n.error
  undenied true e u (inl l) =
      let answered = subst AreUnanswered l.all u in
      let got : Got UploadPack [] (Ok None) mid.held.url mid new l.later (Ok x) =
      subst (λ a. Got UploadPack [] a mid.held.url mid new l.later (Ok x)) answered.0 l.got in
      cc got.2

  first-received : (first : Result SetServiceResponse client_error) → old.held.persists ≡ false → AreUnanswered turns
      → Handshakes UploadPack [] old mid first → First first UploadPack [] mid new turns (Ok x) → ReceivesAdvertisement old new x
  first-received (Ok found) p u h f =
      receives-by UploadPack [] old.held.persists old new x p
      (subst (λ (n : Reading). Handshakes UploadPack [] old n (Ok x)) (sym f.1)
      (subst (λ (y : SetServiceResponse). Handshakes UploadPack [] old mid (Ok y)) (sym (by_ok f.2)) h))
    where
      by_ok : {y z : SetServiceResponse} → opened_ok y ≡ opened_ok z → y ≡ z
      by_ok e = cc
  first-received (Err e) p u h f = undenied _ e u f

-- a handshake that came to its refs
pub record Greeted (plain : Bool) (old new : Reading) (h : Handshake) : Type 0 where
  pub mid : Reading
  pub found : SetServiceResponse
  pub accepted : is_accepted old.held.accepted found.actual_protocol ≡ true
  pub receives : ReceivesAdvertisement old mid found
  pub first : ReadsFirst found.has_refs found plain mid new (Ok h)
  pub version : h.server_protocol_version ≡ found.actual_protocol
  pub capabilities : h.capabilities ≡ found.capabilities

module _ (plain : Bool) (old new : Reading) (h : Handshake) (turns : List CredentialCall) where
  kept-accepted : (accepted : Bool) (mid : Reading) (found : SetServiceResponse) → is_accepted old.held.accepted found.actual_protocol
      ≡ accepted → ReceivesAdvertisement old mid found → KeepsVersion accepted found plain mid new (Ok h)
      → Greeted plain old new h
  kept-accepted true mid found a o k =
      record { mid = mid; found = found; accepted = a; receives = o; first = k.0; version = k.1.0; capabilities = k.1.1 }
  kept-accepted false mid found a o k = cc k.1

  greeted-by : (opened : OpeningResult) (mid : Reading) → old.held.persists ≡ false → AreUnanswered turns
      → Opens UploadPack [] old mid turns opened ⊎ StopsForMemory old mid turns opened
      → FinishesHandshake old.held.accepted opened plain mid new (Ok h) → Greeted plain old new h
  greeted-by (Err e) mid p u o g = cc g.1
  greeted-by (Ok found) mid p u (inr n) g = cc n.error
  greeted-by (Ok found) mid p u (inl o) g = kept-accepted (is_accepted old.held.accepted found.actual_protocol) mid found refl
      (first-received old o.1 mid turns found o.0 p u o.2 o.3) g

pub greeted : (plain : Bool) (old new : Reading) (h : Handshake) → old.held.persists ≡ false → GreetsWithoutAccount plain old new (Ok h)
    → Greeted plain old new h
greeted plain old new h p g = greeted-by plain old new h g.turns g.shakes.opened g.shakes.mid p g.unanswered g.shakes.opens g.shakes.goes_on

pub record SameGreeting (c d : Reading) (h k : Handshake) : Type 0 where
  pub alike : AreAlike c d
  pub version : h.server_protocol_version ≡ k.server_protocol_version
  pub capabilities : h.capabilities ≡ k.capabilities
  pub refs : values_of h.refs ≡ values_of k.refs

record SameRefs (c d : Reading) (h k : Handshake) : Type 0 where
  alike : AreAlike c d
  refs : values_of h.refs ≡ values_of k.refs

stops-v1 : (t : List Symref) (old new : Reading) (refs : List Ref) (updates : List ShallowUpdate) (r : ReadsV1 t old new refs updates)
    → Stops old new r.texts r.kind
stops-v1 t old new refs updates r = record { lines = r.lines; stopped = r.stopped; version = r.version; held = r.held }

first-refs-alike : (follow : Bool) (plain : Bool) (a b c d : Reading) (x y : SetServiceResponse) (h k : Handshake) → AreAlike a b
    → x.capabilities ≡ y.capabilities → ReadsFirst follow x plain a c (Ok h)
    → ReadsFirst follow y plain b d (Ok k) → SameRefs c d h k
first-refs-alike false plain a b c d x y h k s e l r = record {
  alike = subst (λ z. AreAlike c z) (sym r.0) (subst (λ z. AreAlike z b) (sym l.0) s);
  refs = ap values_of l.1 ∙ sym (ap values_of r.1);
}
first-refs-alike true plain a b c d x y h k s e l r =
    let t : l.4.0 ≡ r.4.0 = same-ok (symref_table y.capabilities) l.4.0 r.4.0 (ap symref_table (sym e) ∙ l.4.1) r.4.1 in
    let o = stops-alike a b c d l.4.2.texts r.4.2.texts l.4.2.kind r.4.2.kind s (stops-v1 _ _ _ _ _ l.4.2) (stops-v1 _ _ _ _ _ r.4.2) in
    let values : map ref_value l.0.items ≡ map ref_value r.0.items =
    same-ok (groups r.4.2.texts None r.4.0 None) _ _ (ap (λ ts. groups ts None r.4.0 None) (sym o.texts)
    ∙ ap (λ z. groups l.4.2.texts None z None) (sym t) ∙ l.4.2.values) r.4.2.values in
    record {
      alike = o.alike;
      refs = ap values_of l.2 ∙ ap Some values ∙ sym (ap values_of r.2);
    }

pub greetings-alike : (plain : Bool) (a b c d : Reading) (h k : Handshake) → HoldAlike a b → GreetsWithoutAccount plain a c (Ok h)
    → GreetsWithoutAccount plain b d (Ok k) → SameGreeting c d h k
greetings-alike plain a b c d h k s l r =
    let x = greeted plain a c h s.alone l in
    let y = greeted plain b d k (ap (λ (z : TransportState). z.persists) (sym s.held) ∙ s.alone) r in
    let advertised = advertised-alike x.receives.mid y.receives.mid x.mid y.mid x.found y.found
    (answers-alike a b x.receives.mid y.receives.mid s x.receives.takes y.receives.takes) x.receives.reads y.receives.reads in
    let refs = first-refs-alike y.found.has_refs plain x.mid y.mid c d x.found y.found h k advertised.alike advertised.same.capabilities
    (subst (λ f. ReadsFirst f x.found plain x.mid c (Ok h)) advertised.same.follow x.first) y.first in
    record {
      alike = refs.alike;
      version = x.version ∙ advertised.same.version ∙ sym y.version;
      capabilities = x.capabilities ∙ advertised.same.capabilities ∙ sym y.capabilities;
      refs = refs.refs;
    }

-- ---- a ref map

-- by the refs that came first, or by those of the listing
abbrev ObtainedBy : Option (Vec Ref Global) → List CapabilityValue → Context → Reading → Reading → RefMap → Type 0
ObtainedBy (Some refs) caps context old new m = (new ≡ old) × MakesMap caps context refs.items (Ok m)
ObtainedBy None caps context old new m =
    (refs : Vec Ref Global) × Listed (listing git_table (prefixes_if true
    (joined_specs context.fetch_refspecs.items context.extra_refspecs.items)) caps planner_agent) old new refs.items
    × MakesMap caps context refs.items (Ok m)

abbrev ok_map : RefMap → Result RefMap map_error
ok_map m = Ok m

listed-ok : (l : Listing) (context : Context) (plain : Bool) (old new : Reading) (m : RefMap)
    (listed : Result (Vec Ref Global) list_error) → Lists l plain old new listed → ByList l.capabilities context listed (Ok m)
    → (refs : Vec Ref Global) × Listed l old new refs.items × MakesMap l.capabilities context refs.items (Ok m)
listed-ok l context plain old new m (Ok refs) h b = (refs, h, b)
listed-ok l context plain old new m (Err e) h b = cc b

module _ (caps : List CapabilityValue) (context : Context) (plain : Bool) (old new : Reading) (m : RefMap) where
  obtained-by : (refs : Option (Vec Ref Global)) (prepared : Result ObtainRefMap map_error)
      → PreparesBy refs git_table true planner_agent context caps prepared → ObtainsBy prepared plain old new (Ok m)
      → ObtainedBy refs caps context old new m
  obtained-by refs (Err e) p o = cc o.1
  obtained-by None (Ok (Existing x)) p o = absurd p
  obtained-by (Some refs) (Ok (LsRefsCommand command handed)) p o = absurd p
  obtained-by (Some refs) (Ok (Existing x)) p o = (o.0, subst (λ y. MakesMap caps context refs.items (Ok y)) (sym (by_ok o.1)) p)
    where
      by_ok : {y z : RefMap} → ok_map y ≡ ok_map z → y ≡ z
      by_ok e = cc
  obtained-by None (Ok (LsRefsCommand command handed)) p o =
      let found = listed-ok (listing_of command) handed plain old new m o.listed o.lists o.maps in
      let so = subst (λ (l : Listing). (refs : Vec Ref Global) × Listed l old new refs.items
      × MakesMap l.capabilities handed refs.items (Ok m)) p.0 found in
      (so.0, so.1, subst (λ (y : Context). MakesMap caps y so.0.items (Ok m)) p.1 so.2)

obtained : (context : Context) (h : Handshake) (plain : Bool) (old new : Reading) (made : RefMap)
    → Obtains git_table planner_agent context h plain old new (Ok made) → ObtainedBy h.refs h.capabilities context old new made
obtained context h plain old new made o = obtained-by h.capabilities context plain old new made h.refs o.prepared o.prepares o.obtains

-- the specs of a context are those of the words
abbrev pub all_specs : Context → List Spec
all_specs context = joined_specs context.fetch_refspecs.items context.extra_refspecs.items

pub same-specs : (words : List (List ℕ)) (x y : Context) → IsContext words x → IsContext words y → all_specs x ≡ all_specs y
same-specs words x y l r =
    ap (λ s. s ++ map owned_value_of x.extra_refspecs.items) (same-ok (specs_of words) _ _ l.specs r.specs)
    ∙ ap (λ (s : List RefSpec). map owned_value_of y.fetch_refspecs.items ++ map owned_value_of s) (l.extra ∙ sym r.extra)

pub record SameMap (c d : Reading) (m n : RefMap) : Type 0 where
  pub alike : AreAlike c d
  pub shown : map_shown m ≡ map_shown n
  pub mappings : LookAlike m.mappings.items n.mappings.items

-- after the same request the next answer
pub sent-alike : (a b c d : Reading) (text other : List ℕ) → HoldAlike a b → text ≡ other → SentBy a.held.persists a c text
    → SentBy b.held.persists b d other → AreAlike c d
sent-alike a b c d text other s e l r =
    let p : b.held.persists ≡ false = ap (λ (z : TransportState). z.persists) (sym s.held) ∙ s.alone in
    let x : SentBy false a c text = subst (λ z. SentBy z a c text) s.alone l in
    let y : SentBy false b d text = subst (λ t. SentBy false b d t) (sym e) (subst (λ z. SentBy z b d other) p r) in
    answers-alike (entered (with_written a (Some text))) (entered (with_written b (Some text))) c d
    (record {
      version = s.version;
      held = ap
          (λ (z : TransportState). (entered (with_written (record a { held = z }) (Some text))).held) s.held;
      alone = s.alone;
    }) x.0 y.0

stops-refs : (old new : Reading) (refs : List Ref) (r : ReadsRefs old new refs) → Stops old new r.texts r.kind
stops-refs old new refs r = record { lines = r.lines; stopped = r.stopped; version = r.version; held = r.held }

record SameListing (c d : Reading) (xs ys : List Ref) : Type 0 where
  alike : AreAlike c d
  refs : map ref_value xs ≡ map ref_value ys

listings-alike : (x y : Listing) (a b c d : Reading) (refs others : List Ref) → x ≡ y → AreAlike a b → Listed x a c refs
    → Listed y b d others → SameListing c d refs others
listings-alike x y a b c d refs others e s l m =
    let r : Listed x b d others = subst (λ z. Listed z b d others) (sym e) m in
    let mid = sent-alike a b l.mid r.mid _ _ (hold-alike a b s) refl l.sent.1 r.sent.1 in
    let o = stops-alike l.mid r.mid c d l.read.texts r.read.texts l.read.kind r.read.kind mid (stops-refs _ _ _ l.read)
    (stops-refs _ _ _ r.read) in
    record {
      alike = o.alike;
      refs =
          same-ok (v2_refs (lines_ahead r.mid mid.pieces)) _ _
          (ap v2_refs (sym (same-ahead l.mid r.mid mid.pieces mid.stopped mid.version))
          ∙ if-known _ l.mid.to_come mid.pieces mid.first l.read.value)
          (if-known _ r.mid.to_come mid.pieces mid.second r.read.value);
    }

made-alike : (caps others : List CapabilityValue) (x y : Context) (refs more : List Ref) (m n : RefMap) → all_specs x ≡ all_specs y
    → map ref_value refs ≡ map ref_value more → MakesMap caps x refs (Ok m)
    → MakesMap others y more (Ok n) → map_shown m ≡ map_shown n
made-alike caps others x y refs more m n e f l r =
    map-text (unknown_format caps) (all_specs x) _ (map ref_value refs) m l.maps
    ∙ ap (λ s. map_text s (map ref_value refs)) e
    ∙ ap (map_text (all_specs y)) f
    ∙ sym (map-text (unknown_format others) (all_specs y) _ (map ref_value more) n r.maps)

maps-alike : (refs more : Option (Vec Ref Global)) (caps others : List CapabilityValue) (x y : Context) (a b c d : Reading)
    (m n : RefMap) → values_of refs ≡ values_of more → caps ≡ others → all_specs x ≡ all_specs y
    → AreAlike a b → ObtainedBy refs caps x a c m → ObtainedBy more others y b d n → SameMap c d m n
maps-alike (Some refs) None caps others x y a b c d m n v e f s l r = cc v
maps-alike None (Some more) caps others x y a b c d m n v e f s l r = cc v
maps-alike (Some refs) (Some more) caps others x y a b c d m n v e f s l r = record {
  alike = subst (λ z. AreAlike c z) (sym r.0) (subst (λ z. AreAlike z b) (sym l.0) s);
  shown = made-alike caps others x y refs.items more.items m n f (cc v) l.1 r.1;
  mappings = look-alike (unknown_format caps) (unknown_format others) (all_specs x) (all_specs y) _ _ (map ref_value refs.items)
      (map ref_value more.items) m n f (cc v) l.1.maps r.1.maps;
}
maps-alike None None caps others x y a b c d m n v e f s l r =
    let same : listing git_table (prefixes_if true (all_specs x)) caps planner_agent
    ≡ listing git_table (prefixes_if true (all_specs y)) others planner_agent =
    ap (λ specs. listing git_table (prefixes_if true specs) caps planner_agent) f
    ∙ ap (λ z. listing git_table (prefixes_if true (all_specs y)) z planner_agent) e in
    let o = listings-alike _ _ a b c d l.0.items r.0.items same s l.1 r.1 in
    record {
      alike = o.alike;
      shown = made-alike caps others x y l.0.items r.0.items m n f o.refs l.2 r.2;
      mappings = look-alike (unknown_format caps) (unknown_format others) (all_specs x) (all_specs y) _ _ (map ref_value l.0.items)
          (map ref_value r.0.items) m n f o.refs l.2.maps r.2.maps;
    }

-- ---- both steps

abbrev pub state : Option (List ℕ) → List (List ℕ) → List Answer → List ℕ → List Protocol → Option (List ℕ × List ℕ) → TransportState
state written sent answers url accepted identity = record {
  persists = false;
  written = written;
  sent = sent;
  answers = answers;
  broken = None;
  greeting = None;
  url = url;
  accepted = accepted;
  identity = identity;
  names = [];
}

pub new-held : (bodies : List Body) (b : Bodies) → IsNewBodies bodies [] [] b
    → bodies_held b ≡ state (Some []) [] (map answer_of bodies) [] [] None
new-held bodies b h =
    let was = bodies_held b in
    ap (λ w. state w was.sent was.answers was.url was.accepted was.identity) h.written
    ∙ ap (λ s. state (Some []) s was.answers was.url was.accepted was.identity) h.sent
    ∙ ap (λ a. state (Some []) [] a was.url was.accepted was.identity) h.answers
    ∙ ap (λ u. state (Some []) [] (map answer_of bodies) u was.accepted was.identity) h.url
    ∙ ap (λ v. state (Some []) [] (map answer_of bodies) [] v was.identity) h.accepted
    ∙ ap (λ i. state (Some []) [] (map answer_of bodies) [] [] i) h.identity

pub both-greet : (bodies : List Body) (specs : List (List ℕ)) (sent others : List (List ℕ)) (m n : RefMap)
    (l : IsMapped bodies specs sent m) (r : IsMapped bodies specs others n)
    → SameGreeting l.mid r.mid l.handshake r.handshake
both-greet bodies specs sent others m n l r =
    greetings-alike true (bodies_reading l.transport) (bodies_reading r.transport) l.mid r.mid l.handshake r.handshake
    (record {
      version = l.over.version ∙ sym r.over.version;
      held = new-held bodies l.transport l.over
          ∙ sym (new-held bodies r.transport r.over);
      alone = refl;
    }) l.greets r.greets

pub both-alike : (bodies : List Body) (specs : List (List ℕ)) (sent others : List (List ℕ)) (m n : RefMap)
    (l : IsMapped bodies specs sent m) (r : IsMapped bodies specs others n) → SameMap l.following r.following m n
both-alike bodies specs sent others m n l r =
    let greeting = both-greet bodies specs sent others m n l r in
    let one = l.maps in
    let other = r.maps in
    let made =
    maps-alike l.handshake.refs r.handshake.refs l.handshake.capabilities r.handshake.capabilities l.context r.context l.mid r.mid
    l.following r.following one.0 other.0 greeting.refs greeting.capabilities
    (same-specs specs l.context r.context l.read r.read) greeting.alike (obtained l.context l.handshake true l.mid l.following one.0 one.1)
    (obtained r.context r.handshake true r.mid r.following other.0 other.1) in
    record {
      alike = made.alike;
      shown = ap map_shown one.2.0 ∙ made.shown ∙ sym (ap map_shown other.2.0);
      mappings =
          subst (λ xs. LookAlike xs n.mappings.items) (sym (ap (λ (x : RefMap). x.mappings.items) one.2.0))
          (subst (λ ys. LookAlike one.0.mappings.items ys) (sym (ap (λ (x : RefMap). x.mappings.items) other.2.0)) made.mappings);
    }

pub mappings-follow : MappingsFollow
mappings-follow bodies specs sent others m n l r =
    let both = both-alike bodies specs sent others m n l r in
    (sym l.by_then ∙ ap (λ (z : TransportState). z.sent) both.alike.held ∙ r.by_then, both.shown)

-- ---- the requests of a fetch come after those before it

pub record Extends (old new : Reading) : Type 0 where
  pub later : List (List ℕ)
  pub sent : new.held.sent ≡ old.held.sent ++ later

extends-none : (old new : Reading) → new.held.sent ≡ old.held.sent → Extends old new
extends-none old new e = record { later = []; sent = e ∙ sym (append-nil old.held.sent) }

extends-one : (old new : Reading) (bytes : List ℕ) → TakesAnswer (entered (with_written old (Some bytes))) new → Extends old new
extends-one old new bytes t = record { later = bytes ∷ []; sent = ap (λ (z : TransportState). z.sent) t.held }

extends-more : (a b c : Reading) → Extends a b → Extends b c → Extends a c
extends-more a b c x y =
    record { later = x.later ++ y.later; sent = y.sent ∙ ap (λ l. l ++ y.later) x.sent ∙ append_assoc a.held.sent x.later y.later }

sends-extends : (old new : Reading) (fit : Bool) (bytes : List ℕ) (r : Result (Unit {0}) client_error) → old.held.persists ≡ false
    → Sends old new fit bytes r → Extends old new
sends-extends old new fit bytes (Ok x) p s = let t : SentBy false old new bytes = subst (λ z. SentBy z old new bytes) p s.1 in
    extends-one old new bytes t.0
sends-extends old new fit bytes (Err (client.Io kind)) p s = let t : FailsBy false old new bytes kind =
    subst (λ z. FailsBy z old new bytes kind) p s.1 in extends-one old new bytes t.0
sends-extends old new fit bytes (Err client.LineTooLong) p s = extends-none old new (ap (λ (z : Reading). z.held.sent) s.1)
sends-extends old new fit bytes (Err client.Memory) p s = extends-none old new (ap (λ (z : Reading). z.held.sent) s.0)
sends-extends old new fit bytes (Err (client.Read e)) p s = absurd s
sends-extends old new fit bytes (Err client.AuthenticationUnsupported) p s = absurd s
sends-extends old new fit bytes (Err (client.UnsupportedProtocolVersion line)) p s = absurd s
sends-extends old new fit bytes (Err client.MissingDelimitingNullByte) p s = absurd s

wrote-extends : (old new : Reading) (requests : List (List ℕ)) → old.held.persists ≡ false → WroteRequests old new requests
    → Extends old new
wrote-extends old new requests p w = record { later = requests; sent = w.enters p }

sent-extends : (old sent new : Reading) → new.held ≡ sent.held → Extends old sent → Extends old new
sent-extends old sent new h s = record { later = s.later; sent = ap (λ (z : TransportState). z.sent) h ∙ s.sent }

round-extends : (old new : Reading) (asked : ArgumentsValue) (done : Bool) (r : Result (Unit {0}) client_error)
    → old.held.persists ≡ false → SendsRound old new asked done r → Extends old new
round-extends old new asked done r p s = sends-extends old new (request_fits asked done) (texts_of (request asked done)) r p s

module _ {N I A E : Type 0} (m : Manner N I A) where
  breaks-extend : (before : At N I) (asked : ArgumentsValue) (done : Bool) (e : FetchError A E) (new : Reading)
      → before.reading.held.persists ≡ false → Breaks m before asked done e new → Extends before.reading new
  breaks-extend before asked done e new p (before_request w r) = extends-none before.reading new (ap (λ (z : Reading). z.held.sent) r)
  breaks-extend before asked done e new p (at_request error s g) = round-extends before.reading new asked done (Err error) p s
  breaks-extend before asked done e new p (after_request s w) = round-extends before.reading new asked done (Ok tt) p s
  breaks-extend before asked done e new p (at_answer sent s error a h g) =
      sent-extends before.reading sent new h (round-extends before.reading sent asked done (Ok tt) p s)
  breaks-extend before asked done e new p (after_answer sent s reply a h w) =
      sent-extends before.reading sent new h (round-extends before.reading sent asked done (Ok tt) p s)

  refused-extends : (before : At N I) (e : FetchError A E) (n : N) (new : Reading) (left : I) → before.reading.held.persists ≡ false
      → TurnFails m before e n new left → Extends before.reading new
  refused-extends before e n new left p (inl u) = extends-none before.reading new (ap (λ (z : Reading). z.held.sent) u.position)
  refused-extends before e n new left p (inr b) = breaks-extend before b.asked b.done e new p b.breaks

module _ {N I A S C P X : Type 0} (parties : Parties N I A S C P X) where
  same-extends : (call : FetchCall) (old last : World N I S C) → Untouched parties old last → Extends old.reading last.reading
  same-extends call old last u = extends-none old.reading last.reading (ap (λ (z : Reading). z.held.sent) u.reading)

  ends-extend : (call : FetchCall) (banded : Bool) (ids : List ObjectId) (c : C) (read : S) (locked : Bool)
      (turns : List (FetchTurn N I)) (before : At N I) (e : FetchError A X) (last : World N I S C) (progress : P)
      (old : Reading) (requests : List (List ℕ)) → old.held.persists ≡ false
      → (ends : RoundsBreakOff parties call banded ids c read locked turns before e last progress)
      → WroteRequests old (answered_at parties ends) requests → Extends old last.reading
  ends-extend call banded ids c read locked turns before e last progress old requests p (unnamed g at i u) w =
      sent-extends old before.reading last.reading (ap (λ (z : Reading). z.held) at.reading) (wrote-extends old before.reading requests p w)
  ends-extend call banded ids c read locked turns before e last progress old requests p (by_caller s g at u) w =
      sent-extends old before.reading last.reading (ap (λ (z : Reading). z.held) at.reading) (wrote-extends old before.reading requests p w)
  ends-extend call banded ids c read locked turns before e last progress old requests p (exhausted t r d n g at i u) w =
      sent-extends old t.after.reading last.reading (ap (λ (z : Reading). z.held) at.reading)
      (wrote-extends old t.after.reading requests p w)
  ends-extend call banded ids c read locked turns before e last progress old requests p (at_round i s f u) w =
      extends-more old before.reading last.reading (wrote-extends old before.reading requests p w)
      (refused-extends _ (record before { interrupt = i }) e last.negotiate last.reading last.interrupt (w.persists ∙ p) f)
  ends-extend call banded ids c read locked turns before e last progress old requests p (after_pack t r k n h u) w =
      sent-extends old t.after.reading last.reading h (wrote-extends old t.after.reading requests p w)

  refuses-extend : (call : FetchCall) (old : World N I S C) (e : FetchError A X) (last : World N I S C) (progress : P)
      → old.reading.held.persists ≡ false → SessionFails parties call old e last progress → Extends old.reading last.reading
  refuses-extend call old e last progress p (at_depth given banded held prepared l u n t) = same-extends call old last t
  refuses-extend call old e last progress p (at_wants banded ids asked a u t) = same-extends call old last t
  refuses-extend call old e last progress p (in_session b) =
      ends-extend call b.banded b.ids old.consumer b.read b.locked b.turns b.before e last progress old.reading _ p b.ends b.requests

  released-extends : (old : Reading) (last new : World N I S C) → Releases parties last new → Extends old last.reading
      → Extends old new.reading
  released-extends old last new r x = subst (λ (z : Reading). Extends old z) (sym (ap (λ (w : World N I S C). w.reading) r.position)) x

  session-extends : (call : FetchCall) (old : World N I S C) (r : Result (Option Outcome) (FetchError A X)) (new : World N I S C)
      (progress : P) → old.reading.held.persists ≡ false → HoldsSession parties call old r new progress
      → Extends old.reading new.reading
  session-extends call old (Ok (Some outcome)) new progress p h =
      released-extends old.reading h.0 new h.2 (wrote-extends old.reading h.0.reading _ p h.1.requests)
  session-extends call old (Ok None) new progress p h = released-extends old.reading h.0 new h.2 (same-extends call old h.0 h.1.untouched)
  session-extends call old (Err e) new progress p (inl (unprepared u s)) =
      extends-none old.reading new.reading (ap (λ (w : World N I S C). w.reading.held.sent) s)
  session-extends call old (Err e) new progress p (inl (unlocked a b k m u s)) =
      extends-none old.reading new.reading (ap (λ (w : World N I S C). w.reading.held.sent) s)
  session-extends call old (Err e) new progress p (inr h) =
      released-extends old.reading h.0 new h.2 (refuses-extend call old e h.0 progress p h.1)

  -- what is known of a whole fetch
  abbrev pub Holds : Type 0
  Holds = (call : FetchCall) (first : World N I S C) (r : Result (Option Outcome) (FetchError A X)) (last : World N I S C)
      (progress : P) → Fetches parties call first r last progress
      → HoldsSession parties call first r last progress

  pub fetches-extend : Holds → (IsOver : N → Type 0) (IsEmpty : S → Type 0) (h : Handshake) (old new : Reading)
      (r : Result (Option Outcome) (FetchError A X)) → old.held.persists ≡ false
      → FetchesMapped parties IsOver IsEmpty h old new r → Extends old new
  fetches-extend holds IsOver IsEmpty h old new r p (inr n) = extends-none old new (ap (λ (z : Reading). z.held.sent) n.0)
  fetches-extend holds IsOver IsEmpty h old new r p (inl f) =
      let s = holds (planner_call h) f.first r f.last f.progress f.fetched.fetched in
      let x = session-extends (planner_call h) f.first r f.last f.progress
      (subst (λ (z : Reading). z.held.persists ≡ false) (sym f.begins) p) s in
      subst (λ (z : Reading). Extends old z) f.ends (subst (λ (z : Reading). Extends z f.last.reading) f.begins x)

-- ---- a session that is shown

abbrev ends_in : Bool → Result Bool PlanRefusal
ends_in pack = Ok pack

abbrev ends_refused : PlanRefusal → Result Bool PlanRefusal
ends_refused e = Err e

not-refused : (pack : Bool) (e : PlanRefusal) → ends_in pack ≡ ends_refused e → ⊥
not-refused pack e h = cc

pub not-ok : (e : PlanRefusal) → IsOk (ends_refused e) → ⊥
not-ok e h = cc

-- the steps of a session that came to its end came to the same one, and no failure was counted
pub record EndedWhole (failures : ℕ) (ran ended : Result Bool PlanRefusal) : Type 0 where
  pub uncounted : failures ≡ 0
  pub same : ended ≡ ran
  pub whole : IsOk ran

pub ended-whole : (failures : ℕ) (ran ended : Result Bool PlanRefusal) → ended ≡ end_counted failures ran → IsOk ended
    → EndedWhole failures ran ended
ended-whole failures (Err e) ended h k = absurd (not-ok e (subst (λ (r : Result Bool PlanRefusal). IsOk r) h k))
ended-whole failures (Ok pack) ended h k = by_count (failures == 0) refl
  where
    by_count : (b : Bool) → (failures == 0) ≡ b → EndedWhole failures (Ok pack) ended
    by_count true e =
        let same : ended ≡ Ok pack = rw e at h in
        record { uncounted = grind (arith, nat_tests); same = same; whole = subst (λ (r : Result Bool PlanRefusal). IsOk r) same k }
    by_count false e = let refused : ended ≡ Err (refusal (codes "fetch") (codes "FetchResponse")) = rw e at h in
        absurd (not-ok (refusal (codes "fetch") (codes "FetchResponse")) (subst (λ (r : Result Bool PlanRefusal). IsOk r) refused k))

-- the step of a session that was refused before its fetch
pub step-before : (failures : ℕ) (ran ended : Result Bool PlanRefusal) (e : PlanRefusal) {why : PlanRefusal}
    → ended ≡ end_counted failures ran → ended ≡ Err e → ran ≡ Err why → e.step ≡ why.step
step-before failures ran ended e {why} h k f =
    let same : ends_refused e ≡ ends_refused why = sym k ∙ h ∙ ap (end_counted failures) f in
    let alike : e ≡ why = cc same in
    ap (λ (r : PlanRefusal). r.step) alike

module _ {A X : Type 0} (Receives : RefMap → Handshake → Reading → Reading → Result (Option Outcome) (FetchError A X) → Type 0)
    (bodies : List Body) (specs : List (List ℕ)) (old new : Option (List ℕ)) where
  -- a fetch writes after what was sent
  abbrev pub FetchExtends : Type 0
  FetchExtends = (m : RefMap) (h : Handshake) (from to : Reading) (r : Result (Option Outcome) (FetchError A X))
      → from.held.persists ≡ false → Receives m h from to r → Extends from to

  shown-fetched : FetchExtends → (context : Context) (transport : Bodies) (mid following last : Reading) (h : Handshake) (m : RefMap)
      (r : Result (Option Outcome) (FetchError A X)) (sent : List (List ℕ)) (made : Option RefMap)
      (ended : Result Bool PlanRefusal) → IsContext specs context → IsNewBodies bodies [] [] transport
      → GreetsWithoutAccount true (bodies_reading transport) mid (Ok h) → MapsRefs context h true mid following (Ok m)
      → Receives m (without_refs h) following last r → made ≡ Some m → last.held.sent ≡ sent
      → Appends old new (requests_shown sent ++ mapped_shown made ++ end_shown ended) → ShowsMapped bodies specs old new ended
  shown-fetched following-it context transport mid following last h m r sent made ended c n g l t e s w =
      let mapped : IsMapped bodies specs following.held.sent m =
      record {
        context = context;
        transport = transport;
        handshake = h;
        mid = mid;
        following = following;
        read = c;
        over = n;
        greets = g;
        maps = l;
        by_then = refl;
      } in
      let alone = both-alike bodies specs following.held.sent following.held.sent m m mapped mapped in
      let x = following-it m (without_refs h) following last r alone.alike.alone t in
      record {
        sent = following.held.sent;
        made = m;
        mapped = mapped;
        later = x.later;
        text = subst (λ q. Appends old new (requests_shown q ++ map_shown m ++ end_shown ended)) (sym s ∙ x.sent)
            (subst (λ o. Appends old new (requests_shown sent ++ mapped_shown o ++ end_shown ended)) e w);
      }

  shown-run : FetchExtends → (context : Context) (transport : Bodies) (last : Reading) (sent : List (List ℕ)) (made : Option RefMap)
      (ended : Result Bool PlanRefusal) (pack : Bool) → ended ≡ Ok pack → IsContext specs context
      → IsNewBodies bodies [] [] transport → Runs Receives context true (bodies_reading transport) last made ended → last.held.sent ≡ sent
      → Appends old new (requests_shown sent ++ mapped_shown made ++ end_shown (Ok pack)) → ShowsMapped bodies specs old new (Ok pack)
  shown-run following-it context transport last sent made ended pack k c n (ungreeted e g m f) s w = absurd (not-refused pack _ (sym k ∙ f))
  shown-run following-it context transport last sent made ended pack k c n (unmapped h mid e g l m f) s w =
      absurd (not-refused pack _ (sym k ∙ f))
  shown-run following-it context transport last sent made ended pack k c n (fetched h mid following m r g l t e f) s w =
      shown-fetched following-it context transport mid following last h m r sent made (Ok pack) c n g l t e s w

  shown-ended : FetchExtends → (course : Course) (ended : Result Bool PlanRefusal) → course.ended ≡ ended → IsOk ended
      → IsCourse Receives bodies specs course
      → Appends old new (requests_shown course.sent ++ mapped_shown course.mapped ++ end_shown ended) → (pack : Bool)
      × ShowsMapped bodies specs old new (Ok pack)
  shown-ended following-it course (Err e) q k c w = absurd (not-ok e k)
  shown-ended following-it course (Ok pack) q k c w =
      let h = ended-whole c.last.failures c.ran course.ended c.ended (subst (λ (r : Result Bool PlanRefusal). IsOk r) (sym q) k) in (
        pack,
        shown-run following-it c.context c.transport c.last course.sent course.mapped c.ran pack
            (sym h.same ∙ q) c.read c.over c.runs c.sent w,
      )

  -- a session whose fetch was refused came to its ref map
  shown-stopped : FetchExtends → (e : PlanRefusal) → e.step ≡ codes "fetch" → (context : Context) (transport : Bodies)
      (last : Reading) (sent : List (List ℕ)) (made : Option RefMap) (ran ended : Result Bool PlanRefusal)
      → ended ≡ end_counted last.failures ran → ended ≡ Err e → IsContext specs context → IsNewBodies bodies [] [] transport
      → Runs Receives context true (bodies_reading transport) last made ran → last.held.sent ≡ sent
      → Appends old new (requests_shown sent ++ mapped_shown made ++ end_shown ended) → ShowsMapped bodies specs old new ended
  shown-stopped following-it e q context transport last sent made ran ended h k c n (ungreeted x g m f) s w =
      absurd (other-step (codes "fetch") (codes "handshake") e q (step-before last.failures ran ended e h k f) n-not-t)
  shown-stopped following-it e q context transport last sent made ran ended h k c n (unmapped o mid x g l m f) s w =
      absurd (other-step (codes "fetch") (codes "refs") e q (step-before last.failures ran ended e h k f) f-not-t)
  shown-stopped following-it e q context transport last sent made ran ended h k c n (fetched o mid following m r g l t p f) s w =
      shown-fetched following-it context transport mid following last o m r sent made ended c n g l t p s w

  shown-unfetched : FetchExtends → (course : Course) (e : PlanError) → e.step.now ≡ codes "fetch"
      → IsCourse Receives bodies specs course → Shows old new course (Err e) → ShowsMapped bodies specs old new (Err (refusal_of e))
  shown-unfetched following-it course e q c (inr u) = absurd (not-unwritten (codes "fetch") e q l-not-t u.1)
  shown-unfetched following-it course e q c (inl s) =
      subst (λ o. ShowsMapped bodies specs old new o) s.1
      (shown-stopped following-it
      (refusal_of e) q c.context c.transport c.last course.sent course.mapped c.ran course.ended c.ended s.1 c.read c.over c.runs
      c.sent s.0)

  pub shows-mapped : FetchExtends → (course : Course) (r : Result (Unit {0}) PlanError) → IsCourse Receives bodies specs course
      → Shows old new course r → ShowsFetch bodies specs old new r
  shows-mapped following-it course (Ok x) c s = shown-ended following-it course course.ended refl s.1 c s.0
  shows-mapped following-it course (Err e) c s = λ q. shown-unfetched following-it course e q c s
