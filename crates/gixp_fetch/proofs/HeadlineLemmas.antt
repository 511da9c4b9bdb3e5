-- What holds for the whole run of a client.
use Rattle.std.proofs.Common.{◌≡◌, ◌⊎◌, inl, inr, ℕ, Bool, true, false, List, [], ◌∷◌, map, refl, sym, ap, subst, ◌∙◌, Option, Some, None}
use Rattle.std.specs.Prelude.{Result, Ok, Err, IfSome, Vec}
use Rattle.std.specs.declared.alloc.Global.{Global}
use Rattle.gixp_hash.specs.declared.object_id.ObjectId.{ObjectId}
use Rattle.gixp_packetline.specs.declared.protocol.Protocol.{Protocol}
use Rattle.gixp_packetline.specs.Frames.{Frame, Frames, End, frames_of}
use Rattle.gixp_packetline.specs.Grammar.{AreFrames}
use Rattle.gixp_packetline.specs.Lines.{stop, lines_to}
use Rattle.gixp_packetline.specs.Pieces.{Pieces, pieces_of, pieces_from}
use Rattle.gixp_packetline.specs.Reading.{Reading, lines_ahead}
use Rattle.gixp_capabilities.specs.Capabilities.{CapabilityValue}
use Rattle.gixp_capabilities.specs.declared.client.Error.{Error as client_error}
use Rattle.gixp_transport.specs.declared.bodies.Body.{Body}
use Rattle.gixp_transport.specs.declared.bodies.Body.TheVariants.{Bytes, Fail}
use Rattle.gixp_transport.specs.Bodies.{answer_of as body_answer}
use Rattle.gixp_packetline.specs.TransportState.{body}
use Rattle.gixp_transport.specs.declared.service.Service.{Service}
use Rattle.gixp_transport.specs.declared.service.SetServiceResponse.{SetServiceResponse}
use Rattle.gixp_transport.specs.Greeting.{Parameter}
use Rattle.gixp_transport.specs.Handshake.{Greets, Identifies, HandshakesBy, Handshakes}
use Rattle.gixp_refs.specs.declared.handshake.Ref.{Ref}
use Rattle.gixp_refs.specs.declared.handshake.refs.parse.Error.{Error as refs_error}
use Rattle.gixp_refs.specs.declared.handshake.refs.parse.Error.TheVariants.{Memory as refs_memory}
use Rattle.gixp_refs.specs.Ref.{ref_value}
use Rattle.gixp_refs.specs.RefLine.{RefsRefusal, refusal_from}
use Rattle.gixp_refs.specs.ParseError.{AnswersRefs, IsParseRefusal}
use Rattle.gixp_refs.specs.Refs.{ReadsRefs}
use Rattle.gixp_refs.specs.RefAdvertisement.{Symref, symref_table, v1_refs}
use Rattle.gixp_refs.specs.V1Refs.{symref_values, ReadsV1, AdvertisementFails}
use Rattle.gixp_shallow.specs.declared.update.ShallowUpdate.{ShallowUpdate}
use Rattle.gixp_response.specs.ResponseError.{from_reader}
use Rattle.gixp_requests.specs.Arguments.{ArgumentsValue}
use Rattle.gixp_requests.specs.Feature.{FeatureValue}
use Rattle.gixp_requests.specs.Command.{TableValue}
use Rattle.gixp_requests.specs.Offers.{AnswersRefusal}
use Rattle.gixp_refmap.specs.declared.ls_refs.error.Error.{Error as list_error}
use Rattle.gixp_refmap.specs.declared.refmap.init.Context.{Context}
use Rattle.gixp_refmap.specs.declared.refmap.init.Error.{Error as map_error}
use Rattle.gixp_refmap.specs.declared.refmap.map.RefMap.{RefMap}
use Rattle.gixp_refmap.specs.Listing.{Listing, listing, listing_of, listing_refusal, SendsListing, Lists}
use Rattle.gixp_refmap.specs.Mapping.{joined_specs}
use Rattle.gixp_handshake.specs.declared.handshake.read.Handshake.{Handshake}
use Rattle.gixp_handshake.specs.declared.handshake.error.Error.{Error as shake_error}
use Rattle.gixp_handshake.specs.declared.handshake.ref_map.ObtainRefMap.{ObtainRefMap}
use Rattle.gixp_handshake.specs.declared.handshake.ref_map.ObtainRefMap.TheVariants.{Existing, LsRefsCommand}
use Rattle.gixp_handshake.specs.declared.credentials.Outcome.{Outcome as Account}
use Rattle.gixp_handshake.specs.Credentials.{store, action_value as credential_value, next_value}
use Rattle.gixp_handshake.specs.ShakeError.{is_denied}
use Rattle.gixp_handshake.specs.Shake.{CredentialCall, OpeningResult, Opens, StopsForMemory, Denied, First, CredentialAnswer, Erased, Stored, SecondHandshakeRefused, Second, Identified, Got, LogsIn, FinishesHandshake, IsOf, KeepsVersion, ReadsFirst, CompletesHandshake, is_accepted}
use Rattle.gixp_handshake.specs.Obtain.{prefixes_if, MakesMap, PreparesBy, ByList, FetchesList, ObtainsBy}
use Rattle.gixp_negotiate.specs.Negotiate.{ActionValue, no_change, skip, negotiate, action_value, Lawful, IsWide}
use Rattle.gixp_negotiate.specs.Wants.{AddsWants}
use Rattle.gixp_fetch.specs.declared.options.Outcome.{Outcome}
use Rattle.gixp_fetch.specs.declared.error.Error.{Error}
use Rattle.gixp_fetch.specs.FetchRounds.{At}
use Rattle.gixp_fetch.specs.Session.{Idle, ReadyFails}
use Rattle.gixp_fetch.specs.Fetch.{World, Parties}
use Rattle.gixp_fetch.specs.Fetched.{FetchCall}
use Rattle.gixp_fetch.specs.Mapped.{Knowledge, decided, lines_of, FollowsMap}
use Rattle.gixp_fetch.specs.Sessions.{Starts, SessionFails, at_depth, at_wants, in_session, HoldsSession}
use Rattle.gixp_fetch.specs.Headline.{AnswerBodies, run_call, IsOfAll, FindsRefMap, of_shown, of_listed, unlisted, unmade, MapsAreOfAll, AnswersAreRefused, RefsAreRefused, AdvertisementsAreRefused, WordsAreAdvertised, AdvertisesBy, Greeted, ShownByHandshake, ListedByCommand, RefsRefused, AsksAccount, HasAccount, IsErased, NoAccount, unanswered, none_known, untaken, unheard_again, bad, unkept, HandshakeFails, unbegun, unheard, denied, unaccepted, unread, HandshakesAreRefused, WantsOfMap, NoWants, NoneOfMap, DecidesOfMap, RefusalOfMap, AsksOfMap, Run, Promise}
use Rattle.gixp_fetch.proofs.SessionLemmas.{session_held}

-- ---- packet lines

module _ (no_others : (bytes : List ℕ) (frames : List Frame) (end : End) → AreFrames bytes frames end
    → frames_of bytes ≡ record { list = frames; end = end }) where
  -- the pieces of the packet lines that the grammar finds in some bytes
  pub pieces_are : (bytes : List ℕ) (frames : List Frame) (end : End) → AreFrames bytes frames end
      → pieces_of (frames_of bytes) ≡ pieces_from frames end
  pieces_are bytes frames end h = ap (λ (fs : Frames). pieces_of fs) (no_others bytes frames end h)

  pub answer_bodies : (given : List Body) → AnswerBodies given (map body_answer given)
  answer_bodies [] = tt
  answer_bodies (Bytes bytes ∷ bs) = (λ frames end h. ap body (pieces_are bytes.items frames end h), answer_bodies bs)
  answer_bodies (Fail kind ∷ bs) = (refl, answer_bodies bs)

-- ---- errors

pub answers_refused : AnswersAreRefused
answers_refused found plain old new e (inl h) = inl (h.refusal, h.first, h.error)
answers_refused found plain old new e (inr (inl h)) = inl (from_reader h.refusal, h.first, λ _. h.error)
answers_refused found plain old new e (inr (inr (inl h))) = inr (h.taken, inl (h.now, h.refusal, h.read, (h.failed, h.is_plain), h.error))
answers_refused found plain old new e (inr (inr (inr h))) = inr (h.taken, inr (h.read, h.stopped, h.error))

pub refs_refused : RefsAreRefused
refs_refused plain old new e (inl h) = inl (h.refusal, h.first, h.error)
refs_refused plain old new e (inr (inl h)) = inl (refusal_from h.refusal, h.first, λ _. h.error)
refs_refused plain old new e (inr (inr (inl h))) = inr (h.taken, inl (h.now, h.refusal, h.read, (h.failed, h.is_plain), h.error))
refs_refused plain old new e (inr (inr (inr h))) = inr (h.taken, inr (h.read, h.stopped, h.error))

pub advertisements_refused : AdvertisementsAreRefused
advertisements_refused t plain old new e (inl (inl h)) = inl (h.refusal, h.first, h.error)
advertisements_refused t plain old new e (inl (inr (inl h))) = inl (refusal_from h.refusal, h.first, λ _. h.error)
advertisements_refused t plain old new e (inl (inr (inr (inl h)))) =
    inr (inl (h.taken, inl (h.now, h.refusal, h.read, (h.failed, h.is_plain), h.error)))
advertisements_refused t plain old new e (inl (inr (inr (inr h)))) = inr (inl (h.taken, inr (h.read, h.stopped, h.error)))
advertisements_refused t plain old new e (inr h) = inr (inr (h.texts, h.now, h.read, h.at, h.error))

-- ---- refs, and their map

if_some : {X : Type 0} (o : Option X) (P Q : X → Type 0) → ((x : X) → P x → Q x) → IfSome o P → IfSome o Q
if_some None P Q f h = tt
if_some (Some x) P Q f h = f x h

lines_read : (t : List Symref) (from new : Reading) (refs : List Ref) (updates : List ShallowUpdate) → ReadsV1 t from new refs updates
    → IfSome from.to_come (λ p. v1_refs t (lines_ahead from p) ≡ Ok (map ref_value refs))
lines_read t from new refs updates h =
    if_some from.to_come (λ p. (q : Pieces) × (new.to_come ≡ Some q) × (lines_ahead from p ≡ lines_to h.texts (stop h.kind q)))
    (λ p. v1_refs t (lines_ahead from p) ≡ Ok (map ref_value refs))
    (λ p l. ap (v1_refs t) l.2 ∙ h.values) h.lines

-- the advertised refs, or none, and nothing more was read
abbrev By : Handshake → Option (Vec Ref Global) → SetServiceResponse → Reading → Reading → Type 0
By h (Some refs) found from shaken = ShownByHandshake found from shaken shaken h refs.items
By h None found from shaken = (found.has_refs ≡ false) × (shaken ≡ from) × (h.v1_shallow_updates ≡ None)

pub record CompletedHandshake (service : Service) (ps : List Parameter) (turns : List CredentialCall) (start shaken : Reading)
    (h : Handshake) : Type 0 where
  pub greeted : Greeted service ps turns start shaken h
  pub refs : By h h.refs greeted.found greeted.from shaken

module _ (service : Service) (ps : List Parameter) (plain : Bool) (turns : List CredentialCall) (start shaken : Reading)
    (h : Handshake) where
  refs_by : (found : SetServiceResponse) (mid : Reading) (has : Bool) (given : Option (Vec Ref Global)) → found.has_refs ≡ has
      → h.refs ≡ given → ReadsFirst has found plain mid shaken (Ok h) → By h given found mid shaken
  refs_by found mid false None e g r = (e, r.0, r.2)
  refs_by found mid false (Some refs) e g r = cc (g, r.1)
  refs_by found mid true None e g r = cc (g, r.2)
  refs_by found mid true (Some refs) e g r =
      let same : r.0 ≡ refs = by_some (sym r.2 ∙ g) in
      let a = r.4 in
      subst (λ (v : Vec Ref Global). ShownByHandshake found mid shaken shaken h v.items) same (record {
        follow = e;
        refs = r.0;
        updates = r.1;
        received = r.2;
        reported = r.3;
        same = refl;
        table = a.0;
        symrefs = a.1;
        read = a.2;
        values = lines_read a.0 mid shaken r.0.items r.1.items a.2;
        stays = refl;
      })
    where
      by_some : {x y : Vec Ref Global} → Some x ≡ Some y → x ≡ y
      by_some e = cc

  completed_first : (mid : Reading) (found : SetServiceResponse) → is_accepted start.held.accepted found.actual_protocol ≡ true
      → Opens service ps start mid turns (Ok found) → shaken.held ≡ mid.held
      → ReadsFirst found.has_refs found plain mid shaken (Ok h) → IsOf found (Ok h) → CompletedHandshake service ps turns start shaken h
  completed_first mid found a o s r is = record {
    greeted = record {
      found = found;
      from = mid;
      opens = o;
      accepted = a;
      version = is.0;
      capabilities = is.1;
      held = s;
    };
    refs = refs_by found mid found.has_refs h.refs refl refl r;
  }

  completed_kept : (accepted : Bool) (mid : Reading) (found : SetServiceResponse) → is_accepted start.held.accepted found.actual_protocol
      ≡ accepted → Opens service ps start mid turns (Ok found) → shaken.held ≡ mid.held
      → KeepsVersion accepted found plain mid shaken (Ok h) → CompletedHandshake service ps turns start shaken h
  completed_kept true mid found a o s k = completed_first mid found a o s k.0 k.1
  completed_kept false mid found a o s k = cc k.1

  completed_opened : (opened : OpeningResult) (mid : Reading) → Opens service ps start mid turns opened
      ⊎ StopsForMemory start mid turns opened → shaken.held ≡ mid.held
      → FinishesHandshake start.held.accepted opened plain mid shaken (Ok h)
      → CompletedHandshake service ps turns start shaken h
  completed_opened (Err x) mid o s g = cc g.1
  completed_opened (Ok found) mid (inl o) s g = completed_kept (is_accepted start.held.accepted found.actual_protocol) mid found refl o s g
  completed_opened (Ok found) mid (inr n) s g = cc n.error

  completed : CompletesHandshake service ps plain start shaken turns (Ok h) → CompletedHandshake service ps turns start shaken h
  completed s = completed_opened s.opened s.mid s.opens s.held s.goes_on

abbrev ok_map : RefMap → Result RefMap map_error
ok_map made = Ok made

-- the origin of the refs of a map: they were advertised, or listed
pub record Stands (found : SetServiceResponse) (from shaken mapped : Reading) (h : Handshake) (table : TableValue)
    (agent : FeatureValue) (context : Context) (made : RefMap) : Type 0 where
  pub received : ShownByHandshake found from shaken mapped h made.remote_refs.items ⊎ ((found.has_refs ≡ false) × (shaken ≡ from)
      × (h.v1_shallow_updates ≡ None) × ListedByCommand table agent context h shaken mapped made.remote_refs.items)
  pub maps : MakesMap h.capabilities context made.remote_refs.items (Ok made)

module _ (plain : Bool) (found : SetServiceResponse) (from shaken mapped : Reading) (h : Handshake) (table : TableValue)
    (agent : FeatureValue) (context : Context) (made : RefMap) where
  abbrev Goal : Type 0
  Goal = Stands found from shaken mapped h table agent context made

  by_listed : (l : Listing) (caps : List CapabilityValue) (ctx : Context) (listed : Result (Vec Ref Global) list_error)
      → Lists l plain shaken mapped listed → ByList caps ctx listed (Ok made)
      → (refs : Vec Ref Global) × (listed ≡ Ok refs) × MakesMap caps ctx refs.items (Ok made)
  by_listed l caps ctx (Ok refs) s b = (refs, refl, b)
  by_listed l caps ctx (Err e) s b = cc b

  by_prepared : (prepared : Result ObtainRefMap map_error) (given : Option (Vec Ref Global)) → h.refs ≡ given
      → By h given found from shaken → PreparesBy given table true agent context h.capabilities prepared
      → ObtainsBy prepared plain shaken mapped (Ok made) → Goal
  by_prepared (Err e) given r b p o = cc o.1
  by_prepared (Ok (Existing m)) None r b p o = absurd p
  by_prepared (Ok (LsRefsCommand command handed)) (Some refs) r b p o = absurd p
  by_prepared (Ok (Existing m)) (Some refs) r b p o =
      let same : made ≡ m = by_ok o.1 in
      let p' : MakesMap h.capabilities context refs.items (Ok made) =
      subst (λ x. MakesMap h.capabilities context refs.items (Ok x)) (sym same) p in
      let are : made.remote_refs.items ≡ refs.items = p'.refs in
      record {
        received = inl (subst (λ (x : Reading). ShownByHandshake found from shaken x h made.remote_refs.items) (sym o.0)
            (subst (ShownByHandshake found from shaken shaken h) (sym are) b));
        maps = subst (λ given. MakesMap h.capabilities context given (Ok made)) (sym are) p';
      }
    where
      by_ok : {x y : RefMap} → ok_map x ≡ ok_map y → x ≡ y
      by_ok e = cc
  by_prepared (Ok (LsRefsCommand command handed)) None r at p o =
      let l : Listing = listing_of command in
      let b = by_listed l l.capabilities handed o.listed o.lists o.maps in
      let list = subst (λ r. Lists l plain shaken mapped r) b.1 o.lists in
      let are : made.remote_refs.items ≡ b.0.items = b.2.refs in
      let maps : MakesMap h.capabilities handed b.0.items (Ok made) =
      subst (λ (x : Listing). MakesMap x.capabilities handed b.0.items (Ok made)) p.0 b.2 in
      let mapped_so : MakesMap h.capabilities context b.0.items (Ok made) =
      subst (λ ctx. MakesMap h.capabilities ctx b.0.items (Ok made)) p.1 maps in
      record {
        received = inr (
          at.0,
          at.1,
          at.2,
          record {
            none = r;
            valid = subst (λ x. AnswersRefusal (listing_refusal x) (Ok tt)) p.0 list.valid;
            from = list.mid;
            sends = subst (λ x. SendsListing x shaken list.mid (Ok tt)) p.0 list.sent;
            read = subst (λ (given : List Ref). ReadsRefs list.mid mapped given) (sym are) list.read;
            held = list.held;
          },
        );
        maps = subst (λ given. MakesMap h.capabilities context given (Ok made)) (sym are) mapped_so;
      }

-- ---- the server's first message

abbrev no_words : client_error → Result SetServiceResponse client_error
no_words e = Err e

same_words : {x y : client_error} → no_words x ≡ no_words y → x ≡ y
same_words e = cc

why_refused : {A B C : Type 0} → (A × B) ⊎ C → A ⊎ C
why_refused (inl h) = inl h.0
why_refused (inr h) = inr h

answer_by : (persists : Bool) (service : Service) (ps : List Parameter) (old new : Reading) (r : Result SetServiceResponse client_error)
    → HandshakesBy persists service ps old new r → AdvertisesBy persists service ps old new r
answer_by true service ps old new (Ok found) (inl h) = cc h.1
answer_by true service ps old new (Err e) (inl h) = inl (subst (λ x. Greets service ps old new (Err x)) (sym (same_words h.1)) h.2)
answer_by true service ps old new (Ok found) (inr h) = (h.0, h.1, h.2.value, h.2.says)
answer_by true service ps old new (Err e) (inr h) = inr (h.0, h.1, why_refused h.2.why, h.2.caused)
answer_by false service ps old new (Ok found) (inl h) = cc h.1
answer_by false service ps old new (Err e) (inl h) = inl (h.0, same_words h.1, h.2, h.3)
answer_by false service ps old new (Ok found) (inr h) = (h.0, (h.1, h.2), h.3.value, h.3.says)
answer_by false service ps old new (Err e) (inr h) = inr (h.0, (h.1, h.2), why_refused h.3.why, h.3.caused)

pub words_said : WordsAreAdvertised
words_said service ps old new r h = answer_by old.held.persists service ps old new r h

no_table : (capabilities : List CapabilityValue) (e : refs_error) (r : Result (List Symref) RefsRefusal) → symref_table capabilities ≡ r
    → AnswersRefs symref_values r (Err e)
    → ((x : RefsRefusal) × (symref_table capabilities ≡ Err x) × IsParseRefusal e x) ⊎ (e ≡ refs_memory)
no_table capabilities e (Ok t) p a = inr a
no_table capabilities e (Err x) p a = inl (x, p, a)

refs_refused_by : (capabilities : List CapabilityValue) (plain : Bool) (old new : Reading) (e : refs_error)
    → AdvertisementFails capabilities plain old new e → RefsRefused capabilities plain old new e
refs_refused_by capabilities plain old new e (inl h) = inl (h.0, no_table capabilities e (symref_table capabilities) refl h.1)
refs_refused_by capabilities plain old new e (inr h) = inr (h.0, h.1, advertisements_refused h.0 plain old new e h.2)

-- ---- credential errors

abbrev unopened : shake_error → OpeningResult
unopened e = Err e

same_opening : {x y : shake_error} → unopened x ≡ unopened y → x ≡ y
same_opening e = cc

module _ (service : Service) (ps : List Parameter) (old new : Reading) (turns : List CredentialCall) (e : shake_error)
    (turn : CredentialCall) (later : List CredentialCall) (asks : AsksAccount old turns turn later) where
  abbrev None_of : Type 0
  None_of = NoAccount service ps old new turns e

  asks_so : (more : List CredentialCall) → later ≡ more → AsksAccount old turns turn more
  asks_so more l = record { all = asks.all ∙ ap (λ ts. turn ∷ ts) l; asked = asks.asked }

  module _ (account : Account) (now : Reading) (has : HasAccount old now turn account) where
    by_erased : (answer : CredentialAnswer) (reported : CredentialCall) → reported.answer ≡ answer → Erased answer old.held.url (Err e)
        → IsErased answer old.held.url e
    by_erased (Ok x) reported a h = (h.0, h.1, same_opening h.2)
    by_erased (Err x) reported a h = same_opening h

    by_stored : (answer : CredentialAnswer) (reported : CredentialCall) (found : SetServiceResponse) → reported.answer ≡ answer
        → Handshakes service ps now new (Ok found) → later ≡ reported ∷ [] → credential_value reported.action ≡ store (next_value account.next)
        → Stored answer found (Err e) → None_of
    by_stored (Ok x) reported found a h l t s = cc s
    by_stored (Err x) reported found a h l t s = unkept turn reported (asks_so (reported ∷ []) l) account now has found h t x a (same_opening s)

    by_refused : (b : Bool) (x : client_error) → is_denied x ≡ b → Handshakes service ps now new (Err x)
        → SecondHandshakeRefused b x account.next old.held.url later (Err e) → None_of
    by_refused true x p h r =
        bad turn r.1.turn (asks_so (r.1.turn ∷ []) r.1.alone) account now has x h p r.1.asked
        (subst (λ a. IsErased a old.held.url e) (sym r.1.answered) (by_erased r.0 r.1.turn r.1.answered r.2))
    by_refused false x p h r = unheard_again turn (asks_so [] r.0) account now has x h p (same_opening r.1)

    by_second : (second : Result SetServiceResponse client_error) → Handshakes service ps now new second
        → Second second account.next old.held.url later (Err e) → None_of
    by_second (Ok found) h s = by_stored s.0 s.1.turn found s.1.answered h s.1.alone s.1.asked s.2
    by_second (Err x) h s = by_refused (is_denied x) x refl h s

  by_taken : (account : Account) (taken : Result (Unit {0}) client_error) (now : Reading) → turn.answer ≡ Ok (Some account)
      → Identifies old now account.identity taken
      → Identified service ps taken account.next old.held.url now new later (Err e) → None_of
  by_taken account (Ok x) now a i d = by_second account now (record { got = a; taken = i }) d.0 d.1 d.2
  by_taken account (Err x) now a i d = untaken turn (asks_so [] d.0) account a x
      (subst (λ (r : Reading). Identifies old r account.identity (Err x)) (sym d.1) i) (same_opening d.2)

  by_answer : (answer : CredentialAnswer) → turn.answer ≡ answer → Got service ps answer old.held.url old new later (Err e) → None_of
  by_answer (Err x) a g = unanswered turn (asks_so [] g.0) x a g.1 (same_opening g.2)
  by_answer (Ok None) a g = none_known turn (asks_so [] g.0) a g.1 (same_opening g.2)
  by_answer (Ok (Some account)) a g = by_taken account g.0 g.1 a g.2 g.3

no_account : (service : Service) (ps : List Parameter) (old new : Reading) (turns : List CredentialCall) (e : shake_error)
    → LogsIn service ps old new turns (Err e) ⊎ StopsForMemory old new turns (Err e)
    → NoAccount service ps old new turns e ⊎ StopsForMemory old new turns (Err e)
no_account service ps old new turns e (inl l) =
    inl (by_answer service ps old new turns e l.turn l.later (record { all = l.all; asked = l.asked }) l.turn.answer refl l.got)
no_account service ps old new turns e (inr n) = inr n

-- ---- handshakes that fail

abbrev no_handshake : shake_error → Result Handshake shake_error
no_handshake e = Err e

same_refusal : {x y : shake_error} → no_handshake x ≡ no_handshake y → x ≡ y
same_refusal e = cc

module _ (service : Service) (ps : List Parameter) (plain : Bool) (start reached : Reading) (turns : List CredentialCall)
    (e : shake_error) where
  abbrev Why : Type 0
  Why = HandshakeFails service ps plain start reached turns e

  by_denial : (b : Bool) (x : client_error) (mid : Reading) → is_denied x ≡ b → Handshakes service ps start mid (Err x)
      → Denied b x service ps mid reached turns (Err e) → Why
  by_denial true x mid p h d = denied x mid h p (no_account service ps mid reached turns e d)
  by_denial false x mid p h d = unheard x (subst (λ (r : Reading). Handshakes service ps start r (Err x)) (sym d.1) h) p d.0
      (same_opening d.2)

  by_first : (first : Result SetServiceResponse client_error) (mid : Reading) → Handshakes service ps start mid first
      → First first service ps mid reached turns (Err e) → Why
  by_first (Ok found) mid h f = cc f.2
  by_first (Err x) mid h f = by_denial (is_denied x) x mid refl h f

  by_reading : (found : SetServiceResponse) (mid : Reading) (has : Bool) → found.has_refs ≡ has
      → is_accepted start.held.accepted found.actual_protocol ≡ true → Opens service ps start mid turns (Ok found)
      → ReadsFirst has found plain mid reached (Err e) → Why
  by_reading found mid false p a o r = absurd r
  by_reading found mid true p a o r = unread found mid o a p r.0 (refs_refused_by found.capabilities plain mid reached r.0 r.1) r.2

  by_version : (accepted : Bool) (found : SetServiceResponse) (mid : Reading) → is_accepted start.held.accepted found.actual_protocol
      ≡ accepted → Opens service ps start mid turns (Ok found)
      → KeepsVersion accepted found plain mid reached (Err e) → Why
  by_version true found mid a o k = by_reading found mid found.has_refs refl a o k.0
  by_version false found mid a o k = unaccepted found (subst (λ (r : Reading). Opens service ps start r turns (Ok found)) (sym k.0) o) a
      (same_refusal k.1)

  by_opening : (opened : OpeningResult) (mid : Reading) → Opens service ps start mid turns opened
      ⊎ StopsForMemory start mid turns opened → FinishesHandshake start.held.accepted opened plain mid reached (Err e) → Why
  by_opening (Ok found) mid (inl o) g = by_version (is_accepted start.held.accepted found.actual_protocol) found mid refl o g
  by_opening (Ok found) mid (inr n) g = cc n.error
  by_opening (Err x) mid (inl o) g =
      let here : Opens service ps start reached turns (Err e) = subst (λ (r : Reading). Opens service ps start r turns (Err e))
      (sym g.0) (subst (λ y. Opens service ps start mid turns (Err y)) (sym (same_refusal g.1)) o) in
      by_first here.0 here.1 here.2 here.3
  by_opening (Err x) mid (inr n) g =
      unbegun (record { untold = n.untold; same = g.0 ∙ n.same; error = ap unopened (same_refusal g.1) ∙ n.error })

pub handshakes_refused : HandshakesAreRefused
handshakes_refused service ps plain start reached turns e s =
    by_opening service ps plain start reached turns e s.opened s.mid s.opens s.goes_on

-- ---- ref maps and their errors

module _ (table : TableValue) (agent : FeatureValue) (context : Context) (h : Handshake) (plain : Bool) (shaken reached : Reading)
    (r : Result RefMap map_error) where
  abbrev wanted_list : Listing
  wanted_list =
      listing table (prefixes_if true (joined_specs context.fetch_refspecs.items context.extra_refspecs.items)) h.capabilities agent

  abbrev no_map : map_error → Result RefMap map_error
  no_map x = Err x

  mapped_by : (listed : Result (Vec Ref Global) list_error) → h.refs ≡ None → Lists wanted_list plain shaken reached listed
      → ByList h.capabilities context listed r → FindsRefMap table agent context h plain shaken reached r
  mapped_by (Ok refs) n l b = of_listed refs.items
      (record { none = n; valid = l.valid; from = l.mid; sends = l.sent; read = l.read; held = l.held }) (b.maps, b.filtered)
  mapped_by (Err e) n l b = unlisted n e l b

  listed_by : (l : Listing) (handed : Context) → l ≡ wanted_list → handed ≡ context → h.refs ≡ None
      → FetchesList l handed plain shaken reached r → FindsRefMap table agent context h plain shaken reached r
  listed_by l handed p q n f =
      let at : FetchesList wanted_list context plain shaken reached r = subst (λ x. FetchesList wanted_list x plain shaken reached r) q
      (subst (λ (x : Listing). FetchesList x handed plain shaken reached r) p f) in
      mapped_by at.listed n at.lists at.maps

  answers_by : (prepared : Result ObtainRefMap map_error) (given : Option (Vec Ref Global)) → h.refs ≡ given
      → PreparesBy given table true agent context h.capabilities prepared → ObtainsBy prepared plain shaken reached r
      → FindsRefMap table agent context h plain shaken reached r
  answers_by (Err e) None n p o = unmade n (o.1 ∙ ap no_map p) o.0
  answers_by (Err e) (Some refs) n p o =
      of_shown refs n o.0 (subst (IsOfAll context h.capabilities refs.items) (sym o.1) (p.maps, p.filtered))
  answers_by (Ok (Existing m)) None n p o = absurd p
  answers_by (Ok (Existing m)) (Some refs) n p o =
      of_shown refs n o.0 (subst (IsOfAll context h.capabilities refs.items) (sym o.1) (p.maps, p.filtered))
  answers_by (Ok (LsRefsCommand command handed)) (Some refs) n p o = absurd p
  answers_by (Ok (LsRefsCommand command handed)) None n p o = listed_by (listing_of command) handed p.0 p.1 n o

pub maps_are_of_all : MapsAreOfAll
maps_are_of_all table agent context h plain shaken reached r o =
    answers_by table agent context h plain shaken reached r o.prepared h.refs refl o.prepares o.obtains

-- ---- the wants of a map

module _ {N I A S C P X : Type 0} (parties : Parties N I A S C P X) (map_of : N → RefMap) (knows : N → Knowledge)
    (follows : FollowsMap parties.negotiation_calls.marks parties.negotiation_calls.adds map_of knows) (made : RefMap) where
  wants_of_map : (call : FetchCall) (old : World N I S C) (banded : Bool) (ids : List ObjectId) (action : ActionValue) (locked : Bool)
      (read : S) (start : At N I) → map_of old.negotiate ≡ made
      → (s : Starts parties call old banded ids action locked read start) → WantsOfMap parties (knows old.negotiate) made s
  wants_of_map call old banded ids action locked read start same s = record {
    decides = subst (λ m. action ≡ decided (knows old.negotiate) m) same (follows.decides old.negotiate action s.marked s.marks);
    wants = subst (λ m. AddsWants (lines_of (knows old.negotiate) m s.asked s.known) true s.asked start.asked) same
        (follows.asks old.negotiate action s.marked s.known s.asked true start.asked start.negotiate s.marks s.adds);
  }

  none_of_map : (first last : N) (asked : ArgumentsValue) → map_of first ≡ made → (i : Idle parties.negotiation_calls first asked last)
      → NoneOfMap parties (knows first) made i
  none_of_map first last asked same i = record {
    decides = subst (λ m. i.action ≡ decided (knows first) m) same (follows.decides first i.action i.marked i.marks);
    wants = no_wants i.idle;
  }
    where
      no_wants : (h : (((i.action ≡ no_change) ⊎ (i.action ≡ skip)) × (last ≡ i.marked))
          ⊎ ((known : List Bool) × (wanted : ArgumentsValue) × (i.action ≡ negotiate known)
          × parties.negotiation_calls.adds i.marked known asked false wanted last))
          → NoWants parties (knows first) made h
      no_wants (inl h) = tt
      no_wants (inr h) = subst (λ m. AddsWants (lines_of (knows first) m asked h.0) false asked h.1) same
          (follows.asks first i.action i.marked h.0 asked false h.1 last i.marks h.3)

  decides_of_map : (first last : N) (asked : ArgumentsValue) (e : Error A X) → map_of first ≡ made
      → (u : ReadyFails parties.negotiation_calls first asked e last) → DecidesOfMap parties (knows first) made u
  decides_of_map first last asked e same (inl u) = tt
  decides_of_map first last asked e same (inr u) =
      subst (λ m. negotiate u.known ≡ decided (knows first) m) same (follows.decides first (negotiate u.known) u.marked u.marks)

  refusal_of_map : (call : FetchCall) (old : World N I S C) (e : Error A X) (last : World N I S C) (progress : P)
      → map_of old.negotiate ≡ made → (r : SessionFails parties call old e last progress)
      → RefusalOfMap parties (knows old.negotiate) made r
  refusal_of_map call old e last progress same (at_depth given banded held p l u n t) = tt
  refusal_of_map call old e last progress same (at_wants banded ids asked a u t) =
      decides_of_map old.negotiate last.negotiate asked e same u
  refusal_of_map call old e last progress same (in_session b) =
      wants_of_map call old b.banded b.ids b.action b.locked b.read b.start same b.starts

  asks_of_map : (call : FetchCall) (old : World N I S C) (result : Result (Option Outcome) (Error A X)) (new : World N I S C)
      (progress : P) → map_of old.negotiate ≡ made → (h : HoldsSession parties call old result new progress)
      → AsksOfMap parties (knows old.negotiate) made call old result new progress h
  asks_of_map call old (Ok (Some outcome)) new progress same h =
      wants_of_map call old h.1.banded h.1.ids (action_value outcome.negotiate.action) h.1.locked h.1.read h.1.start same h.1.starts
  asks_of_map call old (Ok None) new progress same h = none_of_map old.negotiate h.0.negotiate h.1.asked same h.1.idle
  asks_of_map call old (Err e) new progress same (inl u) = tt
  asks_of_map call old (Err e) new progress same (inr h) = refusal_of_map call old e h.0 progress same h.1

-- ---- the whole fetch

module _ {N I A S C P X : Type 0} (parties : Parties N I A S C P X) (map_of : N → RefMap) (knows : N → Knowledge)
    (follows : FollowsMap parties.negotiation_calls.marks parties.negotiation_calls.adds map_of knows)
    (lawful : Lawful parties.negotiation_calls.goes parties.negotiation_calls.count) (wide : IsWide parties.negotiation_calls.goes) where
  pub promised : (call : FetchCall) (context : Context) (start : Reading) (made : RefMap) (old : World N I S C)
      (result : Result (Option Outcome) (Error A X)) (new : World N I S C) (progress : P)
      (run : Run parties map_of knows call context start made old result new progress)
      → Promise parties map_of knows call context start made old result new progress run
  promised call context start made old result new progress run =
      let g = completed run.service run.parameters parties.plain run.credentials start run.shaken run.handshake run.shakes in
      let o = run.obtains in
      let s =
      by_prepared parties.plain g.greeted.found g.greeted.from run.shaken old.reading run.handshake call.table call.agent context
      made o.prepared run.handshake.refs refl g.refs o.prepares o.obtains in
      let polled : call ≡ run_call call run.handshake = ap (λ (v : Protocol). record call { version = v }) run.version
      ∙ ap (λ (c : List CapabilityValue). record call { version = run.handshake.server_protocol_version; capabilities = c })
      run.capabilities
      ∙ ap (λ (us : List ShallowUpdate). record (run_call call run.handshake) { fetch_options = record call.fetch_options { reported = us } }) run.reported in
      let held = subst (λ (c : FetchCall). HoldsSession parties c old result new progress) polled
      (session_held parties lawful wide call old result new progress run.fetches) in
      record {
        greeted = g.greeted;
        refs = s.received;
        mappings = (s.maps.maps, s.maps.filtered);
        placed = s.maps.found;
        explicit = s.maps.explicit;
        extra = s.maps.extra;
        conversation = held;
        asks = asks_of_map parties map_of knows follows made (run_call call run.handshake) old result new progress run.negotiates held;
      }
