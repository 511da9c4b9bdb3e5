-- The whole run of a client over one transport, and what holds for it: packet lines, capabilities, refs, responses and errors,
-- requests, the pack, the bound on requests, and ref maps of filtered refs.
use Rattle.std.proofs.Common.{inl, inr}
use Rattle.std.specs.declared.alloc.Global.{Global}
use Rattle.std.specs.declared.io.ErrorKind.{ErrorKind}
use Rattle.std.specs.List.{AllByRecursion}
use Rattle.std.specs.Prelude.{Vec, ◌≡◌, ◌⊎◌, ⊤, ℕ, Bool, true, false, List, [], ◌∷◌, map, Option, Some, None, IfSome, IsSome, Result, Ok, Err}
use Rattle.gixp_packetline.specs.declared.protocol.Protocol.{Protocol}
use Rattle.gixp_packetline.specs.Frames.{Frame, End, frames_of}
use Rattle.gixp_packetline.specs.Grammar.{AreFrames}
use Rattle.gixp_packetline.specs.Pieces.{Refusal, Piece, Pieces, pieces_from}
use Rattle.gixp_packetline.specs.TransportState.{Answer, body, fails}
use Rattle.gixp_packetline.specs.Reading.{Reading, IsFresh, IsOutside, IsPlain, AtStop, lines_ahead}
use Rattle.bstr.specs.Owned.{bstring_bytes}
use Rattle.bstr.specs.declared.bstring.BString.{BString}
use Rattle.gixp_hash.specs.declared.object_id.ObjectId.{ObjectId}
use Rattle.gixp_capabilities.specs.Capabilities.{CapabilityValue}
use Rattle.gixp_capabilities.specs.Client.{client_refusal}
use Rattle.gixp_capabilities.specs.declared.client.Error.{Error as client_error}
use Rattle.gixp_capabilities.specs.declared.client.Error.TheVariants.{Io as client_io}
use Rattle.gixp_transport.specs.declared.service.Service.{Service}
use Rattle.gixp_transport.specs.declared.service.SetServiceResponse.{SetServiceResponse}
use Rattle.gixp_transport.specs.declared.service.Opening.{Opening}
use Rattle.gixp_transport.specs.declared.bodies.Body.{Body}
use Rattle.gixp_transport.specs.declared.bodies.Body.TheVariants.{Bytes, Fail}
use Rattle.gixp_transport.specs.declared.bodies.Bodies.{Bodies}
use Rattle.gixp_transport.specs.Bodies.{bodies_reading, IsNewBodies}
use Rattle.gixp_transport.specs.Connection.{IsNewConnection}
use Rattle.gixp_transport.specs.Greeting.{Parameter}
use Rattle.gixp_transport.specs.CapabilityAdvertisement.{Advertised, advertisement, Answers, IsAdvertised, IsFromDevice, IsCaused}
use Rattle.gixp_transport.specs.Transport.{TakesAnswer, ByAnswer}
use Rattle.gixp_transport.specs.Handshake.{Greets, Identifies, Handshakes}
use Rattle.gixp_refs.specs.declared.handshake.Ref.{Ref}
use Rattle.gixp_refs.specs.declared.handshake.refs.parse.Error.{Error as refs_error}
use Rattle.gixp_refs.specs.declared.handshake.refs.parse.Error.TheVariants.{Memory as refs_memory}
use Rattle.gixp_refs.specs.Ref.{ref_value}
use Rattle.gixp_refs.specs.RefLine.{RefsRefusal, refusal_from}
use Rattle.gixp_refs.specs.ParseError.{parse_refusal, IsParseRefusal}
use Rattle.gixp_refs.specs.Refs.{v2_refs, ReadsRefs, RefsFail}
use Rattle.gixp_refs.specs.RefAdvertisement.{Symref, symref_table, v1_refs}
use Rattle.gixp_refs.specs.V1Refs.{ReadsV1, V1Fails}
use Rattle.gixp_shallow.specs.declared.update.ShallowUpdate.{ShallowUpdate}
use Rattle.gixp_response.specs.declared.fetch.response.error.Error.{Error as answer_error}
use Rattle.gixp_response.specs.declared.fetch.response.error.Error.TheVariants.{Memory as answer_memory}
use Rattle.gixp_packetline.specs.Runs.{SoFar}
use Rattle.gixp_response.specs.ResponseError.{AnswerRefusal, answer_refusal, from_reader, IsAnswerRefusal}
use Rattle.gixp_response.specs.Answer.{Found, refused, update_items}
use Rattle.gixp_response.specs.AnswerReading.{AnswerFails, Passed}
use Rattle.gixp_requests.specs.Arguments.{ArgumentsValue}
use Rattle.gixp_requests.specs.Command.{TableValue}
use Rattle.gixp_requests.specs.Feature.{FeatureValue}
use Rattle.gixp_requests.specs.Offers.{AnswersRefusal}
use Rattle.gixp_refmap.specs.declared.refmap.init.Context.{Context}
use Rattle.gixp_refmap.specs.declared.refmap.init.Error.{Error as map_error}
use Rattle.gixp_refmap.specs.declared.refmap.init.Error.TheVariants.{Memory as map_memory}
use Rattle.gixp_refmap.specs.declared.refmap.map.RefMap.{RefMap}
use Rattle.gixp_refmap.specs.declared.refmap.mapping.Mapping.{Mapping}
use Rattle.gixp_refmap.specs.declared.ls_refs.error.Error.{Error as list_error}
use Rattle.gixp_refmap.specs.Mapping.{joined_specs, spec_at, AnswersMap, HoldsOfAll}
use Rattle.gixp_refmap.specs.MapError.{from_listing}
use Rattle.gixp_refmap.specs.Listing.{listing, listing_refusal, SendsListing, Lists}
use Rattle.gixp_handshake.specs.declared.handshake.error.Error.{Error as shake_error}
use Rattle.gixp_handshake.specs.declared.handshake.error.Error.TheVariants.{Credentials, EmptyCredentials, InvalidCredentials, TransportProtocolPolicyViolation}
use Rattle.gixp_handshake.specs.declared.credentials.Outcome.{Outcome as Account}
use Rattle.gixp_handshake.specs.declared.credentials.Error.{Error as credentials_error}
use Rattle.gixp_handshake.specs.Credentials.{get, store, erase, action_value, next_value}
use Rattle.gixp_handshake.specs.declared.handshake.read.Handshake.{Handshake}
use Rattle.gixp_handshake.specs.ShakeError.{from_client, from_parse, is_denied}
use Rattle.gixp_handshake.specs.Shake.{CredentialAnswer, CredentialCall, Opens, StopsForMemory, CompletesHandshake, is_accepted}
use Rattle.gixp_handshake.specs.Obtain.{prefixes_if, Obtains}
use Rattle.gixp_negotiate.specs.Negotiate.{ActionValue, no_change, skip, negotiate}
use Rattle.gixp_negotiate.specs.Wants.{AddsWants}
use Rattle.gixp_fetch.specs.declared.options.Outcome.{Outcome}
use Rattle.gixp_fetch.specs.declared.error.Error.{Error}
use Rattle.gixp_fetch.specs.FetchRounds.{At}
use Rattle.gixp_fetch.specs.Session.{Idle, ReadyFails}
use Rattle.gixp_fetch.specs.Fetch.{World, Parties}
use Rattle.gixp_fetch.specs.Fetched.{FetchCall, call_of, Fetches}
use Rattle.gixp_fetch.specs.Mapped.{Knowledge, decided, lines_of}
use Rattle.gixp_fetch.specs.Sessions.{Starts, SessionFails, at_depth, at_wants, in_session, HoldsSession}

-- ---- packet lines

-- these responses are the pieces of these bodies, one for one: the packet lines that the grammar finds in the bytes
-- of a body, or an I/O error
abbrev pub AnswerBodies : List Body → List Answer → Type 0
AnswerBodies [] [] = ⊤
AnswerBodies [] (a ∷ rest) = ⊥
AnswerBodies (b ∷ bs) [] = ⊥
AnswerBodies (Bytes bytes ∷ bs) (a ∷ rest) =
    ((frames : List Frame) (end : End) → AreFrames bytes.items frames end → a ≡ body (pieces_from frames end)) × AnswerBodies bs rest
AnswerBodies (Fail kind ∷ bs) (a ∷ rest) = (a ≡ fails kind) × AnswerBodies bs rest

-- the unread input of a new connection is the pieces of the packet lines that the grammar finds in its bytes, however it
-- finds them. Where each request has its own response, the same holds for each body. Each text has such packet lines, and
-- only these
pub record FramesAreGrammar : Type 0 where
  pub connections : (bytes : List ℕ) (frames : List Frame) (end : End) → AreFrames bytes frames end → (holds : Option (List ℕ))
      (at : List ℕ) (asked : Protocol) (versions : List Protocol) (opening : Option Opening) (r : Reading)
      → IsNewConnection (Some bytes) holds at asked versions opening r → r.to_come ≡ Some (pieces_from frames end)
  pub bodies : (given : List Body) (at : List ℕ) (versions : List Protocol) (b : Bodies) → IsNewBodies given at versions b
      → AnswerBodies given (bodies_reading b).held.answers
  pub readers : (bytes : List ℕ) (frames : List Frame) (end : End) → AreFrames bytes frames end → (r : Reading)
      → IsFresh (Some bytes) r → r.to_come ≡ Some (pieces_from frames end)
  pub grammar : (bytes : List ℕ) → AreFrames bytes (frames_of bytes).list (frames_of bytes).end
  pub no_others : (bytes : List ℕ) (frames : List Frame) (end : End) → AreFrames bytes frames end
      → frames_of bytes ≡ record { list = frames; end = end }

-- ---- errors

-- after the pieces or lines that were read, a read failed, an interrupt happened, or an allocation failed; a plain
-- reader has fewer of these errors
abbrev pub OutsideOf : Bool → Reading → Reading → Refusal → Type 0
OutsideOf plain now new refusal = IsOutside now new refusal × (plain ≡ true → IsPlain new refusal)

abbrev pub AnswerFromOutside : Bool → Reading → Reading → answer_error → Type 0
AnswerFromOutside plain old new e =
    (taken : List Piece) × (((now : Reading) × (refusal : Refusal) × Passed old now taken × OutsideOf plain now new refusal
    × (answer_refusal e ≡ from_reader refusal))
    ⊎ (Passed old new taken × (new.stopped ≡ None) × (e ≡ answer_memory)))

abbrev pub RefsFromOutside : Bool → Reading → Reading → refs_error → Type 0
RefsFromOutside plain old new e =
    (taken : List (List ℕ)) × (((now : Reading) × (refusal : Refusal) × SoFar old now taken × OutsideOf plain now new refusal
    × (parse_refusal e ≡ refusal_from refusal))
    ⊎ (SoFar old new taken × (new.stopped ≡ None) × (e ≡ refs_memory)))

-- for the refs of an advertisement an allocation may also fail after the flush packet
abbrev pub AdvertisementFromOutside : Bool → Reading → Reading → refs_error → Type 0
AdvertisementFromOutside plain old new e = RefsFromOutside plain old new e
    ⊎ ((taken : List (List ℕ)) × (now : Reading) × SoFar old now taken × AtStop now new × (e ≡ refs_memory))

-- the error of a response is an error by the grammar, for that reason; or an I/O error, an interrupt or an allocation failure
abbrev pub AnswersAreRefused : Type 0
AnswersAreRefused = (found : Pieces → Found) (plain : Bool) (old new : Reading) (e : answer_error) → AnswerFails found plain old new e
    → ((r : AnswerRefusal) × IfSome old.to_come (λ p. found p ≡ refused r) × IsAnswerRefusal e r) ⊎ AnswerFromOutside plain old new e

-- the same for the error of listed refs, and of advertised refs
abbrev pub RefsAreRefused : Type 0
RefsAreRefused = (plain : Bool) (old new : Reading) (e : refs_error) → RefsFail plain old new e
    → ((r : RefsRefusal) × IfSome old.to_come (λ p. v2_refs (lines_ahead old p) ≡ Err r) × IsParseRefusal e r)
    ⊎ RefsFromOutside plain old new e

abbrev pub AdvertisementsAreRefused : Type 0
AdvertisementsAreRefused = (t : List Symref) (plain : Bool) (old new : Reading) (e : refs_error) → V1Fails t plain old new e
    → ((r : RefsRefusal) × IfSome old.to_come (λ p. v1_refs t (lines_ahead old p) ≡ Err r) × IsParseRefusal e r)
    ⊎ AdvertisementFromOutside plain old new e

-- ---- the server's first message

-- the first message is requested: over a connection by a greeting, otherwise as the next response
abbrev pub AsksWords : Bool → Service → List Parameter → Reading → Reading → Type 0
AsksWords true service parameters old new = Greets service parameters old new (Ok tt)
AsksWords false service parameters old new = TakesAnswer old new × ByAnswer old new None

-- writing the greeting failed, or taking the response did
abbrev pub UnaskedWords : Bool → Service → List Parameter → Reading → Reading → client_error → Type 0
UnaskedWords true service parameters old new e = Greets service parameters old new (Err e)
UnaskedWords false service parameters old new e = (kind : ErrorKind) × (e ≡ client_io kind) × TakesAnswer old new
    × ByAnswer old new (Some kind)

-- version and capabilities are the definition's, or the error is, unless a read, a write or an allocation failed; the
-- error shows which, whether the bytes are known or not
abbrev pub AdvertisesBy : Bool → Service → List Parameter → Reading → Reading → Result SetServiceResponse client_error → Type 0
AdvertisesBy persists service parameters old new (Ok found) =
    (mid : Reading) × AsksWords persists service parameters old mid
    × IfSome mid.to_come (λ p. (a : Advertised) × (advertisement p ≡ Ok a) × Answers a new found) × IsAdvertised new found
AdvertisesBy persists service parameters old new (Err e) =
    UnaskedWords persists service parameters old new e
    ⊎ ((mid : Reading) × AsksWords persists service parameters old mid
    × (IfSome mid.to_come (λ p. advertisement p ≡ Err (client_refusal e)) ⊎ IsFromDevice mid new e) × IsCaused mid new e)

abbrev pub WordsAreAdvertised : Type 0
WordsAreAdvertised = (service : Service) (parameters : List Parameter) (old new : Reading) (r : Result SetServiceResponse client_error)
    → Handshakes service parameters old new r → AdvertisesBy old.held.persists service parameters old new r

-- ---- handshakes and their errors

-- a handshake has the version and the capabilities of the server's first message, and the version is accepted
pub record Greeted (service : Service) (parameters : List Parameter) (credentials : List CredentialCall) (start shaken : Reading)
    (handshake : Handshake) : Type 0 where
  pub found : SetServiceResponse
  pub from : Reading
  pub opens : Opens service parameters start from credentials (Ok found)
  pub accepted : is_accepted start.held.accepted found.actual_protocol ≡ true
  pub version : handshake.server_protocol_version ≡ found.actual_protocol
  pub capabilities : handshake.capabilities ≡ found.capabilities
  pub held : shaken.held ≡ from.held

-- these refs were advertised: they are in the lines after the capabilities, and nothing more was read
pub record ShownByHandshake (found : SetServiceResponse) (from shaken reached : Reading) (handshake : Handshake)
    (given : List Ref) : Type 0 where
  pub follow : found.has_refs ≡ true
  pub refs : Vec Ref Global
  pub updates : Vec ShallowUpdate Global
  pub received : handshake.refs ≡ Some refs
  pub reported : handshake.v1_shallow_updates ≡ Some updates
  pub same : given ≡ refs.items
  pub table : List Symref
  pub symrefs : symref_table found.capabilities ≡ Ok table
  pub read : ReadsV1 table from shaken refs.items updates.items
  pub values : IfSome from.to_come (λ p. v1_refs table (lines_ahead from p) ≡ Ok (map ref_value given))
  pub stays : reached ≡ shaken

-- no refs were advertised, and these are the refs in the response to the command, which has the prefixes of the refspecs
pub record ListedByCommand (table : TableValue) (agent : FeatureValue) (context : Context) (handshake : Handshake)
    (shaken reached : Reading) (given : List Ref) : Type 0 where
  pub none : handshake.refs ≡ None
  pub valid : AnswersRefusal (listing_refusal (listing table
      (prefixes_if true (joined_specs context.fetch_refspecs.items context.extra_refspecs.items)) handshake.capabilities agent)) (Ok tt)
  pub from : Reading
  pub sends : SendsListing (listing table (prefixes_if true
      (joined_specs context.fetch_refspecs.items context.extra_refspecs.items)) handshake.capabilities agent) shaken from (Ok tt)
  pub read : ReadsRefs from reached given
  pub held : reached.held ≡ from.held

-- the error of advertised refs: by the symrefs before the first line, by the first wrong line, or an I/O error, an
-- interrupt or an allocation failure
abbrev pub RefsRefused : List CapabilityValue → Bool → Reading → Reading → refs_error → Type 0
RefsRefused capabilities plain old new e =
    ((new ≡ old) × (((r : RefsRefusal) × (symref_table capabilities ≡ Err r) × IsParseRefusal e r) ⊎ (e ≡ refs_memory)))
    ⊎ ((t : List Symref) × (symref_table capabilities ≡ Ok t)
    × (((r : RefsRefusal) × IfSome old.to_come (λ p. v1_refs t (lines_ahead old p) ≡ Err r) × IsParseRefusal e r)
    ⊎ AdvertisementFromOutside plain old new e))

-- credentials for the server's URL were requested first
pub record AsksAccount (old : Reading) (credentials : List CredentialCall) (turn : CredentialCall)
    (later : List CredentialCall) : Type 0 where
  pub all : credentials ≡ turn ∷ later
  pub asked : action_value turn.action ≡ get old.held.url

-- the helper had credentials, and the transport has them
pub record HasAccount (old now : Reading) (turn : CredentialCall) (account : Account) : Type 0 where
  pub got : turn.answer ≡ Ok (Some account)
  pub taken : Identifies old now account.identity (Ok tt)

-- wrong credentials were erased, or erasing them failed
abbrev pub IsErased : CredentialAnswer → List ℕ → shake_error → Type 0
IsErased (Ok x) url e = (u : BString) × (bstring_bytes u ≡ url) × (e ≡ InvalidCredentials u)
IsErased (Err x) url e = e ≡ Credentials x

-- the credential errors. The helper failed or has no credentials for the server; the transport takes none; the second handshake
-- failed for another reason; it failed since the credentials are wrong, and they were erased; or storing them failed
pub data NoAccount (service : Service) (parameters : List Parameter) (old new : Reading) (credentials : List CredentialCall)
    (e : shake_error) : Type 0 where
  unanswered : (turn : CredentialCall) → AsksAccount old credentials turn [] → (x : credentials_error) → turn.answer ≡ Err x → new ≡ old
      → e ≡ Credentials x → NoAccount service parameters old new credentials e
  none_known : (turn : CredentialCall) → AsksAccount old credentials turn [] → turn.answer ≡ Ok None → new ≡ old → e ≡ EmptyCredentials
      → NoAccount service parameters old new credentials e
  untaken : (turn : CredentialCall) → AsksAccount old credentials turn [] → (account : Account) → turn.answer ≡ Ok (Some account)
      → (x : client_error) → Identifies old new account.identity (Err x) → e ≡ from_client x
      → NoAccount service parameters old new credentials e
  unheard_again : (turn : CredentialCall) → AsksAccount old credentials turn [] → (account : Account) (now : Reading)
      → HasAccount old now turn account → (x : client_error) → Handshakes service parameters now new (Err x) → is_denied x ≡ false
      → e ≡ from_client x → NoAccount service parameters old new credentials e
  bad : (turn reported : CredentialCall) → AsksAccount old credentials turn (reported ∷ []) → (account : Account) (now : Reading)
      → HasAccount old now turn account → (x : client_error) → Handshakes service parameters now new (Err x) → is_denied x ≡ true
      → action_value reported.action ≡ erase (next_value account.next) → IsErased reported.answer old.held.url e
      → NoAccount service parameters old new credentials e
  unkept : (turn reported : CredentialCall) → AsksAccount old credentials turn (reported ∷ []) → (account : Account) (now : Reading)
      → HasAccount old now turn account → (found : SetServiceResponse) → Handshakes service parameters now new (Ok found)
      → action_value reported.action ≡ store (next_value account.next) → (x : credentials_error) → reported.answer ≡ Err x → e ≡ Credentials x
      → NoAccount service parameters old new credentials e

-- the error of a handshake: an allocation failed; the first message failed, and not for missing credentials; the server
-- requires credentials, and there was a credential error; the version isn't accepted; or the refs can't be read
pub data HandshakeFails (service : Service) (parameters : List Parameter) (plain : Bool) (start reached : Reading)
    (credentials : List CredentialCall) (e : shake_error) : Type 0 where
  unbegun : StopsForMemory start reached credentials (Err e) → HandshakeFails service parameters plain start reached credentials e
  unheard : (x : client_error) → Handshakes service parameters start reached (Err x) → is_denied x ≡ false → credentials ≡ []
      → e ≡ from_client x → HandshakeFails service parameters plain start reached credentials e
  denied : (x : client_error) (mid : Reading) → Handshakes service parameters start mid (Err x) → is_denied x ≡ true
      → NoAccount service parameters mid reached credentials e ⊎ StopsForMemory mid reached credentials (Err e)
      → HandshakeFails service parameters plain start reached credentials e
  unaccepted : (found : SetServiceResponse) → Opens service parameters start reached credentials (Ok found)
      → is_accepted start.held.accepted found.actual_protocol ≡ false → e ≡ TransportProtocolPolicyViolation found.actual_protocol
      → HandshakeFails service parameters plain start reached credentials e
  unread : (found : SetServiceResponse) (from : Reading) → Opens service parameters start from credentials (Ok found)
      → is_accepted start.held.accepted found.actual_protocol ≡ true → found.has_refs ≡ true
      → (x : refs_error) → RefsRefused found.capabilities plain from reached x → e ≡ from_parse x
      → HandshakeFails service parameters plain start reached credentials e

abbrev pub HandshakesAreRefused : Type 0
HandshakesAreRefused = (service : Service) (parameters : List Parameter) (plain : Bool) (start reached : Reading)
    (credentials : List CredentialCall) (e : shake_error)
    → CompletesHandshake service parameters plain start reached credentials (Err e)
    → HandshakeFails service parameters plain start reached credentials e

-- ---- ref maps and their errors

-- the result for these refs is their mappings and fixes, or the error; and it is the result for each list of refs from which a
-- server that got the prefixes of the refspecs may have left out some
abbrev pub IsOfAll : Context → List CapabilityValue → List Ref → Result RefMap map_error → Type 0
IsOfAll context capabilities given r =
    AnswersMap capabilities context.fetch_refspecs.items context.extra_refspecs.items (map ref_value given) r
    × HoldsOfAll (joined_specs context.fetch_refspecs.items context.extra_refspecs.items) (map ref_value given)
    (λ all. AnswersMap capabilities context.fetch_refspecs.items context.extra_refspecs.items all r)

-- a ref map or its error. It is made of the advertised refs, or of those that the server lists; or listing failed, or an
-- allocation before it
pub data FindsRefMap (table : TableValue) (agent : FeatureValue) (context : Context) (handshake : Handshake) (plain : Bool)
    (shaken reached : Reading) (r : Result RefMap map_error) : Type 0 where
  of_shown : (refs : Vec Ref Global) → handshake.refs ≡ Some refs → reached ≡ shaken
      → IsOfAll context handshake.capabilities refs.items r → FindsRefMap table agent context handshake plain shaken reached r
  of_listed : (given : List Ref) → ListedByCommand table agent context handshake shaken reached given
      → IsOfAll context handshake.capabilities given r → FindsRefMap table agent context handshake plain shaken reached r
  unlisted : handshake.refs ≡ None → (e : list_error)
      → Lists (listing table (prefixes_if true
      (joined_specs context.fetch_refspecs.items context.extra_refspecs.items)) handshake.capabilities agent) plain shaken reached
      (Err e) → r ≡ Err (from_listing e)
      → FindsRefMap table agent context handshake plain shaken reached r
  unmade : handshake.refs ≡ None → r ≡ Err map_memory → reached ≡ shaken → FindsRefMap table agent context handshake plain shaken reached r

abbrev pub MapsAreOfAll : Type 0
MapsAreOfAll = (table : TableValue) (agent : FeatureValue) (context : Context) (handshake : Handshake) (plain : Bool)
    (shaken reached : Reading) (r : Result RefMap map_error)
    → Obtains table agent context handshake plain shaken reached r → FindsRefMap table agent context handshake plain shaken reached r

-- ---- the wants of a map

module _ {N I A S C P X : Type 0} (parties : Parties N I A S C P X) (k : Knowledge) (made : RefMap) where
  -- the rounds begin: the decision follows from the mappings of this map, and their lines were added
  pub record WantsOfMap {call : FetchCall} {old : World N I S C} {banded : Bool} {ids : List
      ObjectId} {action : ActionValue} {locked : Bool} {read : S} {start : At N I}
      (starts : Starts parties call old banded ids action locked read start) : Type 0 where
    pub decides : action ≡ decided k made
    pub wants : AddsWants (lines_of k made starts.asked starts.known) true starts.asked start.asked

  module _ {last marked : N} {asked : ArgumentsValue} {action : ActionValue} where
    -- none of their lines is a want
    abbrev pub NoWants : (((action ≡ no_change) ⊎ (action ≡ skip)) × (last ≡ marked)) ⊎ ((known : List Bool) × (wanted : ArgumentsValue)
        × (action ≡ negotiate known) × parties.negotiation_calls.adds marked known asked false wanted last) → Type 0
    NoWants (inl x) = ⊤
    NoWants (inr x) = AddsWants (lines_of k made asked x.0) false asked x.1

  -- there was nothing to fetch: the mappings need no objects, or none of their lines is a want
  pub record NoneOfMap {first last : N} {asked : ArgumentsValue} (idle : Idle parties.negotiation_calls first asked last) : Type 0 where
    pub decides : idle.action ≡ decided k made
    pub wants : NoWants idle.idle

  -- if the second step failed, the first decided by the mappings
  abbrev pub DecidesOfMap : {first last : N} {asked : ArgumentsValue} {e : Error A X}
      → ReadyFails parties.negotiation_calls first asked e last → Type 0
  DecidesOfMap (inl u) = ⊤
  DecidesOfMap (inr u) = negotiate u.known ≡ decided k made

  abbrev pub RefusalOfMap : {call : FetchCall} {old : World N I S C} {e : Error A X} {last : World N I S C} {progress : P}
      → SessionFails parties call old e last progress → Type 0
  RefusalOfMap (at_depth given banded held p l u n t) = ⊤
  RefusalOfMap (at_wants banded ids asked a u t) = DecidesOfMap u
  RefusalOfMap (in_session b) = WantsOfMap b.starts

  -- as far as a fetch went, its arguments follow from the mappings of this map
  abbrev pub AsksOfMap : (call : FetchCall) (old : World N I S C) (result : Result (Option Outcome) (Error A X)) (new : World N I S C)
      (progress : P) → HoldsSession parties call old result new progress → Type 0
  AsksOfMap call old (Ok (Some outcome)) new progress h = WantsOfMap h.1.starts
  AsksOfMap call old (Ok None) new progress h = NoneOfMap h.1.idle
  AsksOfMap call old (Err e) new progress (inl u) = ⊤
  AsksOfMap call old (Err e) new progress (inr h) = RefusalOfMap h.1

-- ---- a run

-- the input of a fetch after this handshake
abbrev pub run_call : FetchCall → Handshake → FetchCall
run_call call handshake = call_of call.table handshake call.agent call.more call.tags call.fetch_options.shallow call.fetch_options.reject

module _ {N I A S C P X : Type 0} (parties : Parties N I A S C P X) (map_of : N → RefMap) (knows : N → Knowledge) where
  -- a handshake, the ref map that follows it, and a fetch whose negotiation is over this map; each begins where the one before
  -- left the transport
  pub record Run (call : FetchCall) (context : Context) (start : Reading) (made : RefMap) (old : World N I S C)
      (result : Result (Option Outcome) (Error A X)) (new : World N I S C) (progress : P) : Type 0 where
    pub service : Service
    pub parameters : List Parameter
    pub credentials : List CredentialCall
    pub handshake : Handshake
    pub shaken : Reading
    pub shakes : CompletesHandshake service parameters parties.plain start shaken credentials (Ok handshake)
    pub obtains : Obtains call.table call.agent context handshake parties.plain shaken old.reading (Ok made)
    pub version : call.version ≡ handshake.server_protocol_version
    pub capabilities : call.capabilities ≡ handshake.capabilities
    pub reported : call.fetch_options.reported ≡ update_items handshake.v1_shallow_updates
    pub negotiates : map_of old.negotiate ≡ made
    pub fetches : Fetches parties call old result new progress

  -- what holds for a run
  pub record Promise (call : FetchCall) (context : Context) (start : Reading) (made : RefMap) (old : World N I S C)
      (result : Result (Option Outcome) (Error A X)) (new : World N I S C) (progress : P)
      (run : Run call context start made old result new progress) : Type 0 where
    pub greeted : Greeted run.service run.parameters run.credentials start run.shaken run.handshake
    pub refs : ShownByHandshake greeted.found greeted.from run.shaken old.reading run.handshake made.remote_refs.items
        ⊎ ((greeted.found.has_refs ≡ false) × (run.shaken ≡ greeted.from) × (run.handshake.v1_shallow_updates ≡ None)
        × ListedByCommand call.table call.agent context run.handshake run.shaken old.reading made.remote_refs.items)
    pub mappings : IsOfAll context run.handshake.capabilities made.remote_refs.items (Ok made)
    pub placed : AllByRecursion (λ (m : Mapping). IsSome
        (spec_at m.spec_index made.refspecs.items made.extra_refspecs.items)) made.mappings.items
    pub explicit : made.refspecs ≡ context.fetch_refspecs
    pub extra : made.extra_refspecs ≡ context.extra_refspecs
    -- with the version, the capabilities and the shallow updates of the server's first message
    pub conversation : HoldsSession parties (run_call call run.handshake) old result new progress
    pub asks : AsksOfMap parties (knows old.negotiate) made (run_call call run.handshake) old result new progress conversation
