-- The calls of a client's session: one handshake, then ref maps and fetches.
use Rattle.std.specs.Prelude.{◌≡◌, ◌⊎◌, ◌||◌, is_some, ℕ, Bool, true, false, List, [], ◌∷◌, map, Option, Some, None, Vec, Result, Ok, Err, string_bytes}
use Rattle.std.specs.BTreeSet.{contains}
use Rattle.std.specs.Option.{option_map, option_copied}
use Rattle.std.specs.declared.alloc.Global.{Global}
use Rattle.gixp_packetline.specs.Reading.{Reading}
use Rattle.gixp_transport.specs.Greeting.{Parameter}
use Rattle.gixp_transport.specs.declared.service.Service.TheVariants.{UploadPack}
use Rattle.gixp_hash.specs.declared.object_id.ObjectId.{ObjectId}
use Rattle.gixp_hash.specs.ObjectId.{id_cmp}
use Rattle.gixp_requests.specs.Feature.{FeatureValue}
use Rattle.gixp_requests.specs.Command.{git_table}
use Rattle.gixp_refspec.specs.Spec.{Spec}
use Rattle.gixp_refspec.specs.RefSpec.{owned_value_of}
use Rattle.gixp_refs.specs.declared.handshake.Ref.{Ref}
use Rattle.gixp_refmap.specs.Listing.{listing, Lists}
use Rattle.gixp_refmap.specs.Tags.{tags_asked}
use Rattle.gixp_refmap.specs.Values.{ContextValue, context_value}
use Rattle.gixp_refmap.specs.declared.ls_refs.error.Error.{Error as ListError}
use Rattle.gixp_refmap.specs.declared.refmap.init.Context.{Context}
use Rattle.gixp_refmap.specs.declared.refmap.init.Error.{Error as MapError}
use Rattle.gixp_refmap.specs.declared.refmap.map.RefMap.{RefMap}
use Rattle.gixp_handshake.specs.declared.handshake.read.Handshake.{Handshake}
use Rattle.gixp_handshake.specs.declared.credentials.Action.{Action}
use Rattle.gixp_handshake.specs.declared.handshake.error.Error.{Error as ShakeError}
use Rattle.gixp_handshake.specs.Shake.{CredentialCall, CredentialAnswer, AsksCredentials, CompletesHandshake}
use Rattle.gixp_handshake.specs.WithoutAccount.{GreetsWithoutAccount}
use Rattle.gixp_handshake.specs.Obtain.{Obtains}
use Rattle.gixp_handshake.specs.Ending.{EndsInteraction}
use Rattle.gixp_capabilities.specs.declared.client.Error.{Error as ClientError}
use Rattle.gixp_fetch.specs.FetchShallow.{shallow_value}
use Rattle.gixp_graph.specs.Object.{Objects}
use Rattle.gixp_negotiate.specs.Marking.{LocalRefs}
use Rattle.gixp_fetch.specs.declared.options.Outcome.{Outcome}
use Rattle.gixp_shallow.specs.declared.store.memory.ShallowMemory.{ShallowMemory}
use Rattle.gixp_fetch.specs.declared.error.Error.{Error as FetchError}
use Rattle.gixp_fetch.specs.Fetch.{World, Parties}
use Rattle.gixp_fetch.specs.Fetched.{FetchCall, Fetches, call_of, unlocked_world}
use Rattle.gixp_fetch.specs.Mapped.{Knowledge}
use Rattle.gixp_reachable.specs.Ids.{has_id}
use Rattle.gixp_client.specs.Unshallowed.{known_alone}
use Rattle.gixp_client.specs.ClientError.{IsReportOf, of_request, of_shake}
use Rattle.gixp_client.specs.IdSpecs.{are_ids, SeesRefs}
use Rattle.gixp_client.specs.SentTags.{sent_tags}
use Rattle.gixp_client.specs.Tables.{asked_table}
use Rattle.gixp_client.specs.Windows.{most_haves}
use Rattle.gixp_client.specs.declared.filter.Filtered.{Filtered}
use Rattle.gixp_client.specs.declared.windows.Windowed.{Windowed}
use Rattle.gixp_client.specs.declared.error.Error.{Error}
use Rattle.gixp_client.specs.declared.error.Error.TheVariants.{UnsupportedRefName, Memory}
use Rattle.gixp_client.specs.declared.request.Request.{Request}
use Rattle.gixp_client.specs.declared.state.State.{State}
use Rattle.gixp_client.specs.declared.state.State.TheVariants.{AtStop, Ended, Broken}
use Rattle.gixp_client.specs.declared.unshallow_check.UnshallowCheck.{UnshallowCheck}

abbrev pub some_spec : Option Spec → List Spec
some_spec None = []
some_spec (Some s) = s ∷ []

-- the refspecs of a request, and the refspec of its tags
abbrev pub asked_specs : Request → ContextValue
asked_specs r = record { explicit = map owned_value_of r.refspecs.items; extra = some_spec (tags_asked r.tags) }

-- `Session::open` performs a handshake for `git-upload-pack`
pub record OpensSession (parameters : List Parameter) (plain : Bool) (old new : Reading) (shaken : Handshake) : Type 0 where
  pub credentials : List CredentialCall
  pub shakes : CompletesHandshake UploadPack parameters plain old new credentials (Ok shaken)

-- `Session::open_with` fails with the error of its handshake, for which it made these calls; or because an allocation failed, or the
-- advertised refs, which were read, have a name that isn't supported
abbrev pub FailsToOpen : {A : Type 0} → (A → Action → CredentialAnswer → A → Type 0) → A → List Parameter → Bool → Reading → Error → Type 0
FailsToOpen {A} asks authenticate parameters plain old e = (e ≡ Memory) ⊎ ((x : ShakeError) × (new : Reading) × (last : A)
    × AsksCredentials asks authenticate last (λ turns. CompletesHandshake UploadPack parameters plain old new turns (Err x))
    × (e ≡ of_shake x))
    ⊎ ((shaken : Handshake) × (new : Reading) × (last : A)
    × AsksCredentials asks authenticate last (λ turns. CompletesHandshake UploadPack parameters plain old new turns (Ok shaken))
    × (is_some shaken.refs ≡ true) × (e ≡ UnsupportedRefName))

-- `Session::open` fails in the same cases, for a handshake without an account
abbrev pub FailsWithoutAccount : Bool → Reading → Error → Type 0
FailsWithoutAccount plain old e =
    (e ≡ Memory) ⊎ ((x : ShakeError) × (new : Reading) × GreetsWithoutAccount plain old new (Err x) × (e ≡ of_shake x))
    ⊎ ((shaken : Handshake) × (new : Reading) × GreetsWithoutAccount plain old new (Ok shaken)
    × (is_some shaken.refs ≡ true) × (e ≡ UnsupportedRefName))

-- the result of listing all refs, without prefixes (gitprotocol-v2, "ls-refs")
abbrev pub ListsInSession : FeatureValue → Handshake → Bool → Reading → Reading → Result (Vec Ref Global) ListError → Type 0
ListsInSession agent shaken plain old new r = Lists (listing git_table None shaken.capabilities agent) plain old new r

-- the refs that the session has, or else the refs that the server lists
abbrev pub GivesRefs : FeatureValue → Handshake → Bool → Reading → Option (Vec Ref Global) → List Ref → Type 0
GivesRefs agent shaken plain old (Some here) refs = refs ≡ here.items
GivesRefs agent shaken plain old None refs =
    (listed : Vec Ref Global) × (new : Reading) × ListsInSession agent shaken plain old new (Ok listed) × (refs ≡ listed.items)

-- no list of refs is needed for a ref map: the session has the refs, or the refspecs are ids
abbrev pub needs_no_list : Request → Handshake → Bool
needs_no_list request shaken = is_some shaken.refs || are_ids (asked_specs request)

-- the result of a ref map by the refspecs of a request, as the handshake obtains it from these refs
pub record MapsInSession (request : Request) (agent : FeatureValue) (shaken : Handshake) (plain : Bool) (old new : Reading)
    (r : Result RefMap MapError) : Type 0 where
  pub context : Context
  pub asked : context_value context ≡ asked_specs request
  pub seen : Option (Vec Ref Global)
  pub sees : SeesRefs (are_ids (asked_specs request)) shaken.refs seen
  pub obtains : Obtains (asked_table request.wants_progress request.wants_thin_pack request.uri_protocols) agent context
      (record shaken { refs = seen }) plain old new r

-- the result of a fetch, without a type of the caller's
abbrev pub IsReportedResult : {A X : Type 0} → (X → Error → Type 0) → Result (Option Outcome) (FetchError A X) → Result (Option Outcome) Error
    → Type 0
IsReportedResult converts (Ok o) (Ok t) = t ≡ o
IsReportedResult converts (Err x) (Err e) = IsReportOf converts x e
IsReportedResult converts _ _ = ⊥

-- the result of a fetch whose negotiation checks the shallow updates against this boundary: a successful fetch fails with the first
-- id that the server unshallows though it isn't in the boundary
pub record ReportsKnown {N A X : Type 0} (converts : X → Error → Type 0) (is_in : ObjectId → Bool) (first last : UnshallowCheck N)
    (received : Result (Option Outcome) (FetchError A X)) (report : Result (Option Outcome) Error) : Type 0 where
  pub watches : (id : ObjectId) → contains id_cmp first.boundary.now id ≡ is_in id
  pub unnoted : first.unknown ≡ None
  pub owned : Result (Option Outcome) Error
  pub owns : IsReportedResult converts received owned
  pub reports : report ≡ known_alone is_in owned last.unknown

module _ {N I A S C P X : Type 0} (parties : Parties N I A S C P X) where
  pub record CarriesFetch (call : FetchCall) (old : World N I S C) (received : Result (Option Outcome) (FetchError A X)) (new : World N I S C)
      (progress : P) : Type 0 where
    pub fetched : Fetches parties call old received new progress

  -- a fetch with some interrupt and some progress reporter, and without a lock before and after it
  pub record HoldsFetch (call : FetchCall) (negotiate : N) (old : Reading) (store : S) (consumer : C)
      (received : Result (Option Outcome) (FetchError A X)) (negotiate' : N) (new : Reading) (store' : S) (consumer' : C) : Type 0 where
    pub interrupt : I
    pub interrupt' : I
    pub progress : P
    pub carries : CarriesFetch call (unlocked_world negotiate old interrupt store consumer) received
        (unlocked_world negotiate' new interrupt' store' consumer') progress

  -- the same with the result that the caller gets
  pub record HoldsAndReports (converts : X → Error → Type 0) (call : FetchCall) (negotiate : N) (old : Reading) (store : S) (consumer : C)
      (report : Result (Option Outcome) Error) (negotiate' : N) (new : Reading) (store' : S) (consumer' : C) : Type 0 where
    pub received : Result (Option Outcome) (FetchError A X)
    pub reports : IsReportedResult converts received report
    pub holds : HoldsFetch call negotiate old store consumer received negotiate' new store' consumer'

-- a fetch of a session: the call of the lower fetch, the limit of haves in a request, and the filter of the first request
pub record SessionCall : Type 0 where
  pub fetch : FetchCall
  pub most_haves : ℕ
  pub filter : Option (List ℕ)

-- a negotiation with a limit of haves and a filter, which checks the shallow updates
abbrev pub CheckedNegotiation : Type 0 → Type 0
CheckedNegotiation N = UnshallowCheck (Filtered (Windowed N))

module _ {N I S A C P X : Type 0} (parties : Parties (CheckedNegotiation N) I A S C P X) (converts : X → Error → Type 0)
    (map_of : CheckedNegotiation N → RefMap) (knows : CheckedNegotiation N → Knowledge) where
  -- a fetch whose negotiation is over this map, has this knowledge, this limit of haves and this filter, and checks the shallow
  -- updates against this boundary
  pub record FetchesMap (call : SessionCall) (made : RefMap) (known : Knowledge) (is_in : ObjectId → Bool) (old : Reading) (store : S)
      (consumer : C) (report : Result (Option Outcome) Error) (new : Reading) (store' : S) (consumer' : C) : Type 0 where
    pub first : CheckedNegotiation N
    pub last : CheckedNegotiation N
    pub negotiates : map_of first ≡ made
    pub knowing : knows first ≡ known
    pub limited : first.negotiation.negotiation.most ≡ call.most_haves
    pub filtered : option_copied first.negotiation.filter ≡ call.filter
    pub received : Result (Option Outcome) (FetchError A X)
    pub reports : ReportsKnown converts is_in first last received report
    pub holds : HoldsFetch parties call.fetch first old store consumer received last new store' consumer'
    -- without a negotiated round nothing was sent, and the consumer received nothing
    pub unsent : last.negotiated ≡ false → (new ≡ old) × (consumer' ≡ consumer)

-- the arguments of a session's fetch
abbrev pub session_call : Handshake → FeatureValue → List FeatureValue → Request → SessionCall
session_call shaken agent more request = record {
  fetch = call_of (asked_table request.wants_progress request.wants_thin_pack request.uri_protocols) shaken agent more
      (sent_tags shaken.server_protocol_version shaken.capabilities request.tags) (shallow_value request.shallow)
      request.rejects_shallow;
  most_haves = most_haves shaken.server_protocol_version request.is_over_pipes;
  filter = option_map string_bytes request.filter;
}

-- the knowledge of its negotiation
abbrev pub session_knowledge : Request → Objects → LocalRefs → Knowledge
session_knowledge request objects refs =
    record { tags = request.tags; shallow = request.shallow; commits = objects; existing = objects; refs = refs }

module _ {N I A C P X : Type 0} (parties : Parties (CheckedNegotiation N) I A ShallowMemory C P X) (converts : X → Error → Type 0)
    (map_of : CheckedNegotiation N → RefMap) (knows : CheckedNegotiation N → Knowledge) where
  -- a session's fetch, which leads from one shallow boundary to another; the store isn't locked before it
  pub record FetchesInSession (call : SessionCall) (made : RefMap) (known : Knowledge) (boundary boundary' : List ObjectId) (old : Reading)
      (consumer : C) (report : Result (Option Outcome) Error) (new : Reading) (consumer' : C) : Type 0 where
    pub store : ShallowMemory
    pub store' : ShallowMemory
    pub before : store.ids.items ≡ boundary
    pub unlocked : store.locked ≡ false
    pub after : store'.ids.items ≡ boundary'
    pub fetches : FetchesMap parties converts map_of knows call made known (has_id boundary) old store consumer report new store' consumer'

-- the result of `close`
abbrev pub IsReportedEnd : Result (Unit {0}) ClientError → Result (Unit {0}) Error → Type 0
IsReportedEnd (Ok u) r = r ≡ Ok tt
IsReportedEnd (Err e) r = r ≡ Err (of_request e)

-- `close` sends the end of the session in the state `AtStop`, and does nothing in the others
abbrev pub ClosesSession : State → Reading → Reading → Result (Unit {0}) Error → Type 0
ClosesSession AtStop old new r = (ended : Result (Unit {0}) ClientError) × EndsInteraction old new ended × IsReportedEnd ended r
ClosesSession Ended old new r = (new ≡ old) × (r ≡ Ok tt)
ClosesSession Broken old new r = (new ≡ old) × (r ≡ Ok tt)
