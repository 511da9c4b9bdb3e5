-- A session is one run of the law `headline`.
use Rattle.std.proofs.Common.{◌≡◌, ◌∙◌, ℕ, ap, refl, subst, inl, inr, Bool, true, false, List, [], Option, Some, None, Result, Ok}
use Rattle.std.specs.Prelude.{string_bytes, codes, if◌then◌else◌, Vec, ◌||◌, not, is_some}
use Rattle.std.specs.declared.alloc.Global.{Global}
use Rattle.gixp_packetline.specs.Reading.{Reading}
use Rattle.gixp_hash.specs.declared.object_id.ObjectId.{ObjectId}
use Rattle.gixp_transport.specs.Greeting.{Parameter}
use Rattle.gixp_transport.specs.declared.service.Service.TheVariants.{UploadPack}
use Rattle.gixp_response.specs.Answer.{update_items}
use Rattle.gixp_capabilities.specs.Capabilities.{CapabilityValue, has_named}
use Rattle.gixp_requests.specs.Feature.{FeatureValue}
use Rattle.gixp_refmap.specs.declared.refmap.init.Context.{Context}
use Rattle.gixp_refmap.specs.declared.refmap.map.RefMap.{RefMap}
use Rattle.gixp_handshake.specs.declared.handshake.read.Handshake.{Handshake}
use Rattle.gixp_fetch.specs.declared.options.Outcome.{Outcome}
use Rattle.gixp_fetch.specs.declared.error.Error.{Error as FetchError}
use Rattle.gixp_shallow.specs.declared.store.memory.ShallowMemory.{ShallowMemory}
use Rattle.gixp_fetch.specs.Fetch.{World, Parties}
use Rattle.gixp_fetch.specs.Fetched.{FetchCall, unlocked_world}
use Rattle.gixp_fetch.specs.Mapped.{Knowledge}
use Rattle.gixp_fetch.specs.Headline.{Run, Promise}
use Rattle.gixp_client.specs.ClientCalls.{CheckedNegotiation, asked_specs, OpensSession, MapsInSession, FetchesInSession, session_call}
use Rattle.gixp_client.specs.ClientNames.{client_feature, named_by, own_features, id_features}
use Rattle.gixp_client.specs.ClientPromise.{IsOneRun, IsRunOrIds}
use Rattle.gixp_client.specs.IdSpecs.{are_ids}
use Rattle.gixp_client.specs.Tables.{asked_table}
use Rattle.gixp_client.proofs.MapLemmas.{sees_same}
use Rattle.gixp_handshake.specs.Obtain.{Obtains}
use Rattle.gixp_refs.specs.declared.handshake.Ref.{Ref}
use Rattle.gixp_client.specs.declared.error.Error.{Error}
use Rattle.gixp_client.specs.declared.name.ClientName.{ClientName}
use Rattle.gixp_client.specs.declared.request.Request.{Request}

-- a handshake, a ref map and a fetch of the mapped refs, with the promise of the law
pub one_run : {N I A C P X : Type 0} (parties : Parties (CheckedNegotiation N) I A ShallowMemory C P X)
    (converts : X → Error → Type 0) (map_of : CheckedNegotiation N → RefMap) (knows : CheckedNegotiation N → Knowledge)
    → ((call : FetchCall) (context : Context) (start : Reading) (made : RefMap) (old : World (CheckedNegotiation N) I ShallowMemory C)
    (received : Result (Option Outcome) (FetchError A X)) (new : World (CheckedNegotiation N) I ShallowMemory C) (progress : P)
    (run : Run parties map_of knows call context start made old received new progress)
    → Promise parties map_of knows call context start made old received new progress run)
    → (parameters : List Parameter) (agent : FeatureValue) (more : List FeatureValue) (request : Request)
    (start shaken middle : Reading)
    (handshake kept : Handshake) (made : RefMap) (known : Knowledge) (boundary boundary' : List ObjectId) (consumer : C)
    (report : Result (Option Outcome) Error) (new : Reading) (consumer' : C)
    → OpensSession parameters parties.plain start shaken handshake
    → MapsInSession request agent handshake parties.plain shaken middle (Ok made)
    → (is_some handshake.refs || not (are_ids (asked_specs request))) ≡ true
    → kept ≡ record handshake { refs = kept.refs }
    → FetchesInSession parties converts map_of knows (session_call kept agent more request) made known boundary boundary' middle
    consumer report new consumer'
    → IsOneRun parties converts map_of knows agent more request start made known boundary consumer report new consumer'
one_run parties converts map_of knows promises parameters agent more request start shaken middle handshake kept made known
    boundary boundary' consumer report new
    consumer' opens maps reads keeps fetched =
    let f = fetched.fetches in let h = f.holds in
    let run : Run parties map_of knows (session_call kept agent more request).fetch maps.context start made
    (unlocked_world f.first middle h.interrupt fetched.store consumer) f.received
    (unlocked_world f.last new h.interrupt' fetched.store' consumer') h.progress = record {
      service = UploadPack;
      parameters = parameters;
      credentials = opens.credentials;
      handshake = handshake;
      shaken = shaken;
      shakes = opens.shakes;
      obtains = subst (λ (x : Option (Vec Ref Global)). Obtains (asked_table request.wants_progress request.wants_thin_pack request.uri_protocols) agent maps.context
          (record handshake { refs = x }) parties.plain shaken middle (Ok made))
          (sees_same (are_ids (asked_specs request)) handshake.refs maps.seen reads maps.sees) maps.obtains;
      version = ap (λ (x : Handshake). x.server_protocol_version) keeps;
      capabilities = ap (λ (x : Handshake). x.capabilities) keeps;
      reported = ap (λ (x : Handshake). update_items x.v1_shallow_updates) keeps;
      negotiates = f.negotiates;
      fetches = h.carries.fetched;
    } in record {
      context = maps.context;
      asked = maps.asked;
      shaken = kept;
      middle = middle;
      first = f.first;
      last = f.last;
      knowing = f.knowing;
      interrupt = h.interrupt;
      interrupt' = h.interrupt';
      store = fetched.store;
      store' = fetched.store';
      before = fetched.before;
      unlocked = fetched.unlocked;
      progress = h.progress;
      received = f.received;
      reports = f.reports;
      run = run;
      promise = promises _ _ _ _ _ _ _ _ run;
    }

nothing_either : (has : Bool) → (if has then own_features None else []) ≡ []
nothing_either true = refl
nothing_either false = refl

-- without a session id a client sends no feature except `agent`
nothing_more : (name : ClientName) (caps : List CapabilityValue) → name.session_id ≡ None → id_features caps name.session_id ≡ []
nothing_more name caps i = ap (id_features caps) i ∙ nothing_either (has_named (codes "session-id") caps)

-- by whether the session sees refs
run_or_ids : {N I A C P X : Type 0} (parties : Parties (CheckedNegotiation N) I A ShallowMemory C P X)
    (converts : X → Error → Type 0) (map_of : CheckedNegotiation N → RefMap) (knows : CheckedNegotiation N → Knowledge)
    (agent : FeatureValue) (more : List FeatureValue) (request : Request) (start shaken middle : Reading)
    (handshake kept : Handshake) (made : RefMap) (known : Knowledge) (boundary boundary' : List ObjectId) (consumer : C)
    (report : Result (Option Outcome) Error) (new : Reading) (consumer' : C) (here : Option (Vec Ref Global)) (by_id : Bool)
    → handshake.refs ≡ here → are_ids (asked_specs request) ≡ by_id
    → ((is_some handshake.refs || not (are_ids (asked_specs request))) ≡ true
    → IsOneRun parties converts map_of knows agent more request start made known boundary consumer report new consumer')
    → OpensSession [] parties.plain start shaken handshake
    → MapsInSession request agent handshake parties.plain shaken middle (Ok made)
    → kept ≡ record handshake { refs = kept.refs }
    → FetchesInSession parties converts map_of knows (session_call kept agent more request) made known boundary boundary' middle
    consumer report new consumer'
    → IsRunOrIds parties converts map_of knows agent more request start made known boundary consumer report new consumer'
run_or_ids parties converts map_of knows agent more request start shaken middle handshake kept made known boundary boundary' consumer
    report new consumer' (Some refs) by_id e b run opens maps keeps fetched =
    inl (run (ap (λ (x : Option (Vec Ref Global)). is_some x || not (are_ids (asked_specs request))) e))
run_or_ids parties converts map_of knows agent more request start shaken middle handshake kept made known boundary boundary' consumer
    report new consumer' None false e b run opens maps keeps fetched =
    inl (run (ap (λ (x : Option (Vec Ref Global)). is_some x || not (are_ids (asked_specs request))) e ∙ ap not b))
run_or_ids parties converts map_of knows agent more request start shaken middle handshake kept made known boundary boundary' consumer
    report new consumer' None true e b run opens maps keeps fetched = inr (record {
      ids = b;
      shaken = handshake;
      opened = shaken;
      opens = opens;
      unlisted = e;
      middle = middle;
      maps = maps;
      kept = kept;
      keeps = keeps;
      after = boundary';
      fetches = fetched;
    })

-- the same with the agent that the session stores
pub named_run : {N I A C P X : Type 0} (parties : Parties (CheckedNegotiation N) I A ShallowMemory C P X)
    (converts : X → Error → Type 0) (map_of : CheckedNegotiation N → RefMap) (knows : CheckedNegotiation N → Knowledge)
    → ((parameters : List Parameter) (agent : FeatureValue) (more : List FeatureValue) (request : Request)
    (start shaken middle : Reading)
    (handshake kept : Handshake) (made : RefMap) (known : Knowledge) (boundary boundary' : List ObjectId) (consumer : C)
    (report : Result (Option Outcome) Error) (new : Reading) (consumer' : C)
    → OpensSession parameters parties.plain start shaken handshake
    → MapsInSession request agent handshake parties.plain shaken middle (Ok made)
    → (is_some handshake.refs || not (are_ids (asked_specs request))) ≡ true
    → kept ≡ record handshake { refs = kept.refs }
    → FetchesInSession parties converts map_of knows (session_call kept agent more request) made known boundary boundary' middle
    consumer report new consumer'
    → IsOneRun parties converts map_of knows agent more request start made known boundary consumer report new consumer')
    → (agent : List ℕ) (held held' : ClientName) (request : Request) (start shaken middle : Reading)
    (handshake kept : Handshake) (made : RefMap) (known : Knowledge) (boundary boundary' : List ObjectId) (consumer : C)
    (report : Result (Option Outcome) Error) (new : Reading) (consumer' : C)
    → string_bytes held.agent ≡ agent → held.session_id ≡ None → held' ≡ held
    → OpensSession [] parties.plain start shaken handshake
    → MapsInSession request (named_by held) handshake parties.plain shaken middle (Ok made)
    → kept ≡ record handshake { refs = kept.refs }
    → FetchesInSession parties converts map_of knows
    (session_call kept (named_by held') (id_features kept.capabilities held'.session_id) request) made known
    boundary boundary' middle
    consumer report new consumer'
    → IsRunOrIds parties converts map_of knows (client_feature agent) [] request start made known boundary consumer report new consumer'
named_run parties converts map_of knows law agent held held' request start shaken middle handshake kept made known boundary boundary'
    consumer report new consumer' n i e opens maps keeps fetched =
    let mapped = subst (λ (x : List ℕ). MapsInSession request (client_feature x) handshake parties.plain shaken middle (Ok made)) n maps in
    let fetches = subst (λ (x : List FeatureValue). FetchesInSession parties converts map_of knows
    (session_call kept (client_feature agent) x request)
    made known boundary boundary' middle consumer report new consumer') (nothing_more held kept.capabilities i)
    (subst (λ (x : List ℕ). FetchesInSession parties converts map_of knows
    (session_call kept (client_feature x) (id_features kept.capabilities held.session_id) request)
    made known boundary boundary' middle consumer report new consumer') n
    (subst (λ (x : ClientName). FetchesInSession parties converts map_of knows
    (session_call kept (named_by x) (id_features kept.capabilities x.session_id) request)
    made known boundary boundary' middle consumer report new consumer') e fetched)) in
    run_or_ids parties converts map_of knows (client_feature agent) [] request start shaken middle handshake kept made known boundary
    boundary' consumer report new consumer' handshake.refs (are_ids (asked_specs request)) refl refl
    (λ reads. law [] (client_feature agent) [] request start shaken middle handshake kept made known boundary boundary' consumer report new
    consumer' opens mapped reads keeps fetches) opens mapped keeps fetches
