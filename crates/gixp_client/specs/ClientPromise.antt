-- A session as one run of the law `headline`: a handshake, a ref map made over it, and a fetch whose negotiation is over this map.
use Rattle.std.specs.Prelude.{◌≡◌, ◌⊎◌, true, false, List, [], Option, None, Result, Ok}
use Rattle.gixp_packetline.specs.Reading.{Reading}
use Rattle.gixp_requests.specs.Feature.{FeatureValue}
use Rattle.gixp_refmap.specs.Values.{context_value}
use Rattle.gixp_refmap.specs.declared.refmap.init.Context.{Context}
use Rattle.gixp_refmap.specs.declared.refmap.map.RefMap.{RefMap}
use Rattle.gixp_handshake.specs.declared.handshake.read.Handshake.{Handshake}
use Rattle.gixp_fetch.specs.declared.options.Outcome.{Outcome}
use Rattle.gixp_fetch.specs.declared.error.Error.{Error as FetchError}
use Rattle.gixp_shallow.specs.declared.store.memory.ShallowMemory.{ShallowMemory}
use Rattle.gixp_hash.specs.declared.object_id.ObjectId.{ObjectId}
use Rattle.gixp_fetch.specs.Fetch.{Parties}
use Rattle.gixp_fetch.specs.Fetched.{unlocked_world}
use Rattle.gixp_fetch.specs.Mapped.{Knowledge}
use Rattle.gixp_fetch.specs.Headline.{Run, Promise}
use Rattle.gixp_reachable.specs.Ids.{has_id}
use Rattle.gixp_client.specs.ClientCalls.{CheckedNegotiation, OpensSession, MapsInSession, FetchesInSession, asked_specs, session_call, ReportsKnown}
use Rattle.gixp_client.specs.IdSpecs.{are_ids}
use Rattle.gixp_client.specs.declared.error.Error.{Error}
use Rattle.gixp_client.specs.declared.request.Request.{Request}

module _ {N I A C P X : Type 0} (parties : Parties (CheckedNegotiation N) I A ShallowMemory C P X) (converts : X → Error → Type 0)
    (map_of : CheckedNegotiation N → RefMap) (knows : CheckedNegotiation N → Knowledge) where
  -- a session from the start of its transport to the result of its fetch is one run of the law, with its promise
  pub record IsOneRun (agent : FeatureValue) (more : List FeatureValue) (request : Request) (start : Reading) (made : RefMap) (known : Knowledge)
      (boundary : List ObjectId) (consumer : C) (report : Result (Option Outcome) Error) (new : Reading) (consumer' : C) : Type 0 where
    pub context : Context
    pub asked : context_value context ≡ asked_specs request
    pub shaken : Handshake
    pub middle : Reading
    pub first : CheckedNegotiation N
    pub last : CheckedNegotiation N
    pub knowing : knows first ≡ known
    pub interrupt : I
    pub interrupt' : I
    pub store : ShallowMemory
    pub store' : ShallowMemory
    pub before : store.ids.items ≡ boundary
    pub unlocked : store.locked ≡ false
    pub progress : P
    pub received : Result (Option Outcome) (FetchError A X)
    pub reports : ReportsKnown converts (has_id boundary) first last received report
    pub run : Run parties map_of knows (session_call shaken agent more request).fetch context start made
        (unlocked_world first middle interrupt store consumer) received (unlocked_world last new interrupt' store' consumer') progress
    pub promise : Promise parties map_of knows (session_call shaken agent more request).fetch context start made
        (unlocked_world first middle interrupt store consumer) received (unlocked_world last new interrupt' store' consumer') progress run

  -- the same for refspecs that are ids, if the server sent no refs with its handshake: no refs were listed
  pub record FetchesIds (agent : FeatureValue) (more : List FeatureValue) (request : Request) (start : Reading) (made : RefMap)
      (known : Knowledge) (boundary : List ObjectId) (consumer : C) (report : Result (Option Outcome) Error) (new : Reading)
      (consumer' : C) : Type 0 where
    pub ids : are_ids (asked_specs request) ≡ true
    pub shaken : Handshake
    pub opened : Reading
    pub opens : OpensSession [] parties.plain start opened shaken
    pub unlisted : shaken.refs ≡ None
    pub middle : Reading
    pub maps : MapsInSession request agent shaken parties.plain opened middle (Ok made)
    pub kept : Handshake
    pub keeps : kept ≡ record shaken { refs = kept.refs }
    pub after : List ObjectId
    pub fetches : FetchesInSession parties converts map_of knows (session_call kept agent more request) made known boundary after
        middle consumer report new consumer'

  -- a session with one fetch is one run of the law, unless it fetched ids without a list of refs
  abbrev pub IsRunOrIds : (agent : FeatureValue) (more : List FeatureValue) (request : Request) (start : Reading) (made : RefMap)
      (known : Knowledge) (boundary : List ObjectId) (consumer : C) (report : Result (Option Outcome) Error) (new : Reading)
      (consumer' : C) → Type 0
  IsRunOrIds agent more request start made known boundary consumer report new consumer' =
      IsOneRun agent more request start made known boundary consumer report new consumer'
      ⊎ FetchesIds agent more request start made known boundary consumer report new consumer'
