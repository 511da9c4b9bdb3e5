-- What the fetches of a session promise.
use Rattle.std.specs.Prelude.{◌≡◌, ◌⊎◌, ℕ, false, List, [], Option, None, Result, Ok, string_bytes}
use Rattle.gixp_packetline.specs.Reading.{Reading}
use Rattle.gixp_hash.specs.declared.object_id.ObjectId.{ObjectId}
use Rattle.gixp_graph.specs.Object.{Objects}
use Rattle.gixp_negotiate.specs.Marking.{LocalRefs}
use Rattle.gixp_refmap.specs.declared.refmap.map.RefMap.{RefMap}
use Rattle.gixp_reachable.specs.Reached.{ShowsReached}
use Rattle.gixp_shallow.specs.declared.store.memory.ShallowMemory.{ShallowMemory}
use Rattle.gixp_fetch.specs.Fetch.{Parties}
use Rattle.gixp_fetch.specs.FetchShallow.{shallow_value, is_change}
use Rattle.gixp_fetch.specs.Mapped.{Knowledge}
use Rattle.gixp_fetch.specs.declared.options.Outcome.{Outcome}
use Rattle.gixp_client.specs.Boundaries.{IsLeftBoundary, IsBoundaryAfter}
use Rattle.gixp_client.specs.ClientCalls.{CheckedNegotiation, session_call, session_knowledge, FetchesInSession, FailsWithoutAccount, MapsInSession, OpensSession}
use Rattle.gixp_client.specs.ClientError.{IsUnsent}
use Rattle.gixp_client.specs.Doubted.{doubted}
use Rattle.gixp_client.specs.ClientNames.{client_feature, named_by, id_features}
use Rattle.gixp_client.specs.ClientPromise.{IsRunOrIds}
use Rattle.gixp_client.specs.SessionRefs.{MapFailsInSession}
use Rattle.gixp_client.specs.SessionStates.{IsRefusedFetch}
use Rattle.gixp_client.specs.declared.error.Error.{Error}
use Rattle.gixp_client.specs.declared.fetched.Fetched.{Fetched}
use Rattle.gixp_client.specs.declared.request.Request.{Request}
use Rattle.gixp_client.specs.declared.session.Session.{Session}
use Rattle.gixp_client.specs.declared.state.State.TheVariants.{AtStop}

module _ {N I A C P X T L S : Type 0} (parties : Parties (CheckedNegotiation N) I A ShallowMemory C P X)
    (converts : X → Error → Type 0) (map_of : CheckedNegotiation N → RefMap) (knows : CheckedNegotiation N → Knowledge)
    (reading : T → Reading) where
  -- a session fetches the refs of a map into a repository with these objects, refs, ids that the refs peel to and shallow boundary,
  -- with this result
  pub record FetchesRefs (map : RefMap) (request : Request) (objects : Objects) (refs : LocalRefs) (tips boundary boundary' : List ObjectId)
      (old new : Session T L P S) (consumer consumer' : C) (report : Result (Option Outcome) Error) : Type 0 where
    -- the objects that the fetch takes as complete
    pub reached : Objects
    pub reaches : ShowsReached objects tips (doubted request.trusts_objects objects refs map.mappings.items) reached
    pub call : FetchesInSession parties converts map_of knows
        (session_call old.shaken (named_by old.name) (id_features old.shaken.capabilities old.name.session_id) request) map
        (session_knowledge request reached refs) boundary boundary' (reading old.transport.inner) consumer report
        (reading new.transport.inner) consumer'

  -- the fetch succeeded; if the map is empty, nothing was sent
  abbrev pub FetchSucceedsInSession : RefMap → Request → Objects → LocalRefs → (tips boundary : List ObjectId) → (old new : Session T L P S) → (consumer consumer' : C)
      → Fetched → Type 0
  FetchSucceedsInSession map request objects refs tips boundary old new consumer consumer' f =
      ((map.mappings.items ≡ []) × (f.outcome ≡ None) × (new ≡ old) × (consumer' ≡ consumer) × IsLeftBoundary boundary [] [] f.boundary)
      ⊎ ((after : List ObjectId)
      × FetchesRefs map request objects refs tips boundary after old new consumer consumer' (Ok f.outcome)
      × IsBoundaryAfter (is_change (shallow_value request.shallow)) boundary after f.boundary)

  -- the fetch failed before anything was sent, or as its state says; without a negotiated round the handshake is unchanged
  abbrev pub FetchFailsInSession : RefMap → Request → Objects → LocalRefs → (tips boundary : List ObjectId) → (old new : Session T L P S) → (consumer consumer' : C)
      → Error → Type 0
  FetchFailsInSession map request objects refs tips boundary old new consumer consumer' e =
      (IsUnsent old.state request old.shaken e × (new ≡ old) × (consumer' ≡ consumer))
      ⊎ ((report : Result (Option Outcome) Error) × (after : List ObjectId)
      × (f : FetchesRefs map request objects refs tips boundary after old new consumer consumer' report)
      × IsRefusedFetch f.call.fetches.last.negotiated old.shaken.server_protocol_version report e new.state
      × (f.call.fetches.last.negotiated ≡ false → new.shaken ≡ old.shaken))

module _ {N I A C P X T : Type 0} (parties : Parties (CheckedNegotiation N) I A ShallowMemory C P X)
    (converts : X → Error → Type 0) (map_of : CheckedNegotiation N → RefMap) (knows : CheckedNegotiation N → Knowledge)
    (reading : T → Reading) where
  -- a session with one fetch is one run of the law `headline`, or fetched ids without a list of refs; if the map is empty, there was
  -- no fetch
  abbrev pub FetchesOnce : List ℕ → Request → Objects → LocalRefs → (tips boundary : List ObjectId) → T → (consumer consumer' : C) → RefMap × Fetched → Type 0
  FetchesOnce agent request objects refs tips boundary transport consumer consumer' received =
      ((received.0.mappings.items ≡ []) × (received.1.outcome ≡ None) × (consumer' ≡ consumer))
      ⊎ ((reached : Objects) × (end : Reading)
      × ShowsReached objects tips (doubted request.trusts_objects objects refs received.0.mappings.items) reached
      × IsRunOrIds parties converts map_of knows (client_feature agent) [] request (reading transport) received.0
      (session_knowledge request reached refs) boundary consumer (Ok received.1.outcome) end consumer')

module _ {N I A C P X T : Type 0} (L S : Type 0) (parties : Parties (CheckedNegotiation N) I A ShallowMemory C P X)
    (converts : X → Error → Type 0) (map_of : CheckedNegotiation N → RefMap) (knows : CheckedNegotiation N → Knowledge)
    (reading : T → Reading) where
  -- the ref map of an open session failed, and the consumer received nothing; or the map was made, and its fetch failed
  abbrev pub FailsOpened : Request → Objects → LocalRefs → (tips boundary : List ObjectId) → (opened : Session T L P S) → (consumer consumer' : C)
      → Error → Type 0
  FailsOpened request objects refs tips boundary opened consumer consumer' e =
      ((mapped : Session T L P S) × (consumer' ≡ consumer) × MapFailsInSession parties.plain reading request opened mapped e)
      ⊎ ((map : RefMap) × (mapped : Session T L P S) × (ended : Session T L P S)
      × MapsInSession request (named_by opened.name) opened.shaken parties.plain (reading opened.transport.inner)
      (reading mapped.transport.inner) (Ok map)
      × (mapped.shaken ≡ record opened.shaken { refs = mapped.shaken.refs }) × (mapped.name ≡ opened.name)
      × FetchFailsInSession parties converts map_of knows reading map request objects refs tips boundary mapped ended consumer consumer' e)

  -- a session with one fetch failed: in its handshake, after which the consumer received nothing, or later
  abbrev pub FailsOnce : List ℕ → Request → Objects → LocalRefs → (tips boundary : List ObjectId) → T → (consumer consumer' : C) → Error → Type 0
  FailsOnce agent request objects refs tips boundary transport consumer consumer' e =
      ((consumer' ≡ consumer) × FailsWithoutAccount parties.plain (reading transport) e)
      ⊎ ((opened : Session T L P S)
      × OpensSession [] parties.plain (reading transport) (reading opened.transport.inner) opened.shaken
      × (string_bytes opened.name.agent ≡ agent) × (opened.name.session_id ≡ None) × (opened.state ≡ AtStop)
      × FailsOpened request objects refs tips boundary opened consumer consumer' e)
