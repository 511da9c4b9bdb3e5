-- A session without an account: a handshake, a ref map, and a fetch of the mapped refs that leaves the pack to the caller.
use Rattle.std.specs.Prelude.{◌≡◌, ◌⊎◌, ◌||◌, true, false, List, [], codes, Option, Some, None, String, Result, Ok, Err, IfOk, IsOk, Bool}
use Rattle.std.specs.FinMap as finite
use Rattle.std.specs.declared.alloc.AllocError.{AllocError}
use Rattle.std.specs.declared.alloc.Global.{Global}
use Rattle.gixp_hash.specs.declared.object_id.ObjectId.{ObjectId}
use Rattle.gixp_packetline.specs.declared.protocol.MessageKind.{MessageKind}
use Rattle.gixp_packetline.specs.declared.protocol.Protocol.{Protocol}
use Rattle.gixp_packetline.specs.Reading.{Reading}
use Rattle.gixp_response.specs.Sections.{is_flush}
use Rattle.gixp_requests.specs.Feature.{FeatureValue}
use Rattle.gixp_graph.specs.GraphData.{graph_of}
use Rattle.gixp_graph.specs.declared.empty.NoObjects.{NoObjects}
use Rattle.gixp_graph.specs.declared.empty.NoRefs.{NoRefs}
use Rattle.gixp_shallow.specs.declared.shallow.Shallow.{Shallow}
use Rattle.gixp_shallow.specs.declared.store.memory.ShallowMemory.{ShallowMemory}
use Rattle.gixp_negotiate.specs.declared.negotiate.negotiation.Negotiation.{Negotiation}
use Rattle.gixp_refmap.specs.declared.fetch.Tags.TheVariants as tags
use Rattle.gixp_refmap.specs.declared.refmap.init.Context.{Context}
use Rattle.gixp_refmap.specs.declared.refmap.init.Error.{Error as MapError}
use Rattle.gixp_refmap.specs.declared.refmap.init.Error.TheVariants as map
use Rattle.gixp_refmap.specs.declared.refmap.map.RefMap.{RefMap}
use Rattle.gixp_handshake.specs.declared.handshake.error.Error.{Error as HandshakeError}
use Rattle.gixp_handshake.specs.declared.handshake.read.Handshake.{Handshake}
use Rattle.gixp_handshake.specs.WithoutAccount.{GreetsWithoutAccount}
use Rattle.gixp_handshake.specs.Taken.{without_refs}
use Rattle.gixp_handshake.specs.Obtain.{MakesMap, ObtainsMappings}
use Rattle.gixp_fetch.specs.declared.error.Error.{Error as FetchError}
use Rattle.gixp_fetch.specs.declared.error.Error.TheVariants as fetch
use Rattle.gixp_fetch.specs.declared.options.Outcome.{Outcome}
use Rattle.gixp_fetch.specs.FetchShallow.{ShallowValue}
use Rattle.gixp_fetch.specs.Fetch.{World, Parties}
use Rattle.gixp_fetch.specs.Fetched.{FetchCall, Fetches, call_of, unlocked_world}
use Rattle.gixp_engine.specs.EngineTable.{engine_table}
use Rattle.gixp_engine.specs.FilterLine.{AllowsFilter}
use Rattle.gixp_engine.specs.IdSpecs.{needs_no_list}
use Rattle.gixp_engine.specs.ListLosses.{is_lossy}
use Rattle.gixp_engine.specs.declared.losses.ListLosses.{ListLosses}
use Rattle.gixp_engine.specs.declared.filter.FilterOnce.{FilterOnce}
use Rattle.gixp_engine.specs.declared.session.Received.{Received}
use Rattle.gixp_engine.specs.declared.consumer.Left.{Left}
use Rattle.gixp_engine.specs.declared.error.EngineError.{EngineError}
use Rattle.gixp_engine.specs.declared.error.EngineError.TheVariants.{Handshake as Unshaken, Refs as Unmapped, UnterminatedRefs, UnsupportedRefName, Fetch as Unfetched}

-- the feature `agent`
abbrev pub engine_agent : FeatureValue
engine_agent = record { name = codes "agent"; value = Some (codes "git/gixp") }

-- the ref map. If no list of refs is needed, it is made without refs, and nothing is sent. Otherwise it is made of the refs of the
-- handshake, or of those that the server lists for the prefixes of the refspecs; or an allocation failed first
abbrev pub MapsBy : (needs_no_list : Bool) → Context → Handshake → Bool → Reading → Reading → Result RefMap MapError → Type 0
MapsBy true context h plain old new r = (new ≡ old) × MakesMap h.capabilities context [] r
MapsBy false context h plain old new r = ObtainsMappings engine_table engine_agent context h plain old new r
    ⊎ ((new ≡ old) × (r ≡ Err map.Memory))

abbrev pub MapsAlone : Context → Handshake → Bool → Reading → Reading → Result RefMap MapError → Type 0
MapsAlone context h plain old new r = MapsBy (needs_no_list context h) context h plain old new r

-- the refs of a ref map are complete: no list was needed, or it ended with a flush packet
abbrev pub are_whole : (needs_no_list : Bool) → Option MessageKind → Bool
are_whole needs_no_list stopped = needs_no_list || is_flush stopped

-- the error of a ref map whose list didn't end with a flush packet: refs that were read are incomplete, whether they can be mapped
-- or not
abbrev pub unmapped_of_cut : MapError → EngineError
unmapped_of_cut (map.UnknownObjectFormat format) = UnterminatedRefs
unmapped_of_cut (map.MappingValidation e) = UnterminatedRefs
unmapped_of_cut (map.ListRefs e) = Unmapped (map.ListRefs e)
unmapped_of_cut map.Memory = Unmapped map.Memory

-- the ref map, if its refs are complete: they end with a flush packet (gitprotocol-v2, "ls-refs"; gitprotocol-pack,
-- "Reference Discovery"); and if their list lost no white space of a name
abbrev pub map_of_whole : Result RefMap MapError → (is_whole is_lossy : Bool) → Result RefMap EngineError
map_of_whole (Ok m) true false = Ok m
map_of_whole (Ok m) true true = Err UnsupportedRefName
map_of_whole (Ok m) false is_lossy = Err UnterminatedRefs
map_of_whole (Err e) true is_lossy = Err (Unmapped e)
map_of_whole (Err e) false is_lossy = Err (unmapped_of_cut e)

-- the arguments of the fetch: only mapped tags are requested
abbrev pub engine_call : Handshake → ShallowValue → FetchCall
engine_call h shallow = call_of engine_table h engine_agent [] tags.None shallow false

-- a negotiation over these objects and this ref map that offers these haves in order, and whose first request has this filter. It
-- has no commits, no refs and no alternates
pub record OffersAlone {O : Type 0} (here : O) (offered : List ObjectId) (made : RefMap) (asked : Shallow) (filter : Option (String Global))
    (n : FilterOnce (Negotiation O NoRefs (List ObjectId) NoObjects AllocError)) : Type 0 where
  pub objects : n.negotiation.now.context.objects.now ≡ here
  pub graph : n.negotiation.now.context.graph.now.graph ≡ graph_of finite.empty finite.empty
  pub haves : n.negotiation.now.context.negotiator.now ≡ offered
  pub mapped : n.negotiation.now.ref_map.now ≡ made
  pub shallow : n.negotiation.now.shallow.now ≡ asked
  pub tags : n.negotiation.now.tags ≡ tags.None
  pub opened : IsOk n.negotiation.now.context.alternates
  pub lent : IfOk n.negotiation.now.context.alternates (λ a. a.now ≡ [])
  pub filter_once : n.filter ≡ filter

-- an unlocked store of this shallow boundary
pub record HoldsAlone (boundary : List ObjectId) (store : ShallowMemory) : Type 0 where
  pub ids : store.ids.items ≡ boundary
  pub unlocked : store.locked ≡ false

pub record CarriesCall {N I A S C P X : Type 0} (parties : Parties N I A S C P X) (call : FetchCall) (first : World N I S C)
    (r : Result (Option Outcome) (FetchError A X)) (last : World N I S C) (progress : P) : Type 0 where
  pub fetched : Fetches parties call first r last progress

module _ {N I A C P X : Type 0} (parties : Parties N I A ShallowMemory C P X) where
  -- a fetch with some interrupt and some consumer, and without a lock before and after it
  pub record CarriesAlone (call : FetchCall) (first : N) (old : Reading) (store : ShallowMemory)
      (r : Result (Option Outcome) (FetchError A X)) (last : N) (new : Reading) (store' : ShallowMemory) : Type 0 where
    pub interrupt : I
    pub consumer : C
    pub interrupt' : I
    pub consumer' : C
    pub progress : P
    pub carries : CarriesCall parties call (unlocked_world first old interrupt store consumer) r
        (unlocked_world last new interrupt' store' consumer') progress

  -- such a fetch with such a negotiation; or an allocation failed first
  pub data FetchesAlone (Offers : N → Type 0) (call : FetchCall) (old : Reading) (store : ShallowMemory)
      (r : Result (Option Outcome) (FetchError A X)) (new : Reading) (store' : ShallowMemory) : Type 0 where
    carried : (first last : N) → Offers first → CarriesAlone call first old store r last new store'
        → FetchesAlone Offers call old store r new store'
    uncarried : new ≡ old → store' ≡ store → r ≡ Err fetch.Memory → FetchesAlone Offers call old store r new store'

module _ {N I A C P X : Type 0} (parties : Parties (FilterOnce N) I A ShallowMemory C P X) where
  -- such a fetch with this negotiation, whose first request has this filter
  pub record FetchesFiltered (call : FetchCall) (n : N) (filter : Option (String Global)) (old : Reading) (store : ShallowMemory)
      (r : Result (Option Outcome) (FetchError A X)) (new : Reading) (store' : ShallowMemory) : Type 0 where
    pub first : FilterOnce N
    pub last : FilterOnce N
    pub negotiation : first.negotiation.now ≡ n
    pub filtered : first.filter ≡ filter
    pub carries : CarriesAlone parties call first old store r last new store'

-- the result of a session by its fetch and the boundary after it: the response with a pack, or nothing to request, or the error
abbrev pub end_of_fetch : Protocol → ShallowMemory → Result (Option Outcome) (FetchError AllocError Left)
    → Result (Option Received) EngineError
end_of_fetch version boundary (Ok (Some outcome)) = Ok (Some (record { version = version; boundary = boundary }))
end_of_fetch version boundary (Ok None) = Ok None
end_of_fetch version boundary (Err e) = Err (Unfetched e)

module _ (Receives : RefMap → Handshake → Reading → ShallowMemory → Reading → ShallowMemory
    → Result (Option Outcome) (FetchError AllocError Left) → Type 0)
    (context : Context) (filter : Option (String Global)) (boundary : List ObjectId) (losses : ListLosses) (plain : Bool)
    (old : Reading) where
  -- a session up to its pack: the handshake failed, or the server lacks filters, or the ref map failed, or its list of refs is
  -- incomplete or lost white space, or nothing is mapped, or the mapped refs were fetched
  pub data EngineSession (new : Reading) (ended : Result (Option Received) EngineError) : Type 0 where
    unshaken : (e : HandshakeError) → GreetsWithoutAccount plain old new (Err e) → ended ≡ Err (Unshaken e) → EngineSession new ended
    -- nothing was sent after the handshake
    unfiltered : (h : Handshake) (e : EngineError) → GreetsWithoutAccount plain old new (Ok h) → AllowsFilter filter h (Err e)
        → ended ≡ Err e → EngineSession new ended
    unmapped : (h : Handshake) (mid : Reading) (r : Result RefMap MapError) (e : EngineError) → GreetsWithoutAccount plain old mid (Ok h)
        → AllowsFilter filter h (Ok tt)
        → MapsAlone context h plain mid new r
        → map_of_whole r (are_whole (needs_no_list context h) new.stopped) (is_lossy losses (needs_no_list context h) h) ≡ Err e
        → ended ≡ Err e → EngineSession new ended
    empty : (h : Handshake) (mid : Reading) (m : RefMap) → GreetsWithoutAccount plain old mid (Ok h) → AllowsFilter filter h (Ok tt)
        → MapsAlone context h plain mid new (Ok m) → are_whole (needs_no_list context h) new.stopped ≡ true
        → is_lossy losses (needs_no_list context h) h ≡ false → m.mappings.items ≡ [] → ended ≡ Ok None → EngineSession new ended
    fetched : (h : Handshake) (mid following : Reading) (m : RefMap) (r : Result (Option Outcome) (FetchError AllocError Left))
        (store store' : ShallowMemory)
        → GreetsWithoutAccount plain old mid (Ok h) → AllowsFilter filter h (Ok tt)
        → MapsAlone context h plain mid following (Ok m) → are_whole (needs_no_list context h) following.stopped ≡ true
        → is_lossy losses (needs_no_list context h) h ≡ false → (m.mappings.items ≡ [] → ⊥) → HoldsAlone boundary store
        → Receives m (without_refs h) following store new store' r
        → ended ≡ end_of_fetch h.server_protocol_version store' r → EngineSession new ended
