-- A session of a planner: a handshake without an account, the ref map of the server's refs, and a fetch of the mapped refs.
use Rattle.std.specs.Prelude.{ℕ, ◌≡◌, ◌==◌, ◌⊎◌, Bool, true, false, if◌then◌else◌, List, [], ◌∷◌, codes, Option, Some, None, Result, Ok, Err, IfOk, IsOk}
use Rattle.std.specs.declared.alloc.AllocError.{AllocError}
use Rattle.gixp_graph.specs.GraphData.{GraphValue}
use Rattle.gixp_graph.specs.declared.empty.NoRefs.{NoRefs}
use Rattle.gixp_shallow.specs.declared.shallow.Shallow.TheVariants.{NoChange}
use Rattle.gixp_shallow.specs.declared.store.memory.ShallowMemory.{ShallowMemory}
use Rattle.gixp_negotiate.specs.declared.negotiate.negotiation.Negotiation.{Negotiation}
use Rattle.gixp_packetline.specs.Reading.{Reading}
use Rattle.gixp_requests.specs.Feature.{FeatureValue}
use Rattle.gixp_requests.specs.Command.{git_table}
use Rattle.gixp_response.specs.Answer.{update_items}
use Rattle.gixp_refmap.specs.declared.fetch.Tags.TheVariants as tags
use Rattle.gixp_refmap.specs.declared.refmap.init.Context.{Context}
use Rattle.gixp_refmap.specs.declared.refmap.init.Error.{Error as MapError}
use Rattle.gixp_refmap.specs.declared.refmap.init.Error.TheVariants as map
use Rattle.gixp_refmap.specs.declared.refmap.map.RefMap.{RefMap}
use Rattle.gixp_handshake.specs.declared.handshake.error.Error.{Error as HandshakeError}
use Rattle.gixp_handshake.specs.declared.handshake.read.Handshake.{Handshake}
use Rattle.gixp_handshake.specs.WithoutAccount.{GreetsWithoutAccount}
use Rattle.gixp_handshake.specs.Taken.{without_refs}
use Rattle.gixp_handshake.specs.Obtain.{IsWithoutRefs, Obtains}
use Rattle.gixp_fetch.specs.declared.error.Error.{Error as FetchError}
use Rattle.gixp_fetch.specs.declared.error.Error.TheVariants as fetch
use Rattle.gixp_fetch.specs.declared.options.Outcome.{Outcome}
use Rattle.gixp_fetch.specs.FetchShallow.{no_change}
use Rattle.gixp_fetch.specs.Fetch.{World, Parties}
use Rattle.gixp_fetch.specs.Fetched.{FetchCall, Fetches}
use Rattle.gixp_planner.specs.Refusal.{PlanRefusal, refusal, handshake_name, map_name, fetch_name}
use Rattle.gixp_planner.specs.Text.{mapped_shown}

-- the agent of the planner
abbrev pub planner_agent : FeatureValue
planner_agent = record { name = codes "agent"; value = Some (codes "git/gixp-plan") }

-- the ref map, with a request for the refspecs' prefixes
abbrev pub MapsRefs : Context → Handshake → Bool → Reading → Reading → Result RefMap MapError → Type 0
MapsRefs context h plain old new (Ok m) = (made : RefMap) × Obtains git_table planner_agent context h plain old new (Ok made)
    × IsWithoutRefs made m
MapsRefs context h plain old new (Err e) = Obtains git_table planner_agent context h plain old new (Err e)
    ⊎ ((new ≡ old) × (e ≡ map.Memory))

-- the options of a fetch: the boundary stays, and no tags are added to the mapped refs
abbrev pub planner_call : Handshake → FetchCall
planner_call h = record {
  table = git_table;
  version = h.server_protocol_version;
  capabilities = h.capabilities;
  agent = planner_agent;
  more = [];
  tags = tags.None;
  fetch_options = record { shallow = no_change; reported = update_items h.v1_shallow_updates; reject = false };
}

-- a fetch of the planner
pub record Carries {N I A S C P X : Type 0} (parties : Parties N I A S C P X) (h : Handshake) (first : World N I S C)
    (r : Result (Option Outcome) (FetchError A X)) (last : World N I S C) (progress : P) : Type 0 where
  pub fetched : Fetches parties (planner_call h) first r last progress

-- a negotiation over these objects, this graph, this negotiator and this ref map, without alternates, tags, or a
-- change of the boundary
abbrev pub NegotiatesOver : {O N G : Type 0} → O → GraphValue → N → RefMap → Negotiation O NoRefs N G AllocError → Type 0
NegotiatesOver objects graph negotiator map n = (n.context.objects.now ≡ objects) × (n.context.graph.now ≡ graph)
    × (n.context.negotiator.now ≡ negotiator) × (n.ref_map.now ≡ map) × (n.shallow.now ≡ NoChange) × (n.tags ≡ tags.None)
    × IfOk n.context.alternates (λ a. a.now ≡ []) × IsOk n.context.alternates

-- an empty boundary that nobody has locked
abbrev pub IsEmptyBoundary : ShallowMemory → Type 0
IsEmptyBoundary s = (s.ids.items ≡ []) × (s.locked ≡ false)

-- a fetch with some interrupt and some consumer, with no lock before or after it
pub record CarriesOn {N I A S C P X : Type 0} (parties : Parties N I A S C P X) (h : Handshake) (negotiate : N) (old : Reading)
    (store : S) (r : Result (Option Outcome) (FetchError A X)) (negotiate' : N) (new : Reading) (store' : S) : Type 0 where
  pub interrupt : I
  pub consumer : C
  pub interrupt' : I
  pub consumer' : C
  pub progress : P
  pub carries : Carries parties h
      (record { negotiate = negotiate; reading = old; interrupt = interrupt; store = store; locked = false; consumer = consumer }) r
      (record { negotiate = negotiate'; reading = new; interrupt = interrupt'; store = store'; locked = false; consumer = consumer' })
      progress

-- a fetch over such a negotiation and store of the boundary
pub record FetchesOver {N I A S C P X : Type 0} (parties : Parties N I A S C P X) (IsOver : N → Type 0) (IsEmpty : S → Type 0)
    (h : Handshake) (old new : Reading) (r : Result (Option Outcome) (FetchError A X)) : Type 0 where
  pub first : World N I S C
  pub last : World N I S C
  pub progress : P
  pub over : IsOver first.negotiate
  pub empty : IsEmpty first.store
  pub unlocked : first.locked ≡ false
  pub begins : first.reading ≡ old
  pub ends : last.reading ≡ new
  pub fetched : Carries parties h first r last progress

-- the same, or an allocation failed before it
abbrev pub FetchesMapped : {N I A S C P X : Type 0} → Parties N I A S C P X → (N → Type 0) → (S → Type 0) → Handshake → Reading
    → Reading → Result (Option Outcome) (FetchError A X) → Type 0
FetchesMapped parties IsOver IsEmpty h old new r = FetchesOver parties IsOver IsEmpty h old new r ⊎ ((new ≡ old) × (r ≡ Err fetch.Memory))

-- whether a pack came, or why the fetch failed
abbrev pub end_of : {A X : Type 0} → Result (Option Outcome) (FetchError A X) → Result Bool PlanRefusal
end_of (Ok (Some outcome)) = Ok true
end_of (Ok None) = Ok false
end_of (Err e) = Err (refusal (codes "fetch") (fetch_name e))

-- the outcome of a session, by its transport's failures: after a failure an answer may have been cut short, so the session failed
abbrev pub end_counted : ℕ → Result Bool PlanRefusal → Result Bool PlanRefusal
end_counted failures (Ok pack) = if failures == 0 then Ok pack else Err (refusal (codes "fetch") (codes "FetchResponse"))
end_counted failures (Err e) = Err e

module _ {A X : Type 0} (Receives : RefMap → Handshake → Reading → Reading → Result (Option Outcome) (FetchError A X) → Type 0)
    (context : Context) (plain : Bool) (old : Reading) where
  -- a session: its handshake failed, or its ref map did, or the mapped refs were fetched
  pub data Runs (new : Reading) (mapped : Option RefMap) (ended : Result Bool PlanRefusal) : Type 0 where
    ungreeted : (e : HandshakeError) → GreetsWithoutAccount plain old new (Err e) → mapped ≡ None
        → ended ≡ Err (refusal (codes "handshake") (handshake_name e)) → Runs new mapped ended
    unmapped : (h : Handshake) (mid : Reading) (e : MapError) → GreetsWithoutAccount plain old mid (Ok h)
        → MapsRefs context h plain mid new (Err e) → mapped ≡ None
        → ended ≡ Err (refusal (codes "refs") (map_name e)) → Runs new mapped ended
    fetched : (h : Handshake) (mid following : Reading) (m : RefMap) (r : Result (Option Outcome) (FetchError A X))
        → GreetsWithoutAccount plain old mid (Ok h) → MapsRefs context h plain mid following (Ok m)
        → Receives m (without_refs h) following new r → mapped ≡ Some m → ended ≡ end_of r → Runs new mapped ended

  -- a session whose ref map has this text
  pub record RunsPrinted (new : Reading) (text : List ℕ) (ended : Result Bool PlanRefusal) : Type 0 where
    pub mapped : Option RefMap
    pub runs : Runs new mapped ended
    pub shown : text ≡ mapped_shown mapped
