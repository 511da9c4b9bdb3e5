-- The steps of a session without an account.
use Rattle.std.proofs.Common.{◌≡◌, ◌∙◌, ◌↔◌, true, false, Bool, IsTrue, List, [], map, Option, String, Result, Ok, Err, ap, subst, sym}
use Rattle.std.specs.Prelude.{IfOk, IsSome, Vec}
use Rattle.std.specs.List.{AllByRecursion}
use Rattle.std.specs.declared.alloc.AllocError.{AllocError}
use Rattle.std.specs.declared.alloc.Global.{Global}
use Rattle.gixp_hash.specs.declared.object_id.ObjectId.{ObjectId}
use Rattle.gixp_capabilities.specs.Capabilities.{CapabilityValue}
use Rattle.gixp_packetline.specs.declared.protocol.MessageKind.{MessageKind}
use Rattle.gixp_packetline.specs.Reading.{Reading}
use Rattle.gixp_refs.specs.declared.handshake.Ref.{Ref}
use Rattle.gixp_refs.specs.Ref.{ref_value}
use Rattle.gixp_requests.specs.Command.{TableValue}
use Rattle.gixp_requests.specs.Feature.{FeatureValue}
use Rattle.gixp_shallow.specs.declared.store.memory.ShallowMemory.{ShallowMemory}
use Rattle.gixp_refmap.specs.declared.fetch.Tags.TheVariants as tags
use Rattle.gixp_refmap.specs.declared.refmap.init.Context.{Context}
use Rattle.gixp_refmap.specs.declared.refmap.init.Error.{Error as MapError}
use Rattle.gixp_refmap.specs.declared.refmap.map.RefMap.{RefMap}
use Rattle.gixp_refmap.specs.declared.refmap.mapping.Mapping.{Mapping}
use Rattle.gixp_refmap.specs.Mapping.{spec_at, joined_specs, AnswersMap, HoldsOfAll}
use Rattle.gixp_handshake.specs.declared.handshake.read.Handshake.{Handshake}
use Rattle.gixp_handshake.specs.Obtain.{MakesMap}
use Rattle.gixp_handshake.specs.Taken.{without_refs}
use Rattle.gixp_fetch.specs.declared.error.Error.{Error as FetchError}
use Rattle.gixp_fetch.specs.declared.options.Outcome.{Outcome}
use Rattle.gixp_fetch.specs.FetchShallow.{ShallowValue}
use Rattle.gixp_fetch.specs.Fetch.{World, Parties}
use Rattle.gixp_fetch.specs.Fetched.{Fetches, call_of}
use Rattle.gixp_engine.specs.EngineTable.{engine_table}
use Rattle.gixp_engine.specs.FilterLine.{AllowsFilter}
use Rattle.gixp_engine.specs.declared.consumer.Left.{Left}
use Rattle.gixp_engine.specs.declared.session.Received.{Received}
use Rattle.gixp_engine.specs.declared.error.EngineError.{EngineError}
use Rattle.gixp_handshake.specs.WithoutAccount.{GreetsWithoutAccount}
use Rattle.gixp_engine.specs.IdSpecs.{needs_no_list}
use Rattle.gixp_engine.specs.ListLosses.{is_lossy}
use Rattle.gixp_engine.specs.declared.losses.ListLosses.{ListLosses}
use Rattle.gixp_engine.specs.Alone.{engine_agent, engine_call, end_of_fetch, CarriesCall, MapsBy, MapsAlone, EngineSession, are_whole, map_of_whole, fetched}

-- the engine passes its table and its agent
pub carries-call : {N I A S C P X : Type 0} (parties : Parties N I A S C P X) (first : World N I S C)
    (r : Result (Option Outcome) (FetchError A X)) (last : World N I S C) (progress : P) (h : Handshake) (shallow : ShallowValue)
    (table : TableValue) (agent : FeatureValue) → table ≡ engine_table → agent ≡ engine_agent
    → Fetches parties (call_of table h agent [] tags.None shallow false) first r last progress
    → CarriesCall parties (engine_call h shallow) first r last progress
carries-call parties first r last progress h shallow table agent e f it = record {
  fetched =
      subst (λ t. Fetches parties (call_of t h engine_agent [] tags.None shallow false) first r last progress) e
      (subst (λ a. Fetches parties (call_of table h a [] tags.None shallow false) first r last progress) f it);
}

module _ (Receives : RefMap → Handshake → Reading → ShallowMemory → Reading → ShallowMemory
    → Result (Option Outcome) (FetchError AllocError Left) → Type 0) where
  pub session-ran : (context : Context) (filter : Option (String Global)) (ids : List ObjectId) (losses : ListLosses) (plain : Bool)
      (old mid following new : Reading) (h k : Handshake) (m : RefMap)
      (r : Result (Option Outcome) (FetchError AllocError Left)) (store store' : ShallowMemory)
      (ended : Result (Option Received) EngineError)
      → GreetsWithoutAccount plain old mid (Ok h) → AllowsFilter filter h (Ok tt) → MapsAlone context h plain mid following (Ok m)
      → are_whole (needs_no_list context h) following.stopped ≡ true → is_lossy losses (needs_no_list context h) h ≡ false
      → k ≡ without_refs h → (m.mappings.items ≡ [] → ⊥) → store.ids.items ≡ ids → store.locked ≡ false
      → Receives m k following store new store' r → ended ≡ end_of_fetch k.server_protocol_version store' r
      → EngineSession Receives context filter ids losses plain old new ended
  session-ran context filter ids losses plain old mid following new h k m r store store' ended s allowed l whole lossless e some held free f q =
      fetched h mid following m r store store' s allowed l whole lossless some (record { ids = held; unlocked = free })
      (subst (λ x. Receives m x following store new store' r) e f)
      (q ∙ ap (λ (x : Handshake). end_of_fetch x.server_protocol_version store' r) e)

-- a ref map over no refs
pub makes-unlisted : (caps : List CapabilityValue) (context : Context) (none : Vec Ref Global) (r : Result RefMap MapError)
    → none.items ≡ [] → AnswersMap caps context.fetch_refspecs.items context.extra_refspecs.items (map ref_value none.items) r
    → HoldsOfAll (joined_specs context.fetch_refspecs.items context.extra_refspecs.items) (map ref_value none.items)
    (λ all. AnswersMap caps context.fetch_refspecs.items context.extra_refspecs.items all r)
    → IfOk r (λ m. AllByRecursion (λ (x : Mapping). IsSome (spec_at x.spec_index m.refspecs.items m.extra_refspecs.items)) m.mappings.items)
    → IfOk r (λ m. m.remote_refs.items ≡ []) → IfOk r (λ m. m.refspecs ≡ context.fetch_refspecs)
    → IfOk r (λ m. m.extra_refspecs ≡ context.extra_refspecs) → MakesMap caps context [] r
makes-unlisted caps context none r e maps filtered found refs explicit extra = record {
  maps = subst (λ (xs : List Ref). AnswersMap caps context.fetch_refspecs.items context.extra_refspecs.items (map ref_value xs) r) e maps;
  filtered =
      subst (λ (xs : List Ref). HoldsOfAll (joined_specs context.fetch_refspecs.items context.extra_refspecs.items) (map ref_value xs)
      (λ all. AnswersMap caps context.fetch_refspecs.items context.extra_refspecs.items all r)) e filtered;
  found = found;
  refs = refs;
  explicit = explicit;
  extra = extra;
}

-- the same ref map, by an equal test
pub maps-by : (b b' : Bool) (context : Context) (h : Handshake) (plain : Bool) (old new : Reading) (r : Result RefMap MapError)
    → b ≡ b' → MapsBy b context h plain old new r → MapsBy b' context h plain old new r
maps-by b b' context h plain old new r e m = subst (λ (x : Bool). MapsBy x context h plain old new r) e m

-- whether the refs are complete, by an equal test
pub whole-by : (w b b' : Bool) (stopped : Option MessageKind) → w ≡ are_whole b stopped → b ≡ b' → w ≡ are_whole b' stopped
whole-by w b b' stopped e f = e ∙ ap (λ (x : Bool). are_whole x stopped) f

-- a ref map that was made
pub maps-made : (context : Context) (h : Handshake) (plain : Bool) (old new : Reading) (r : Result RefMap MapError) (m : RefMap)
    → r ≡ Ok m → MapsAlone context h plain old new r → MapsAlone context h plain old new (Ok m)
maps-made context h plain old new r m e f = subst (λ (x : Result RefMap MapError). MapsAlone context h plain old new x) e f

pub took-refs : (h k : Handshake) (r : Result RefMap MapError) (m : RefMap) → r ≡ Ok m → IfOk r (λ _. k ≡ without_refs h)
    → k ≡ without_refs h
took-refs h k r m e f = subst (λ (x : Result RefMap MapError). IfOk x (λ _. k ≡ without_refs h)) e f

pub ends-whole : (b b' : Bool) → b ≡ true → b ≡ b' → b' ≡ true
ends-whole b b' h e = sym e ∙ h

-- the error of a ref map depends only on where the refs end, and on the white space that they lose
pub refused-by : (r : Result RefMap MapError) (b b' lossy lossy' : Bool) (e : EngineError) → Err e ≡ map_of_whole r b lossy → b ≡ b'
    → lossy ≡ lossy' → map_of_whole r b' lossy' ≡ Err e
refused-by r b b' lossy lossy' e h f k =
    ap (map_of_whole r b') (sym k) ∙ (ap (λ (x : Bool). map_of_whole r x lossy) (sym f) ∙ sym h)

-- whether the refs lose white space, by an equal test
pub lossy-by : (lossy b b' : Bool) (losses : ListLosses) (h : Handshake) → lossy ≡ is_lossy losses b h → b ≡ b'
    → lossy ≡ is_lossy losses b' h
lossy-by lossy b b' losses h e f = e ∙ ap (λ (x : Bool). is_lossy losses x h) f

pub ends-lossless : (b b' : Bool) → b ≡ false → b ≡ b' → b' ≡ false
ends-lossless b b' h e = sym e ∙ h

-- the same session, where the lists lose the same white space
pub session-by : (Receives : RefMap → Handshake → Reading → ShallowMemory → Reading → ShallowMemory
    → Result (Option Outcome) (FetchError AllocError Left) → Type 0) (context : Context) (filter : Option (String Global))
    (ids : List ObjectId) (losses losses' : ListLosses) (plain : Bool) (old new : Reading) (ended : Result (Option Received) EngineError)
    → losses ≡ losses' → EngineSession Receives context filter ids losses plain old new ended
    → EngineSession Receives context filter ids losses' plain old new ended
session-by Receives context filter ids losses losses' plain old new ended e h =
    subst (λ (l : ListLosses). EngineSession Receives context filter ids l plain old new ended) e h

-- a test that fails refutes its statement
pub untold : (b : Bool) {P : Type 0} → IsTrue b ↔ P → b ≡ false → P → ⊥
untold true iff f p = absurd cc
untold false iff f p = let t : IsTrue false = iff.1 p in absurd cc
