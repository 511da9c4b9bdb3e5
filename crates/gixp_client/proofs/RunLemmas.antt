-- The arguments that a session passes to the lower calls.
use Rattle.std.proofs.Common.{◌≡◌, Bool, false, List, [], ◌∷◌, Option, Some, None, Result, Ok, Err, Vec, inl, refl, subst, sym, ap, ◌∙◌}
use Rattle.std.specs.declared.alloc.Global.{Global}
use Rattle.gixp_response.specs.Answer.{update_items}
use Rattle.std.specs.Prelude.{if◌then◌else◌}
use Rattle.std.specs.Option.{option_map_or}
use Rattle.gixp_hash.specs.declared.object_id.ObjectId.{ObjectId}
use Rattle.gixp_shallow.specs.declared.store.memory.ShallowMemory.{ShallowMemory}
use Rattle.gixp_shallow.specs.declared.update.ShallowUpdate.{ShallowUpdate}
use Rattle.gixp_shallow.specs.declared.update.ShallowUpdate.TheVariants.{Shallow as ShallowId, Unshallow}
use Rattle.gixp_client.specs.declared.error.Error.{Error}
use Rattle.gixp_packetline.specs.Reading.{Reading}
use Rattle.gixp_graph.specs.Object.{Objects}
use Rattle.gixp_requests.specs.Feature.{FeatureValue}
use Rattle.gixp_requests.specs.Command.{TableValue}
use Rattle.gixp_refmap.specs.declared.fetch.Tags.{Tags}
use Rattle.gixp_refmap.specs.declared.refmap.init.Context.{Context}
use Rattle.gixp_refmap.specs.declared.refmap.init.Error.{Error as MapError}
use Rattle.gixp_refmap.specs.declared.refmap.map.RefMap.{RefMap}
use Rattle.gixp_handshake.specs.declared.handshake.read.Handshake.{Handshake}
use Rattle.gixp_handshake.specs.Obtain.{Obtains}
use Rattle.gixp_negotiate.specs.Marking.{LocalRefs}
use Rattle.gixp_shallow.specs.declared.shallow.Shallow.{Shallow}
use Rattle.gixp_fetch.specs.declared.options.Outcome.{Outcome}
use Rattle.gixp_fetch.specs.declared.error.Error.{Error as FetchError}
use Rattle.gixp_fetch.specs.FetchShallow.{shallow_value}
use Rattle.gixp_fetch.specs.Fetch.{World, Parties}
use Rattle.gixp_fetch.specs.Fetched.{FetchCall, Fetches, unprepared, call_of}
use Rattle.gixp_fetch.specs.Prepare.{no_room}
use Rattle.gixp_fetch.specs.declared.error.Error.TheVariants.{Memory}
use Rattle.gixp_fetch.specs.Mapped.{Knowledge}
use Rattle.gixp_client.specs.SentTags.{sent_tags}
use Rattle.gixp_client.specs.Tables.{asked_table}
use Rattle.gixp_reachable.specs.Ids.{has_id}
use Rattle.gixp_client.specs.Unshallowed.{unknown_id, unknown_unshallow, unless_taken, known_alone}
use Rattle.gixp_client.specs.ClientCalls.{SessionCall, CheckedNegotiation, session_call, ReportsKnown, CarriesFetch, HoldsFetch, FetchesMap, FetchesInSession}
use Rattle.gixp_client.specs.declared.request.Request.{Request}
use Rattle.gixp_client.specs.SessionStates.{state_after_fetch, IsRefusedFetch}
use Rattle.gixp_client.specs.declared.state.State.{State}
use Rattle.gixp_client.specs.declared.unshallow_check.UnshallowCheck.{UnshallowCheck}
use Rattle.gixp_packetline.specs.declared.protocol.Protocol.{Protocol}

-- a fetch with equal arguments is the session's fetch
pub as_session : {N I S A C P X : Type 0} (parties : Parties N I A S C P X) (table : TableValue) (agent agent' : FeatureValue)
    (more more' : List FeatureValue) (shaken : Handshake) (request : Request) (old : World N I S C)
    (received : Result (Option Outcome) (FetchError A X)) (new : World N I S C) (progress : P) (tags : Tags)
    → table ≡ asked_table request.wants_progress request.wants_thin_pack request.uri_protocols → agent ≡ agent' → more ≡ more'
    → tags ≡ sent_tags shaken.server_protocol_version shaken.capabilities request.tags
    → Fetches parties (call_of table shaken agent more tags (shallow_value request.shallow) request.rejects_shallow)
    old received new progress
    → CarriesFetch parties (session_call shaken agent' more' request).fetch old received new progress
as_session parties table agent agent' more more' shaken request old received new progress tags t a m s f = record {
  fetched =
      subst (λ (x : Tags). Fetches parties (call_of (asked_table request.wants_progress request.wants_thin_pack request.uri_protocols) shaken agent' more' x
      (shallow_value request.shallow) request.rejects_shallow) old received new progress) s
      (subst (λ (x : TableValue). Fetches parties (call_of x shaken agent' more' tags (shallow_value request.shallow)
      request.rejects_shallow) old received new progress) t
      (subst (λ (x : List FeatureValue). Fetches parties (call_of table shaken agent' x tags (shallow_value request.shallow)
      request.rejects_shallow) old received new progress) m
      (subst (λ (x : FeatureValue). Fetches parties (call_of table shaken x more tags (shallow_value request.shallow)
      request.rejects_shallow) old received new progress) a f)));
}

-- a fetch that failed to allocate its arguments is a fetch, too
pub unbegun : {N I S A C P X : Type 0} (parties : Parties N I A S C P X) (call : FetchCall) (world : World N I S C) (progress : P)
    → CarriesFetch parties call world (Err Memory) world progress
unbegun parties call world progress = record { fetched = inl (unprepared (no_room refl) refl) }

-- a ref map with equal arguments is the session's ref map
pub as_obtained : (table table' : TableValue) (agent name : FeatureValue) (context : Context) (h : Handshake) (plain : Bool)
    (old new : Reading) (r r' : Result RefMap MapError) → table ≡ table' → agent ≡ name → r ≡ r'
    → Obtains table agent context h plain old new r → Obtains table' name context h plain old new r'
as_obtained table table' agent name context h plain old new r r' t a e o =
    subst (λ (x : TableValue). Obtains x name context h plain old new r') t
    (subst (λ (x : FeatureValue). Obtains table x context h plain old new r') a
    (subst (λ (x : Result RefMap MapError). Obtains table agent context h plain old new x) e o))

pub same_knowledge : (t u : Tags) (s r : Shallow) (o p e f : Objects) (l m : LocalRefs) → t ≡ u → s ≡ r → o ≡ p → e ≡ f → l ≡ m
    → (let k : Knowledge = record { tags = t; shallow = s; commits = o; existing = e; refs = l } in k)
    ≡ record { tags = u; shallow = r; commits = p; existing = f; refs = m }
same_knowledge t u s r o p e f l m a b c d g =
    ap (λ (x : Tags). record { tags = x; shallow = s; commits = o; existing = e; refs = l }) a
    ∙ ap (λ (x : Shallow). record { tags = u; shallow = x; commits = o; existing = e; refs = l }) b
    ∙ ap (λ (x : Objects). record { tags = u; shallow = r; commits = x; existing = e; refs = l }) c
    ∙ ap (λ (x : Objects). record { tags = u; shallow = r; commits = p; existing = x; refs = l }) d
    ∙ ap (λ (x : LocalRefs). record { tags = u; shallow = r; commits = p; existing = f; refs = x }) g

-- equal tests of the boundary find the same unknown id in an update
unknown_alike : (f g : ObjectId → Bool) → ((id : ObjectId) → f id ≡ g id) → (update : ShallowUpdate)
    → unknown_id f update ≡ unknown_id g update
unknown_alike f g same (ShallowId id) = refl
unknown_alike f g same (Unshallow id) = ap (λ (x : Bool). let o : Option ObjectId = if x then None else Some id in o) (same id)

unshallow_alike : (f g : ObjectId → Bool) → ((id : ObjectId) → f id ≡ g id) → (updates : List ShallowUpdate)
    → unknown_unshallow f updates ≡ unknown_unshallow g updates
unshallow_alike f g same [] = refl
unshallow_alike f g same (update ∷ updates) =
    ap (λ (x : Option ObjectId). option_map_or Some x (unknown_unshallow f updates)) (unknown_alike f g same update)
    ∙ ap (λ (x : Option ObjectId). option_map_or Some (unknown_id g update) x) (unshallow_alike f g same updates)

alone_alike : (f g : ObjectId → Bool) → ((id : ObjectId) → f id ≡ g id) → (owned : Result (Option Outcome) Error)
    → (unknown : Option ObjectId) → known_alone f owned unknown ≡ known_alone g owned unknown
alone_alike f g same (Err e) unknown = refl
alone_alike f g same (Ok o) (Some id) = refl
alone_alike f g same (Ok None) None = refl
alone_alike f g same (Ok (Some outcome)) None =
    ap (unless_taken outcome) (unshallow_alike f g same outcome.last_response.shallow_updates)

-- equal tests of the boundary lead to the same result of a fetch
tells_alike : {N A X : Type 0} (converts : X → Error → Type 0) (f g : ObjectId → Bool) (first last : UnshallowCheck N)
    (received : Result (Option Outcome) (FetchError A X)) (report report' : Result (Option Outcome) Error)
    → ((id : ObjectId) → f id ≡ g id) → report ≡ report'
    → ReportsKnown converts f first last received report → ReportsKnown converts g first last received report'
tells_alike converts f g first last received report report' same e t = record {
  watches = λ id. t.watches id ∙ same id;
  unnoted = t.unnoted;
  owned = t.owned;
  owns = t.owns;
  reports = sym e ∙ t.reports ∙ alone_alike f g same t.owned last.unknown;
}

-- a fetch that starts from this boundary, and its result
pub in_session : {N I A C P X : Type 0} (parties : Parties (CheckedNegotiation N) I A ShallowMemory C P X)
    (converts : X → Error → Type 0) (map_of : CheckedNegotiation N → RefMap) (knows : CheckedNegotiation N → Knowledge)
    (shaken : Handshake) (request : Request) (made : RefMap) (known known' : Knowledge)
    (is_in : ObjectId → Bool) (boundary boundary' : List ObjectId) (old : Reading) (consumer : C)
    (report report' : Result (Option Outcome) Error) (new new' : Reading) (consumer' : C) (store store' : ShallowMemory)
    (agent agent' : FeatureValue) (more more' : List FeatureValue) → known ≡ known' → store.ids.items ≡ boundary → store.locked ≡ false → store'.ids.items ≡ boundary'
    → agent ≡ agent' → more ≡ more' → report ≡ report' → new ≡ new'
    → ((id : ObjectId) → is_in id ≡ has_id boundary id)
    → FetchesMap parties converts map_of knows (session_call shaken agent more request) made known is_in old store consumer report new store' consumer'
    → FetchesInSession parties converts map_of knows (session_call shaken agent' more' request) made known' boundary boundary' old
    consumer report' new' consumer'
in_session parties converts map_of knows shaken request made known known' is_in boundary boundary' old consumer report report' new new' consumer' store store'
    agent agent' more more' knowing before unlocked after named message_text reports position same f = record {
      store = store;
      store' = store';
      before = before;
      unlocked = unlocked;
      after = after;
      fetches = record {
        first = f.first;
        last = f.last;
        negotiates = f.negotiates;
        knowing = f.knowing ∙ knowing;
        limited = f.limited;
        filtered = f.filtered;
        received = f.received;
        reports = tells_alike converts is_in (has_id boundary) f.first f.last f.received report report' same reports f.reports;
        holds =
            subst (λ (x : Reading). HoldsFetch parties (session_call shaken agent' more' request).fetch f.first old store consumer f.received f.last x
            store' consumer') position (subst (λ (x : List FeatureValue). HoldsFetch parties (session_call shaken agent' x request).fetch f.first
            old store consumer f.received f.last new store' consumer') message_text
            (subst (λ (x : FeatureValue). HoldsFetch parties (session_call shaken x more request).fetch f.first old store
            consumer f.received f.last new store' consumer') named f.holds));
        unsent = λ h. let u = f.unsent h in (sym position ∙ u.0, u.1);
      };
    }

-- the same for a failed fetch, and the state after it
pub refused_in_session : {N I A C P X : Type 0} (parties : Parties (CheckedNegotiation N) I A ShallowMemory C P X)
    (converts : X → Error → Type 0) (map_of : CheckedNegotiation N → RefMap) (knows : CheckedNegotiation N → Knowledge)
    (shaken : Handshake) (request : Request) (made : RefMap) (known known' : Knowledge)
    (is_in : ObjectId → Bool) (boundary boundary' : List ObjectId) (old : Reading) (consumer : C)
    (report : Result (Option Outcome) Error) (new new' : Reading) (consumer' : C) (store store' : ShallowMemory)
    (agent agent' : FeatureValue) (more more' : List FeatureValue) (version : Protocol)
    (e : Error) (state : State) (held kept : Handshake) → known ≡ known' → store.ids.items ≡ boundary → store.locked ≡ false → store'.ids.items ≡ boundary'
    → agent ≡ agent' → more ≡ more' → new ≡ new'
    → ((id : ObjectId) → is_in id ≡ has_id boundary id)
    → (f : FetchesMap parties converts map_of knows (session_call shaken agent more request) made known is_in old store consumer report new store'
    consumer') → IsRefusedFetch f.last.negotiated version report e state → (f.last.negotiated ≡ false → kept ≡ held)
    → (s : FetchesInSession parties converts map_of knows (session_call shaken agent' more' request) made known' boundary boundary' old
    consumer report new' consumer') × IsRefusedFetch s.fetches.last.negotiated version report e state
    × (s.fetches.last.negotiated ≡ false → kept ≡ held)
unfolding in_session
refused_in_session parties converts map_of knows shaken request made known known' is_in boundary boundary' old consumer report new new' consumer' store
    store' agent agent' more more' version e state held kept knowing before unlocked after named message_text position same f h k = (
      in_session parties converts map_of knows shaken request made known known' is_in boundary boundary' old consumer report report new new' consumer'
          store store' agent agent' more more' knowing before unlocked after named message_text refl position same f,
      h,
      k,
    )

-- a copy of the shallow updates of the handshake leads to the same call
pub same_call : (shaken : Handshake) (report : Option (Vec ShallowUpdate Global)) (agent : FeatureValue) (more : List FeatureValue)
    (request : Request) → update_items report ≡ update_items shaken.v1_shallow_updates
    → session_call (record shaken { v1_shallow_updates = report }) agent more request ≡ session_call shaken agent more request
same_call shaken report agent more request e =
    ap (λ (x : List ShallowUpdate). let call = session_call shaken agent more request in
    record call { fetch = record call.fetch { fetch_options = record call.fetch.fetch_options { reported = x } } }) e

-- a fetch with the same call, and the state after it
pub carried_by : {N I S A C P X : Type 0} (parties : Parties (CheckedNegotiation N) I A S C P X) (converts : X → Error → Type 0)
    (map_of : CheckedNegotiation N → RefMap) (knows : CheckedNegotiation N → Knowledge) (made : RefMap) (known : Knowledge) (is_in : ObjectId → Bool) (old : Reading) (store : S)
    (consumer : C) (report : Result (Option Outcome) Error) (new : Reading) (store' : S) (consumer' : C) (call call' : SessionCall)
    (is_negotiated : Bool) (version : Protocol) (state : State) (shaken kept : Handshake) → call ≡ call'
    → ((f : FetchesMap parties converts map_of knows call made known is_in old store consumer report new store' consumer')
    × (f.last.negotiated ≡ is_negotiated)) → state ≡ state_after_fetch is_negotiated version report
    → (is_negotiated ≡ false → kept ≡ shaken)
    → (f : FetchesMap parties converts map_of knows call' made known is_in old store consumer report new store' consumer')
    × (state ≡ state_after_fetch f.last.negotiated version report) × (f.last.negotiated ≡ false → kept ≡ shaken)
carried_by parties converts map_of knows made known is_in old store consumer report new store' consumer' call call' is_negotiated version state
    shaken kept e f s k =
    subst (λ (x : SessionCall). (f : FetchesMap parties converts map_of knows x made known is_in old store consumer report new store' consumer')
    × (state ≡ state_after_fetch f.last.negotiated version report) × (f.last.negotiated ≡ false → kept ≡ shaken)) e
    (f.0, s ∙ ap (λ (b : Bool). state_after_fetch b version report) (sym f.1), λ h. k (sym f.1 ∙ h))

-- without a negotiated round the handshake is unchanged
pub kept_whole : (shaken now : Handshake) (report first left : Option (Vec ShallowUpdate Global)) (is_negotiated : Bool)
    → now ≡ record shaken { v1_shallow_updates = report } → first ≡ shaken.v1_shallow_updates
    → left ≡ (if is_negotiated then None else first) → is_negotiated ≡ false → record now { v1_shallow_updates = left } ≡ shaken
kept_whole shaken now report first left is_negotiated n f l e =
    ap (λ (x : Handshake). record x { v1_shallow_updates = left }) n
    ∙ ap (λ (x : Option (Vec ShallowUpdate Global)). record shaken { v1_shallow_updates = x })
    (l ∙ ap (λ (b : Bool). let o : Option (Vec ShallowUpdate Global) = if b then None else first in o) e ∙ f)
