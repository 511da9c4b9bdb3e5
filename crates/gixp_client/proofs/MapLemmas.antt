-- The refs that a session lists, and those from which it makes a ref map.
use Rattle.std.proofs.Common.{rules, ◌≡◌, ◌≢◌, ◌⊎◌, Bool, true, false, List, [], Option, Some, None, Result, Ok, Err, subst, sym, ap, ◌∙◌, inl, inr}
use Rattle.std.specs.Prelude.{Vec, unwrap_or, ◌||◌, is_some, not}
use Rattle.std.specs.declared.alloc.Global.{Global}
use Rattle.gixp_packetline.specs.Reading.{Reading}
use Rattle.gixp_capabilities.specs.Capabilities.{CapabilityValue}
use Rattle.gixp_refs.specs.declared.handshake.Ref.{Ref}
use Rattle.gixp_requests.specs.Feature.{FeatureValue}
use Rattle.gixp_requests.specs.Command.{TableValue, git_table}
use Rattle.gixp_packetline.specs.declared.protocol.MessageKind.{MessageKind}
use Rattle.gixp_packetline.specs.declared.protocol.Protocol.{Protocol}
use Rattle.gixp_refmap.specs.Listing.{Listing, listing, Lists}
use Rattle.gixp_progress.specs.Progress.{ProgressCall, ReportedCalls}
use Rattle.gixp_refmap.specs.ListingProgress.{listing_calls, ReportsListing, ReportsListedMap}
use Rattle.gixp_refmap.specs.declared.ls_refs.error.Error.{Error as ListError}
use Rattle.gixp_refmap.specs.declared.ls_refs.error.Error.TheVariants as list
use Rattle.gixp_refmap.specs.declared.refmap.init.Context.{Context}
use Rattle.gixp_refmap.specs.declared.refmap.init.Error.{Error as MapError}
use Rattle.gixp_refmap.specs.declared.refmap.init.Error.TheVariants.{Memory}
use Rattle.gixp_refmap.specs.declared.refmap.map.RefMap.{RefMap}
use Rattle.gixp_handshake.specs.declared.handshake.read.Handshake.{Handshake}
use Rattle.gixp_handshake.specs.declared.handshake.ref_map.ObtainRefMap.{ObtainRefMap}
use Rattle.gixp_handshake.specs.declared.handshake.ref_map.ObtainRefMap.TheVariants.{Existing, LsRefsCommand}
use Rattle.gixp_handshake.specs.Obtain.{MakesMap, PreparesBy, ObtainsBy, FetchesList}
use Rattle.gixp_client.specs.Tables.{asked_table}
use Rattle.gixp_client.specs.ClientCalls.{asked_specs, ListsInSession, GivesRefs, MapsInSession}
use Rattle.gixp_client.specs.IdSpecs.{are_ids, SeesRefs}
use Rattle.gixp_client.specs.SessionRefs.{ReportsMap}
use Rattle.gixp_handshake.specs.ObtainProgress.{ReportsObtained}
use Rattle.gixp_client.specs.ListEnds.{whole_refs, are_whole, is_lossy, whole_map}
use Rattle.gixp_client.specs.SessionStates.{state_after_map}
use Rattle.gixp_client.specs.declared.error.Error.{Error}
use Rattle.gixp_client.specs.declared.state.State.{State}
use Rattle.gixp_client.specs.ClientMaps.{MapsRefsHere, ListsForMap, listing_for}
use Rattle.gixp_client.specs.declared.request.Request.{Request}

pub state_after_map_same : (b b' : Bool) (version : Protocol) (e e' : Error) (s : State) → s ≡ state_after_map b version e → b ≡ b' → e ≡ e'
    → s ≡ state_after_map b' version e'
state_after_map_same b b' version e e' s h k l = h ∙ (ap (λ (x : Bool). state_after_map x version e) k ∙ ap (state_after_map b' version) l)

-- listing without prefixes, with git's table and this agent
pub as_lists : (table : TableValue) (agent name : FeatureValue) (caps : List CapabilityValue) (l : Listing) (plain : Bool)
    (old new : Reading) (r r' : Result (Vec Ref Global) ListError) → table ≡ git_table → agent ≡ name
    → l ≡ listing table None caps agent → r ≡ r' → Lists l plain old new r
    → Lists (listing git_table None caps name) plain old new r'
as_lists table agent name caps l plain old new r r' t a e f h =
    subst (λ (x : FeatureValue). Lists (listing git_table None caps x) plain old new r') a
    (subst (λ (x : TableValue). Lists (listing x None caps agent) plain old new r') t
    (subst (λ (x : Listing). Lists x plain old new r') e
    (subst (λ (x : Result (Vec Ref Global) ListError). Lists l plain old new x) f h)))

-- the error of a list depends only on where the list ends, and on its names
pub refused_by : (listed : Result (Vec Ref Global) ListError) (b b' lost : Bool) (e : Error) → Err e ≡ whole_refs listed b lost → b ≡ b'
    → whole_refs listed b' lost ≡ Err e
refused_by listed b b' lost e h k = ap (λ (x : Bool). whole_refs listed x lost) (sym k) ∙ sym h

-- the error of a ref map depends only on whether its refs are complete, and on their names
pub unmapped_by : (made : Result RefMap MapError) (b lossy : Bool) (here here' : Bool) (stopped : Option MessageKind) (lost : Bool) (e : Error)
    → Err e ≡ whole_map made b lossy → b ≡ are_whole here stopped → lossy ≡ is_lossy here lost → here ≡ here'
    → whole_map made (are_whole here' stopped) (is_lossy here' lost) ≡ Err e
unmapped_by made b lossy here here' stopped lost e h k m l =
    ap (λ (x : Bool). whole_map made (are_whole x stopped) (is_lossy x lost)) (sym l)
    ∙ (ap (whole_map made (are_whole here stopped)) (sym m) ∙ (ap (λ (x : Bool). whole_map made x lossy) (sym k) ∙ sym h))

pub whole_by : (b : Bool) (here here' : Bool) (stopped : Option MessageKind) → b ≡ true → b ≡ are_whole here stopped → here ≡ here'
    → are_whole here' stopped ≡ true
whole_by b here here' stopped h k l = ap (λ (x : Bool). are_whole x stopped) (sym l) ∙ (sym k ∙ h)

pub named_by_list : (lossy : Bool) (here here' lost : Bool) → lossy ≡ false → lossy ≡ is_lossy here lost → here ≡ here'
    → is_lossy here' lost ≡ false
named_by_list lossy here here' lost h k l = ap (λ (x : Bool). is_lossy x lost) (sym l) ∙ (sym k ∙ h)

-- if the session has refs, the ref map is made from them
pub made_of_refs : (table : TableValue) (agent : FeatureValue) (context : Context) (caps : List CapabilityValue) (refs : Vec Ref Global)
    (plain : Bool) (old new : Reading) (r : Result RefMap MapError) (prepared : Result ObtainRefMap MapError)
    → PreparesBy (Some refs) table true agent context caps prepared → ObtainsBy prepared plain old new r
    → (new ≡ old) × MakesMap caps context refs.items r
made_of_refs table agent context caps refs plain old new r (Ok (Existing m)) p o =
    (o.0, subst (λ (x : Result RefMap MapError). MakesMap caps context refs.items x) (sym o.1) p)
made_of_refs table agent context caps refs plain old new r (Ok (LsRefsCommand command handed)) p o = absurd p
made_of_refs table agent context caps refs plain old new r (Err e) p o =
    (o.0, subst (λ (x : Result RefMap MapError). MakesMap caps context refs.items x) (sym o.1) p)

-- if the session has none, the server lists them
pub made_of_none : (table : TableValue) (agent : FeatureValue) (context : Context) (shaken : Handshake) (plain : Bool)
    (old new : Reading) (r : Result RefMap MapError) (prepared : Result ObtainRefMap MapError)
    → PreparesBy None table true agent context shaken.capabilities prepared → ObtainsBy prepared plain old new r
    → ((new ≡ old) × (r ≡ Err Memory)) ⊎ FetchesList (listing_for table agent shaken context) context plain old new r
made_of_none table agent context shaken plain old new r (Ok (Existing m)) p o = absurd p
made_of_none table agent context shaken plain old new r (Ok (LsRefsCommand command handed)) p o =
    inr (subst (λ (x : Context). FetchesList (listing_for table agent shaken context) x plain old new r) p.1
    (subst (λ (x : Listing). FetchesList x handed plain old new r) p.0 o))
made_of_none table agent context shaken plain old new r (Err e) p o = inl (o.0, o.1 ∙ ap Err p)

-- a session sees the refs that it has
sees_own : (by_id : Bool) (refs : Vec Ref Global) (seen : Option (Vec Ref Global)) → SeesRefs by_id (Some refs) seen → seen ≡ Some refs
sees_own by_id refs seen h = h

-- without refs it sees none if the refspecs aren't ids, and an empty list if they are
pub sees_none : (by_id : Bool) (here seen : Option (Vec Ref Global)) → by_id ≡ false → here ≡ None → SeesRefs by_id here seen
    → seen ≡ None
sees_none by_id here seen b e h =
    subst (λ (x : Bool). SeesRefs x None seen) b (subst (λ (x : Option (Vec Ref Global)). SeesRefs by_id x seen) e h)

sees_empty : (by_id : Bool) (here seen : Option (Vec Ref Global)) → by_id ≡ true → here ≡ None → SeesRefs by_id here seen
    → (none : Vec Ref Global) × (none.items ≡ []) × (seen ≡ Some none)
sees_empty by_id here seen b e h =
    subst (λ (x : Bool). SeesRefs x None seen) b (subst (λ (x : Option (Vec Ref Global)). SeesRefs by_id x seen) e h)

-- what a session sees is as its refs, if the refspecs aren't ids or it has refs
pub sees_same : (by_id : Bool) (here seen : Option (Vec Ref Global)) → (is_some here || not by_id) ≡ true → SeesRefs by_id here seen
    → seen ≡ here
sees_same by_id (Some refs) seen e h = h
sees_same true None seen e h = search (rules, e)
sees_same false None seen e h = h

-- whether a session sees refs
pub sees_some : (by_id by_id' : Bool) (here seen : Option (Vec Ref Global)) (is_here : Bool) → SeesRefs by_id here seen
    → is_here ≡ is_some seen → by_id ≡ by_id' → is_here ≡ (is_some here || by_id')
sees_some by_id by_id' (Some refs) seen is_here h e b = e ∙ ap (λ (x : Option (Vec Ref Global)). is_some x) h
sees_some true by_id' None seen is_here h e b = e ∙ (ap (λ (x : Option (Vec Ref Global)). is_some x) h.2 ∙ b)
sees_some false by_id' None seen is_here h e b = e ∙ (ap (λ (x : Option (Vec Ref Global)). is_some x) h ∙ b)

-- the calls of the progress reporter for a ref map, by whether a session sees refs
pub mapped_calls : {P : Type 0} (reported : P → ProgressCall → P → Type 0) (old new : P) (seen : Option (Vec Ref Global))
    (made : Result RefMap MapError) (is_here needs_no_list : Bool) (m : RefMap) → ReportsObtained reported seen old made new
    → is_here ≡ is_some seen → is_here ≡ needs_no_list → made ≡ Ok m → ReportsMap reported needs_no_list old (Ok m) new
mapped_calls reported old new (Some refs) made is_here needs_no_list m r e f k =
    subst (λ (x : Bool). ReportsMap reported x old (Ok m) new) (sym e ∙ f) r
mapped_calls reported old new None made is_here needs_no_list m r e f k =
    subst (λ (x : Bool). ReportsMap reported x old (Ok m) new) (sym e ∙ f)
    (subst (λ (x : Result RefMap MapError). ReportsListedMap reported old x new) k r)

pub maps_refs_here : (request : Request) (agent : FeatureValue) (shaken : Handshake) (refs : Vec Ref Global) (plain : Bool)
    (old new : Reading)
    (r : Result RefMap MapError) → shaken.refs ≡ Some refs → MapsInSession request agent shaken plain old new r
    → MapsRefsHere request shaken refs.items old new r
maps_refs_here request agent shaken refs plain old new r e m =
    let made = made_of_refs (asked_table request.wants_progress request.wants_thin_pack request.uri_protocols) agent m.context shaken.capabilities refs plain old new r m.obtains.prepared
    (subst (λ (x : Option (Vec Ref Global)). PreparesBy x (asked_table request.wants_progress request.wants_thin_pack request.uri_protocols) true agent m.context shaken.capabilities
    m.obtains.prepared) (sees_own (are_ids (asked_specs request)) refs m.seen
    (subst (λ (x : Option (Vec Ref Global)). SeesRefs (are_ids (asked_specs request)) x m.seen) e m.sees)) m.obtains.prepares)
    m.obtains.obtains in
    record { context = m.context; asked = m.asked; unsent = made.0; maps = made.1 }

pub lists_for_map : (request : Request) (agent : FeatureValue) (shaken : Handshake) (plain : Bool) (old new : Reading)
    (r : Result RefMap MapError) → shaken.refs ≡ None → are_ids (asked_specs request) ≡ false
    → MapsInSession request agent shaken plain old new r → ListsForMap request agent shaken plain old new r
lists_for_map request agent shaken plain old new r e names m = record {
  context = m.context;
  asked = m.asked;
  lists = made_of_none (asked_table request.wants_progress request.wants_thin_pack request.uri_protocols) agent m.context shaken plain old new r m.obtains.prepared
      (subst (λ (x : Option (Vec Ref Global)). PreparesBy x (asked_table request.wants_progress request.wants_thin_pack request.uri_protocols) true agent m.context shaken.capabilities
      m.obtains.prepared) (sees_none (are_ids (asked_specs request)) shaken.refs m.seen names e m.sees) m.obtains.prepares)
      m.obtains.obtains;
}

-- for ids the ref map is made from no refs, and nothing is sent
pub maps_ids : (request : Request) (agent : FeatureValue) (shaken : Handshake) (plain : Bool) (old new : Reading)
    (r : Result RefMap MapError) → shaken.refs ≡ None → are_ids (asked_specs request) ≡ true
    → MapsInSession request agent shaken plain old new r → MapsRefsHere request shaken [] old new r
maps_ids request agent shaken plain old new r e ids m =
    let empty = sees_empty (are_ids (asked_specs request)) shaken.refs m.seen ids e m.sees in
    let made = made_of_refs (asked_table request.wants_progress request.wants_thin_pack request.uri_protocols) agent m.context shaken.capabilities empty.0 plain
    old new r m.obtains.prepared
    (subst (λ (x : Option (Vec Ref Global)). PreparesBy x (asked_table request.wants_progress request.wants_thin_pack request.uri_protocols) true agent m.context
    shaken.capabilities m.obtains.prepared) empty.2 m.obtains.prepares) m.obtains.obtains in
    record {
      context = m.context;
      asked = m.asked;
      unsent = made.0;
      maps = subst (λ (x : List Ref). MakesMap shaken.capabilities m.context x r) empty.1 made.1;
    }

-- the refs that `Session::refs` returns, by whether the session had refs
pub gives_by : (agent : FeatureValue) (shaken : Handshake) (plain : Bool) (old new : Reading) (kept : Handshake) (found : Vec Ref Global)
    (refs : List Ref) (here : Option (Vec Ref Global)) → shaken.refs ≡ here
    → ((v : Vec Ref Global) → shaken.refs ≡ Some v → kept ≡ shaken)
    → (shaken.refs ≡ None → (v : Vec Ref Global) × ListsInSession agent shaken plain old new (Ok v)
    × (kept ≡ record shaken { refs = Some v }))
    → kept.refs ≡ Some found → refs ≡ found.items → GivesRefs agent shaken plain old here refs
gives_by agent shaken plain old new kept found refs (Some v) e stays lists is lent =
    lent ∙ ap (λ (x : Option (Vec Ref Global)). (unwrap_or x found).items) (sym is ∙ (ap (λ (h : Handshake). h.refs) (stays v e) ∙ e))
gives_by agent shaken plain old new kept found refs None e stays lists is lent = let l = lists e in (
  l.0,
  new,
  l.1,
  lent ∙ ap (λ (x : Option (Vec Ref Global)). (unwrap_or x found).items) (sym is ∙ ap (λ (h : Handshake). h.refs) l.2),
)

pub some_is_not_none : {A : Type 0} (o : Option A) (v : A) → o ≡ Some v → o ≢ None
some_is_not_none None v e h = search (rules, e)
some_is_not_none (Some w) v e h = search (rules, h)

-- the calls of the progress reporter for a list that was read or failed
pub asked_calls : {P : Type 0} (reported : P → ProgressCall → P → Type 0) (old new : P) (listed : Result (Vec Ref Global) ListError)
    → ReportsListing reported old listed new → (new ≡ old) ⊎ ReportedCalls reported old listing_calls new
asked_calls reported old new (Ok refs) r = inr r
asked_calls reported old new (Err (list.Io kind)) r = inr r
asked_calls reported old new (Err (list.Transport e)) r = inr r
asked_calls reported old new (Err (list.Parse e)) r = inr r
asked_calls reported old new (Err (list.ArgumentValidation e)) r = inl r
asked_calls reported old new (Err list.Memory) r = r
