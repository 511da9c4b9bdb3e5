-- The list of refs that a session asks for and keeps (gitprotocol-v2, "ls-refs").
use Rattle.std.specs.Prelude.{◌≡◌, ◌⊎◌, Bool, true, false, Some, Vec, Result, Ok, Err}
use Rattle.std.specs.declared.alloc.Global.{Global}
use Rattle.gixp_packetline.specs.Reading.{Reading}
use Rattle.gixp_progress.specs.Progress.{ProgressCall, ReportedCalls}
use Rattle.gixp_refs.specs.declared.handshake.Ref.{Ref}
use Rattle.gixp_response.specs.Sections.{is_flush}
use Rattle.gixp_refmap.specs.ListingProgress.{listing_calls, ReportsListedMap}
use Rattle.gixp_refmap.specs.declared.ls_refs.error.Error.{Error as ListError}
use Rattle.gixp_refmap.specs.declared.refmap.init.Error.{Error as MapError}
use Rattle.gixp_refmap.specs.declared.refmap.map.RefMap.{RefMap}
use Rattle.gixp_client.specs.ClientCalls.{ListsInSession, MapsInSession, needs_no_list}
use Rattle.gixp_client.specs.ClientNames.{named_by}
use Rattle.gixp_client.specs.ListEnds.{IsUnasked, are_whole, is_lossy, whole_map, whole_refs}
use Rattle.gixp_client.specs.SessionStates.{state_after_map, state_after_refusal}
use Rattle.gixp_client.specs.declared.error.Error.{Error}
use Rattle.gixp_client.specs.declared.request.Request.{Request}
use Rattle.gixp_client.specs.declared.session.Session.{Session}

module _ {T L P S : Type 0} (plain : Bool) (reading : T → Reading) where
  -- the session asked for all refs, with this result
  abbrev pub AsksForRefs : (old new : Session T L P S) → Result (Vec Ref Global) ListError → Type 0
  AsksForRefs old new listed =
      ListsInSession (named_by old.name) old.shaken plain (reading old.transport.inner) (reading new.transport.inner) listed

  -- the session keeps all refs that the server listed
  abbrev pub KeepsListedRefs : (old new : Session T L P S) → Type 0
  KeepsListedRefs old new =
      (refs : Vec Ref Global) × AsksForRefs old new (Ok refs) × (new.shaken ≡ record old.shaken { refs = Some refs })

  -- there are no refs: nothing was sent, or they couldn't be read up to a flush packet, or the list lost white space of a name
  abbrev pub ListFailsInSession : (old new : Session T L P S) → Error → Type 0
  ListFailsInSession old new e = ((new ≡ old) × IsUnasked old.state old.shaken.capabilities e)
      ⊎ ((listed : Result (Vec Ref Global) ListError) × AsksForRefs old new listed
      × (whole_refs listed (is_flush (reading new.transport.inner).stopped) new.transport.observer.lost_white_space ≡ Err e)
      × (new.state ≡ state_after_refusal old.shaken.server_protocol_version e) × (new.shaken ≡ old.shaken))

  -- there is no ref map: nothing was sent, or the map couldn't be made of refs up to a flush packet without a lost name
  abbrev pub MapFailsInSession : Request → (old new : Session T L P S) → Error → Type 0
  MapFailsInSession request old new e = ((new ≡ old) × IsUnasked old.state old.shaken.capabilities e)
      ⊎ ((made : Result RefMap MapError) × MapsInSession request (named_by old.name) old.shaken plain (reading old.transport.inner)
      (reading new.transport.inner) made
      × (whole_map made (are_whole (needs_no_list request old.shaken) (reading new.transport.inner).stopped)
      (is_lossy (needs_no_list request old.shaken) new.transport.observer.lost_white_space) ≡ Err e)
      × (new.state ≡ state_after_map (needs_no_list request old.shaken) old.shaken.server_protocol_version e))

module _ {P : Type 0} (reported : P → ProgressCall → P → Type 0) where
  -- the calls of the progress reporter for the command `ls-refs`; a list that failed before its command was sent makes none
  abbrev pub ReportsAsked : P → Result (Unit {0}) Error → P → Type 0
  ReportsAsked old (Ok u) new = ReportedCalls reported old listing_calls new
  ReportsAsked old (Err e) new = (new ≡ old) ⊎ ReportedCalls reported old listing_calls new

  -- the calls for a ref map: none if no list of refs is needed
  abbrev pub ReportsMap : (needs_no_list : Bool) → P → Result RefMap MapError → P → Type 0
  ReportsMap true old r new = new ≡ old
  ReportsMap false old r new = ReportsListedMap reported old r new
