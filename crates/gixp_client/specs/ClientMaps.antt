-- The refs from which a session makes a ref map (gitprotocol-v2, "ls-refs").
use Rattle.std.specs.Prelude.{◌≡◌, ◌⊎◌, Bool, true, List, Result, Err}
use Rattle.gixp_packetline.specs.Reading.{Reading}
use Rattle.gixp_refs.specs.declared.handshake.Ref.{Ref}
use Rattle.gixp_requests.specs.Feature.{FeatureValue}
use Rattle.gixp_requests.specs.Command.{TableValue}
use Rattle.gixp_refmap.specs.Listing.{Listing, listing}
use Rattle.gixp_refmap.specs.Mapping.{joined_specs}
use Rattle.gixp_refmap.specs.Values.{context_value}
use Rattle.gixp_refmap.specs.declared.refmap.init.Context.{Context}
use Rattle.gixp_refmap.specs.declared.refmap.init.Error.{Error as MapError}
use Rattle.gixp_refmap.specs.declared.refmap.init.Error.TheVariants.{Memory}
use Rattle.gixp_refmap.specs.declared.refmap.map.RefMap.{RefMap}
use Rattle.gixp_handshake.specs.declared.handshake.read.Handshake.{Handshake}
use Rattle.gixp_handshake.specs.Obtain.{prefixes_if, MakesMap, FetchesList}
use Rattle.gixp_client.specs.ClientCalls.{asked_specs}
use Rattle.gixp_client.specs.Tables.{asked_table}
use Rattle.gixp_client.specs.declared.request.Request.{Request}

-- the ref map is made from the refs that the session has, and nothing was sent
pub record MapsRefsHere (request : Request) (shaken : Handshake) (refs : List Ref) (old new : Reading)
    (r : Result RefMap MapError) : Type 0 where
  pub context : Context
  pub asked : context_value context ≡ asked_specs request
  pub unsent : new ≡ old
  pub maps : MakesMap shaken.capabilities context refs r

-- the command `ls-refs` with the prefixes of the refspecs
abbrev pub listing_for : TableValue → FeatureValue → Handshake → Context → Listing
listing_for table agent shaken context =
    listing table (prefixes_if true (joined_specs context.fetch_refspecs.items context.extra_refspecs.items)) shaken.capabilities agent

-- the ref map is made from the refs that the server lists for the prefixes of these refspecs; or an allocation failed first, and
-- nothing was sent
pub record ListsForMap (request : Request) (agent : FeatureValue) (shaken : Handshake) (plain : Bool) (old new : Reading)
    (r : Result RefMap MapError) : Type 0 where
  pub context : Context
  pub asked : context_value context ≡ asked_specs request
  pub lists : ((new ≡ old) × (r ≡ Err Memory)) ⊎ FetchesList
      (listing_for (asked_table request.wants_progress request.wants_thin_pack request.uri_protocols) agent shaken context)
      context plain old new r
