-- The server's message in an error of a listing or of a ref map.
use Rattle.std.specs.Prelude.{ℕ, List, Option, None}
use Rattle.gixp_capabilities.specs.ClientMessage.{client_message}
use Rattle.gixp_refs.specs.RefsMessage.{refs_message}
use Rattle.gixp_refmap.specs.declared.ls_refs.error.Error.{Error as ListingError}
use Rattle.gixp_refmap.specs.declared.ls_refs.error.Error.TheVariants.{Transport, Parse}
use Rattle.gixp_refmap.specs.declared.refmap.init.Error.{Error as RefMapError}
use Rattle.gixp_refmap.specs.declared.refmap.init.Error.TheVariants.{ListRefs}

-- the message in the error of the request or of the response
abbrev pub list_message : ListingError → Option (List ℕ)
list_message (Transport e) = client_message e
list_message (Parse e) = refs_message e
list_message _ = None

-- the message in the error of the listing
abbrev pub map_message : RefMapError → Option (List ℕ)
map_message (ListRefs e) = list_message e
map_message _ = None
