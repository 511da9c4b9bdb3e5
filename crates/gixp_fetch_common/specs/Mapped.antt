-- The ref map of a session: for many refspecs it is made of all refs, and no prefix is sent.
use Rattle.std.specs.Prelude.{◌≡◌, ◌⊎◌, ◌&&◌, ℕ, Bool, true, false, nat_lt, List, Some, is_none, Vec, Result, Ok}
use Rattle.std.specs.declared.alloc.Global.{Global}
use Rattle.gix_protocol.specs.Capabilities.{CapabilityValue}
use Rattle.gix_protocol.specs.ClientCalls.{ListsInSession, MapsInSession}
use Rattle.gix_protocol.specs.ClientError.{of_list, of_init}
use Rattle.gix_protocol.specs.Feature.{FeatureValue}
use Rattle.gix_protocol.specs.HandshakeType.{Handshake}
use Rattle.gix_protocol.specs.ListEnds.{IsUnasked}
use Rattle.gix_protocol.specs.ListErrorType.{Error as ListError}
use Rattle.gix_protocol.specs.MapErrorType.{Error as MapError}
use Rattle.gix_protocol.specs.Reading.{Reading}
use Rattle.gix_protocol.specs.RefMapType.{RefMap}
use Rattle.gix_protocol.specs.RefType.{Ref}
use Rattle.gix_protocol.specs.RequestType.{Request}
use Rattle.gix_protocol.specs.SessionErrorType.{Error}
use Rattle.gix_protocol.specs.SessionErrorType.TheVariants.{UnterminatedRefs, UnsupportedRefName}
use Rattle.gix_protocol.specs.SessionStateType.{State}

-- whether all refs are listed for so many refspecs: where there are more than this, and the refs aren't here
abbrev pub lists_all : (most count : ℕ) → Handshake → Bool
lists_all most count shaken = nat_lt most count && is_none shaken.refs

-- they are listed, and kept beside the handshake, or nothing is done
abbrev pub ListsIf : Bool → FeatureValue → Handshake → Bool → Reading → Reading → Handshake → Type 0
ListsIf true agent shaken plain old new kept =
    (refs : Vec Ref Global) × ListsInSession agent shaken plain old new (Ok refs) × (kept ≡ record shaken { refs = Some refs })
ListsIf false agent shaken plain old new kept = (new ≡ old) × (kept ≡ shaken)

-- the ref map of a request, after that
pub record MapsListed (lists : Bool) (request : Request) (agent : FeatureValue) (shaken : Handshake) (plain : Bool) (old new : Reading)
    (r : Result RefMap MapError) : Type 0 where
  pub kept : Handshake
  pub middle : Reading
  pub listed : ListsIf lists agent shaken plain old middle kept
  pub maps : MapsInSession request agent kept plain middle new r

-- why a server that can do this doesn't list its refs: it isn't asked, the list isn't ended, a name isn't supported, or the list
-- can't be read
abbrev pub IsUnlisted : State → List CapabilityValue → Error → Type 0
IsUnlisted state caps e =
    IsUnasked state caps e ⊎ (e ≡ UnterminatedRefs) ⊎ (e ≡ UnsupportedRefName) ⊎ ((x : ListError) × (e ≡ of_list x))

-- why there is no ref map
abbrev pub IsUnmapped : State → List CapabilityValue → Error → Type 0
IsUnmapped state caps e =
    IsUnasked state caps e ⊎ (e ≡ UnterminatedRefs) ⊎ (e ≡ UnsupportedRefName) ⊎ ((x : MapError) × (e ≡ of_init x))
