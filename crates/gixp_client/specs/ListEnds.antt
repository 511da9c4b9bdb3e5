-- Which refs are listed, and where a list of refs ends (gitprotocol-v2, "ls-refs", "object-format").
use Rattle.std.specs.Prelude.{◌≡◌, ◌≢◌, ◌||◌, ◌&&◌, not, ⊤, Bool, true, false, List, Option, Some, Vec, Result, Ok, Err}
use Rattle.std.specs.declared.alloc.Global.{Global}
use Rattle.bstr.specs.Owned.{bstring_bytes}
use Rattle.gixp_packetline.specs.declared.protocol.MessageKind.{MessageKind}
use Rattle.gixp_capabilities.specs.Capabilities.{CapabilityValue}
use Rattle.gixp_refs.specs.declared.handshake.Ref.{Ref}
use Rattle.gixp_response.specs.Sections.{is_flush}
use Rattle.gixp_refmap.specs.Mapping.{unknown_format}
use Rattle.gixp_refmap.specs.declared.ls_refs.error.Error.{Error as ListError}
use Rattle.gixp_refmap.specs.declared.refmap.init.Error.{Error as MapError}
use Rattle.gixp_refmap.specs.declared.refmap.init.Error.TheVariants as init
use Rattle.gixp_refmap.specs.declared.refmap.map.RefMap.{RefMap}
use Rattle.gixp_client.specs.ClientError.{of_list, of_init}
use Rattle.gixp_client.specs.declared.error.Error.{Error}
use Rattle.gixp_client.specs.declared.error.Error.TheVariants.{UnknownObjectFormat, UnterminatedRefs, UnsupportedRefName, Over, Memory}
use Rattle.gixp_client.specs.declared.state.State.{State}
use Rattle.gixp_client.specs.declared.state.State.TheVariants.{AtStop}

-- the error of a call that sent no request for refs, in this state of the session: the session is over, the server's object format
-- isn't SHA-1, or an allocation failed
abbrev pub IsUnasked : State → List CapabilityValue → Error → Type 0
IsUnasked state caps Over = state ≢ AtStop
IsUnasked state caps (UnknownObjectFormat format) = unknown_format caps ≡ Some (bstring_bytes format)
IsUnasked state caps Memory = ⊤
IsUnasked state caps _ = ⊥

-- the refs of a list that ended with a flush packet and lost no part of a name; a delimiter packet doesn't end it
abbrev pub whole_refs : Result (Vec Ref Global) ListError → (is_ended is_lossy : Bool) → Result (Vec Ref Global) Error
whole_refs (Ok refs) true false = Ok refs
whole_refs (Ok refs) true true = Err UnsupportedRefName
whole_refs (Ok refs) false is_lossy = Err UnterminatedRefs
whole_refs (Err e) is_ended is_lossy = Err (of_list e)

-- the refs of a ref map are complete: the session had them, or their list ended with a flush packet
abbrev pub are_whole : (are_here : Bool) → Option MessageKind → Bool
are_whole are_here stopped = are_here || is_flush stopped

-- the list of refs for a ref map lost white space of a name; no list is read if the session had the refs
abbrev pub is_lossy : (are_here lost_white_space : Bool) → Bool
is_lossy are_here lost_white_space = not are_here && lost_white_space

-- the error of a ref map whose list didn't end with a flush packet: refs that were read are incomplete, whether they can be mapped
-- or not
abbrev pub of_unended : MapError → Error
of_unended (init.UnknownObjectFormat format) = UnterminatedRefs
of_unended (init.MappingValidation e) = UnterminatedRefs
of_unended (init.ListRefs e) = of_list e
of_unended init.Memory = Memory

-- the ref map, if its refs are complete and their list lost no part of a name
abbrev pub whole_map : Result RefMap MapError → (is_whole is_lossy : Bool) → Result RefMap Error
whole_map (Ok m) true false = Ok m
whole_map (Ok m) true true = Err UnsupportedRefName
whole_map (Ok m) false is_lossy = Err UnterminatedRefs
whole_map (Err e) true is_lossy = Err (of_init e)
whole_map (Err e) false is_lossy = Err (of_unended e)
