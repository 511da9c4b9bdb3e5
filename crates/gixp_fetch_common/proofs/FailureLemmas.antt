-- The errors of a list of refs, which are also errors of a ref map.
use Rattle.std.proofs.Common.{rules, ◌≡◌, ◌⊎◌, Bool, true, false, List, Result, Ok, Err, ap, inl, inr, subst}
use Rattle.std.specs.Prelude.{Vec}
use Rattle.std.specs.declared.alloc.Global.{Global}
use Rattle.gix_protocol.specs.Capabilities.{CapabilityValue}
use Rattle.gix_protocol.specs.ClientError.{of_list, of_init}
use Rattle.gix_protocol.specs.Feature.{FeatureValue}
use Rattle.gix_protocol.specs.HandshakeType.{Handshake}
use Rattle.gix_protocol.specs.ListEnds.{IsUnasked, whole_refs, whole_map}
use Rattle.gix_protocol.specs.ListErrorType.{Error as ListError}
use Rattle.gix_protocol.specs.MapErrorType.{Error as MapError}
use Rattle.gix_protocol.specs.MapErrorType.TheVariants.{UnknownObjectFormat, MappingValidation, ListRefs, Memory}
use Rattle.gix_protocol.specs.Reading.{Reading}
use Rattle.gix_protocol.specs.RefMapType.{RefMap}
use Rattle.gix_protocol.specs.RefType.{Ref}
use Rattle.gix_protocol.specs.SessionErrorType.{Error}
use Rattle.gix_protocol.specs.SessionErrorType.TheVariants.{UnterminatedRefs, UnsupportedRefName}
use Rattle.gix_protocol.specs.SessionStateType.{State}
use Rattle.gixp_fetch_common.specs.Mapped.{ListsIf, IsUnlisted, IsUnmapped}
use Rattle.gixp_fetch_common.specs.Unfetched.{FailsWithin}
use Rattle.gixp_fetch_common.specs.declared.failure.Failure.{Failure}
use Rattle.gixp_fetch_common.specs.declared.failure.Phase.{Phase}

by_list : (state : State) (caps : List CapabilityValue) (e : Error) → IsUnlisted state caps e → IsUnmapped state caps e
by_list state caps e h = elim h [
  | inl unasked ↦ inl unasked
  | inr h' ↦ elim h' [
    | inl unended ↦ inr (inl unended)
    | inr h'' ↦ elim h'' [ inl unnamed ↦ inr (inr (inl unnamed)) | inr x ↦ inr (inr (inr (ListRefs x.0, x.1))) ]
  ]
]

-- an error of the list is an error of the ref map
pub unmapped : (state : State) (caps : List CapabilityValue) (phase : Phase) (f : Failure) → FailsWithin phase (IsUnlisted state caps) f
    → FailsWithin phase (IsUnmapped state caps) f
unmapped state caps phase f h = record { error = h.error; holds = by_list state caps h.error h.holds; reported = h.reported }

-- a list that fails
pub unlisted_of : (listed : Result (Vec Ref Global) ListError) (is_ended lossy : Bool) (e : Error) → whole_refs listed is_ended lossy ≡ Err e
    → (e ≡ UnterminatedRefs) ⊎ (e ≡ UnsupportedRefName) ⊎ ((x : ListError) × (e ≡ of_list x))
unlisted_of (Ok refs) true false e h = search (rules, h)
unlisted_of (Ok refs) true true e h = inr (inl (search (rules, h)))
unlisted_of (Ok refs) false lossy e h = inl (search (rules, h))
unlisted_of (Err x) is_ended lossy e h = inr (inr (x, search (rules, h)))

-- a ref map that fails
pub unmapped_of : (made : Result RefMap MapError) (is_whole lossy : Bool) (e : Error) → whole_map made is_whole lossy ≡ Err e
    → (e ≡ UnterminatedRefs) ⊎ (e ≡ UnsupportedRefName) ⊎ ((x : MapError) × (e ≡ of_init x))
unmapped_of (Ok m) true false e h = search (rules, h)
unmapped_of (Ok m) true true e h = inr (inl (search (rules, h)))
unmapped_of (Ok m) false lossy e h = inl (search (rules, h))
unmapped_of (Err x) true lossy e h = inr (inr (x, search (rules, h)))
unmapped_of (Err (UnknownObjectFormat format)) false lossy e h = inl (search (rules, h))
unmapped_of (Err (MappingValidation x)) false lossy e h = inl (search (rules, h))
unmapped_of (Err (ListRefs x)) false lossy e h = inr (inr (ListRefs x, search (rules, h)))
unmapped_of (Err Memory) false lossy e h = inr (inr (Memory, search (rules, h)))

-- listing refs keeps the server's capabilities
kept_capabilities : (lists : Bool) (agent : FeatureValue) (shaken kept : Handshake) (plain : Bool) (old new : Reading)
    → ListsIf lists agent shaken plain old new kept → kept.capabilities ≡ shaken.capabilities
kept_capabilities true agent shaken kept plain old new h = ap (λ (x : Handshake). x.capabilities) h.2
kept_capabilities false agent shaken kept plain old new h = ap (λ (x : Handshake). x.capabilities) h.1

pub unasked_then : (lists : Bool) (agent : FeatureValue) (shaken kept : Handshake) (plain : Bool) (old new : Reading) (first then : State)
    (e : Error) → ListsIf lists agent shaken plain old new kept → then ≡ first → IsUnasked then kept.capabilities e
    → IsUnasked first shaken.capabilities e
unasked_then lists agent shaken kept plain old new first then e h s u =
    subst (λ (state : State). IsUnasked state shaken.capabilities e) s
    (subst (λ (caps : List CapabilityValue). IsUnasked then caps e) (kept_capabilities lists agent shaken kept plain old new h) u)
