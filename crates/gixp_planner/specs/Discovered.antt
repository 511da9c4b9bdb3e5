-- The outcome of a handshake over recorded bodies, as a function of the first body (gitprotocol-pack, "Reference Discovery";
-- gitprotocol-v2, "Capability Advertisement").
use Rattle.std.specs.Prelude.{ℕ, ◌≡◌, ◌⊎◌, Bool, true, false, List, [], map, codes, Option, Some, None, Vec, Result, Ok, Err}
use Rattle.std.specs.Option.{option_map}
use Rattle.std.specs.declared.alloc.Global.{Global}
use Rattle.gixp_packetline.specs.declared.protocol.Protocol.{Protocol}
use Rattle.gixp_packetline.specs.Pieces.{Pieces}
use Rattle.gixp_packetline.specs.Reading.{Reading, lines_from_stop}
use Rattle.gixp_capabilities.specs.Capabilities.{CapabilityValue}
use Rattle.gixp_capabilities.specs.Client.{ClientRefusal}
use Rattle.gixp_transport.specs.declared.bodies.Body.{Body}
use Rattle.gixp_transport.specs.declared.bodies.Bodies.{Bodies}
use Rattle.gixp_transport.specs.Bodies.{answer_of, bodies_reading, IsNewBodies}
use Rattle.gixp_transport.specs.CapabilityAdvertisement.{Advertised, advertisement}
use Rattle.gixp_transport.specs.Transport.{first_answer, answer_pieces}
use Rattle.gixp_refs.specs.declared.handshake.Ref.{Ref}
use Rattle.gixp_refs.specs.Ref.{RefValue, ref_value}
use Rattle.gixp_refs.specs.RefLine.{RefsRefusal}
use Rattle.gixp_refs.specs.RefAdvertisement.{Symref, symref_table, v1_refs}
use Rattle.gixp_handshake.specs.declared.handshake.error.Error.{Error as HandshakeError}
use Rattle.gixp_handshake.specs.declared.handshake.error.Error.TheVariants as handshake
use Rattle.gixp_handshake.specs.declared.handshake.read.Handshake.{Handshake}
use Rattle.gixp_handshake.specs.Shake.{is_accepted}
use Rattle.gixp_planner.specs.Refusal.{handshake_name}
use Rattle.gixp_handshake.specs.WithoutAccount.{GreetsWithoutAccount}

-- the server's version and capabilities, and its refs where they come first
pub record Discovery : Type 0 where
  pub version : Protocol
  pub capabilities : List CapabilityValue
  pub refs : Option (List RefValue)

abbrev pub discovered : Advertised → Option (List RefValue) → Discovery
discovered advertised refs = record { version = advertised.version; capabilities = advertised.capabilities; refs = refs }

-- the refs of the lines, or the name of their error
abbrev pub with_refs : Advertised → Result (List RefValue) RefsRefusal → Result Discovery (List ℕ)
with_refs advertised (Ok refs) = Ok (discovered advertised (Some refs))
with_refs advertised (Err e) = Err (codes "ParseRefs")

-- the symbolic refs of the capabilities `symref`, or the name of their error
abbrev pub by_symrefs : Advertised → Result (List Symref) RefsRefusal → Result Discovery (List ℕ)
by_symrefs advertised (Ok symrefs) = with_refs advertised (v1_refs symrefs (lines_from_stop advertised.stopped advertised.version advertised.rest))
by_symrefs advertised (Err e) = Err (codes "ParseRefs")

-- whether refs come first
abbrev pub by_refs : Bool → Advertised → Result Discovery (List ℕ)
by_refs false advertised = Ok (discovered advertised None)
by_refs true advertised = by_symrefs advertised (symref_table advertised.capabilities)

-- whether the version is accepted
abbrev pub by_acceptance : Bool → Advertised → Result Discovery (List ℕ)
by_acceptance false advertised = Err (codes "TransportProtocolPolicyViolation")
by_acceptance true advertised = by_refs advertised.has_refs advertised

abbrev pub by_advertisement : List Protocol → Result Advertised ClientRefusal → Result Discovery (List ℕ)
by_advertisement accepted (Ok advertised) = by_acceptance (is_accepted accepted advertised.version) advertised
by_advertisement accepted (Err e) = Err (codes "Transport")

-- what an answer has where these versions are accepted, or the name of the handshake's error
abbrev pub discovery : List Protocol → Pieces → Result Discovery (List ℕ)
discovery accepted answer = by_advertisement accepted (advertisement answer)

-- the refs that came first, as values
abbrev pub values_of : Option (Vec Ref Global) → Option (List RefValue)
values_of refs = option_map (λ (v : Vec Ref Global). map ref_value v.items) refs

-- a handshake has what was discovered
pub record HasDiscovered (advertised : Discovery) (h : Handshake) : Type 0 where
  pub version : h.server_protocol_version ≡ advertised.version
  pub capabilities : h.capabilities ≡ advertised.capabilities
  pub refs : values_of h.refs ≡ advertised.refs

-- a handshake had this outcome, or an allocation failed
abbrev pub IsDiscovered : Result Discovery (List ℕ) → Result Handshake HandshakeError → Type 0
IsDiscovered (Ok advertised) (Ok h) = HasDiscovered advertised h
IsDiscovered (Ok advertised) (Err e) = e ≡ handshake.Memory
IsDiscovered (Err name) (Ok h) = ⊥
IsDiscovered (Err name) (Err e) = (handshake_name e ≡ name) ⊎ (e ≡ handshake.Memory)

-- the first body as it is read; a missing body is empty
abbrev pub first_pieces : List Body → Pieces
first_pieces bodies = answer_pieces (first_answer (map answer_of bodies))

-- a handshake over these bodies had this outcome, and no read failed
pub record GreetsOver (bodies : List Body) (r : Result Handshake HandshakeError) : Type 0 where
  pub transport : Bodies
  pub last : Reading
  pub over : IsNewBodies bodies [] [] transport
  pub greets : GreetsWithoutAccount true (bodies_reading transport) last r
  pub unfailed : last.failures ≡ 0

-- the outcome of a handshake follows from the first body, except for allocation failures
abbrev pub GreetingsFollow : Type 0
GreetingsFollow = (bodies : List Body) (r : Result Handshake HandshakeError) → GreetsOver bodies r
    → IsDiscovered (discovery [] (first_pieces bodies)) r
