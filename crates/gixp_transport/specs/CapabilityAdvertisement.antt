-- The server's advertisement: its version, its capabilities, and under versions 0 and 1 its refs (gitprotocol-pack,
-- "Reference Discovery" and "Extra Parameters"; gitprotocol-v2, "Capability Advertisement"). A stop is a flush packet,
-- or under version 2 a delimiter packet.
use Rattle.std.specs.Prelude.{◌≡◌, ℕ, ◌≤◌, ◌⊎◌, Bool, true, false, nat_eq, List, [], ◌∷◌, take, codes, if◌then◌else◌, Option, Some, None, Result, Ok, Err, IfSome, IsSome, ⊤}
use Rattle.std.specs.Char.{is_whitespace}
use Rattle.bstr.specs.Trim.{trim_end_by}
use Rattle.std.specs.List.{starts_with}
use Rattle.std.specs.Cmp.Lexicographic.{pointwise}
use Rattle.gixp_packetline.specs.declared.protocol.Protocol.{Protocol}
use Rattle.gixp_packetline.specs.declared.protocol.Protocol.TheVariants.{V0, V1, V2}
use Rattle.gixp_packetline.specs.declared.protocol.MessageKind.{MessageKind}
use Rattle.std.specs.declared.io.ErrorKind.{ErrorKind}
use Rattle.std.specs.declared.io.ErrorKind.TheVariants.{UnexpectedEof}
use Rattle.gixp_capabilities.specs.declared.client.Error.{Error}
use Rattle.gixp_capabilities.specs.declared.client.Error.TheVariants.{Io, Read, UnsupportedProtocolVersion, MissingDelimitingNullByte, Memory}
use Rattle.bstr.specs.Owned.{bstring_bytes}
use Rattle.gixp_transport.specs.declared.service.SetServiceResponse.{SetServiceResponse}
use Rattle.gixp_packetline.specs.Pieces.{Refusal, io, line, Pieces, no_pieces, with_piece}
use Rattle.gixp_packetline.specs.Lines.{Next, gives, stops, refuses, next_of, Ending, stop, refusal, lines_of}
use Rattle.gixp_capabilities.specs.Capabilities.{CapabilityValue, capabilities_of_line, capabilities_of_lines}
use Rattle.gixp_capabilities.specs.Client.{ClientRefusal, client_refusal, client_from, no_null_byte, unsupported_version}
use Rattle.gixp_packetline.specs.Reading.{Reading, Rose, IsLasting, refusal_of, is_end}

-- an advertisement, and where it leaves the reader
pub record Advertised : Type 0 where
  pub version : Protocol
  pub capabilities : List CapabilityValue
  -- whether the lines that come next are the refs
  pub has_refs : Bool
  -- the packet lines after it
  pub rest : Pieces
  -- the stop that the reader is at
  pub stopped : Option MessageKind

-- the version that the first line names: 1, 2, another one, or none
pub data Named : Type 0 where
  one : Named
  two : Named
  another : List ℕ → Named
  unnamed : Named

-- a line without the white space at its end
abbrev pub trimmed : List ℕ → List ℕ
trimmed text = trim_end_by is_whitespace text

abbrev pub version_named : List ℕ → Named
version_named text =
    if pointwise nat_eq (trimmed text) (codes "version 1") then one
    else if pointwise nat_eq (trimmed text) (codes "version 2") then two
    else if starts_with nat_eq text (codes "version ") then another (trimmed text)
    else unnamed

-- a stop in place of the first ref line: no refs and no capabilities
abbrev pub empty_advertisement : Protocol → MessageKind → Pieces → Advertised
empty_advertisement version kind rest = record { version = version; capabilities = []; has_refs = true; rest = rest; stopped = Some kind }

-- the first ref line has the capabilities after its NUL; the part before the NUL is still to come
abbrev pub ref_line : Protocol → List ℕ → Pieces → Option (List CapabilityValue × ℕ) → Result Advertised ClientRefusal
ref_line version text rest None = Err no_null_byte
ref_line version text rest (Some found) =
    Ok (record {
      version = version;
      capabilities = found.0;
      has_refs = true;
      rest = with_piece (line (take found.1 text)) rest;
      stopped = None;
    })

abbrev pub by_ref_line : Protocol → Next → Result Advertised ClientRefusal
by_ref_line version (gives text rest) = ref_line version text rest (capabilities_of_line text)
by_ref_line version (stops kind rest) = Ok (empty_advertisement version kind rest)
by_ref_line version (refuses e) = Err (client_from e)

-- the first ref line of version 0 or 1, or the stop in its place
abbrev pub from_ref_line : Protocol → Pieces → Result Advertised ClientRefusal
from_ref_line version p = by_ref_line version (next_of version p)

abbrev pub by_lines : List (List ℕ) → Ending → Result Advertised ClientRefusal
by_lines texts (stop kind rest) =
    Ok (record { version = V2; capabilities = capabilities_of_lines texts; has_refs = false; rest = rest; stopped = Some kind })
by_lines texts (refusal e) = Err (client_from e)

-- the capability lines of version 2, up to the stop
abbrev pub from_capability_lines : Pieces → Result Advertised ClientRefusal
from_capability_lines p = let l = lines_of V2 p in by_lines l.lines l.ending

-- the advertisement by its first line; a line that names no version is the first ref line of version 0
abbrev pub by_version : Named → Pieces → Pieces → Result Advertised ClientRefusal
by_version one all rest = from_ref_line V1 rest
by_version two all rest = from_capability_lines rest
by_version (another text) all rest = Err (unsupported_version text)
by_version unnamed all rest = from_ref_line V0 all

abbrev pub by_first : Pieces → Next → Result Advertised ClientRefusal
by_first all (gives text rest) = by_version (version_named text) all rest
by_first all (stops kind rest) = Ok (empty_advertisement V0 kind rest)
by_first all (refuses e) = Err (client_from e)

-- the advertisement of a server; it is read under version 0 until its first line names a version
abbrev pub advertisement : Pieces → Result Advertised ClientRefusal
advertisement p = by_first p (next_of V0 p)

-- the call returned this advertisement, and the reader is where the advertisement leaves it
pub record Answers (a : Advertised) (new : Reading) (found : SetServiceResponse) : Type 0 where
  pub version : found.actual_protocol ≡ a.version
  pub capabilities : found.capabilities ≡ a.capabilities
  pub has_refs : found.has_refs ≡ a.has_refs
  pub rest : new.to_come ≡ Some a.rest
  pub stopped : new.stopped ≡ a.stopped

-- the advertisement had these capability lines, and a stop after them
pub record AdvertisesLines (new : Reading) (found : SetServiceResponse) : Type 0 where
  pub texts : List (List ℕ)
  pub capabilities : found.capabilities ≡ capabilities_of_lines texts
  pub has_refs : found.has_refs ≡ false
  pub stopped : IsSome new.stopped

-- the advertisement had a stop in place of the first ref line
pub record AdvertisesNothing (new : Reading) (found : SetServiceResponse) : Type 0 where
  pub capabilities : found.capabilities ≡ []
  pub has_refs : found.has_refs ≡ true
  pub stopped : IsSome new.stopped

-- the advertisement had a first ref line with a NUL; the part before the NUL is peeked at
pub record AdvertisesRefs (new : Reading) (found : SetServiceResponse) : Type 0 where
  pub text : List ℕ
  pub place : ℕ
  pub capabilities : capabilities_of_line text ≡ Some (found.capabilities, place)
  pub has_refs : found.has_refs ≡ true
  pub line : new.line ≡ take place text
  pub peeked : new.peeked ≡ true
  pub stopped : new.stopped ≡ None

-- the advertisement is one of these three, whether the bytes are known or not
abbrev pub IsAdvertised : Reading → SetServiceResponse → Type 0
IsAdvertised new found = AdvertisesLines new found ⊎ AdvertisesNothing new found ⊎ AdvertisesRefs new found

-- the advertisement was read
pub record ReadsAdvertisement (advertised : Pieces → Result Advertised ClientRefusal) (old new : Reading)
    (found : SetServiceResponse) : Type 0 where
  pub value : IfSome old.to_come (λ p. (a : Advertised) × (advertised p ≡ Ok a) × Answers a new found)
  pub says : IsAdvertised new found
  pub version : new.version ≡ found.actual_protocol
  pub failures : new.failures ≡ old.failures
  pub left : new.left ≤ old.left
  pub held : new.held ≡ old.held

-- a read or write failed, or an allocation
abbrev pub IsFromDevice : Reading → Reading → Error → Type 0
IsFromDevice old new (Io kind) = Rose old.failures new.failures
IsFromDevice old new Memory = new.failures ≡ old.failures
IsFromDevice old new _ = ⊥

-- an error of the advertisement: the end or another error of the stream, an unknown version, or a first ref line without a NUL
abbrev pub IsOfAdvertisement : Error → Type 0
IsOfAdvertisement (Io kind) = kind ≡ UnexpectedEof
IsOfAdvertisement (Read e) = IsLasting (refusal_of e)
IsOfAdvertisement (UnsupportedProtocolVersion text) = ⊤
IsOfAdvertisement MissingDelimitingNullByte = ⊤
IsOfAdvertisement _ = ⊥

-- an error of the advertisement counts no failure; any other error is a failed read or write, or an allocation failure
abbrev pub IsCaused : Reading → Reading → Error → Type 0
IsCaused old new e = (IsOfAdvertisement e × (new.failures ≡ old.failures)) ⊎ IsFromDevice old new e

-- these packet lines after these lines
abbrev pub after_lines : List (List ℕ) → Pieces → Pieces
after_lines [] p = p
after_lines (text ∷ texts) p = with_piece (line text) (after_lines texts p)

-- exactly these lines were taken
abbrev pub LinesTaken : List (List ℕ) → Option Pieces → Option Pieces → Type 0
LinesTaken texts old new = IfSome old (λ p. (q : Pieces) × (new ≡ Some q) × (p ≡ after_lines texts q))

-- a failed call for the first ref line took no line, and the reader has this version
abbrev pub TakesNone : Protocol → Protocol → List (List ℕ) → Type 0
TakesNone version v texts = (v ≡ version) × (texts ≡ [])

-- a failed call for capability lines took any number of them, and the reader has version 2
abbrev pub TakesAny : Protocol → List (List ℕ) → Type 0
TakesAny v texts = v ≡ V2

-- the lines that a failed handshake took: under version 0 none, under version 1 the line that names it, under version 2 the line that
-- names it and capability lines
abbrev pub TakesFirst : Protocol → List (List ℕ) → Type 0
TakesFirst V0 texts = texts ≡ []
TakesFirst V1 texts = (first : List ℕ) × (version_named first ≡ one) × (texts ≡ first ∷ [])
TakesFirst V2 texts = (first : List ℕ) × (more : List (List ℕ)) × (version_named first ≡ two) × (texts ≡ first ∷ more)

-- every later read returns this error
abbrev pub LeavesStreamRefused : Reading → Reading → Refusal → Type 0
LeavesStreamRefused old new e = (new.refused ≡ Some e) × IfSome old.to_come (λ p. new.to_come ≡ Some (no_pieces e))

-- after a failed read no line is peeked at; after `UnexpectedEof` every later read returns it
abbrev pub LeavesStreamIo : Bool → List (List ℕ) → Reading → Reading → ErrorKind → Type 0
LeavesStreamIo true texts old new kind = LeavesStreamRefused old new (io kind)
LeavesStreamIo false texts old new kind = (new.peeked ≡ false) × LinesTaken texts old.to_come new.to_come

-- what comes after an error: the same error, or the packet lines after the lines taken. A line that names an unknown
-- version, and a first ref line without a NUL, are still to come.
abbrev pub LeavesStream : List (List ℕ) → Reading → Reading → Error → Type 0
LeavesStream texts old new (Io kind) = LeavesStreamIo (is_end kind) texts old new kind
LeavesStream texts old new (Read e) = LeavesStreamRefused old new (refusal_of e)
LeavesStream texts old new (UnsupportedProtocolVersion text) = (new.peeked ≡ true) × (version_named new.line ≡ another (bstring_bytes text))
    × LinesTaken texts old.to_come new.to_come
LeavesStream texts old new MissingDelimitingNullByte = (new.peeked ≡ true) × (capabilities_of_line new.line ≡ None)
    × LinesTaken texts old.to_come new.to_come
LeavesStream texts old new Memory = LinesTaken texts old.to_come new.to_come
LeavesStream texts old new _ = ⊥

-- the call failed with the first error of the advertisement, a failed read or write, or an allocation failure
pub record FailsAdvertisement (advertised : Pieces → Result Advertised ClientRefusal) (takes : Protocol → List (List ℕ) → Type 0)
    (old new : Reading) (e : Error) : Type 0 where
  pub why : (IfSome old.to_come (λ p. advertised p ≡ Err (client_refusal e)) × (new.failures ≡ old.failures)) ⊎ IsFromDevice old new e
  pub caused : IsCaused old new e
  pub taken : List (List ℕ)
  pub by_version : takes new.version taken
  pub stands : LeavesStream taken old new e
  pub stopped : new.stopped ≡ None
  pub left : new.left ≤ old.left
  pub held : new.held ≡ old.held

-- a call that reads an advertisement
abbrev pub Advertises : (Pieces → Result Advertised ClientRefusal) → (Protocol → List (List ℕ) → Type 0) → Reading → Reading
    → Result SetServiceResponse Error → Type 0
Advertises advertised takes old new (Ok found) = ReadsAdvertisement advertised old new found
Advertises advertised takes old new (Err e) = FailsAdvertisement advertised takes old new e
