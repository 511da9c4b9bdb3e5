-- The start of an advertisement under versions 0 and 1, up to its first ref line (gitprotocol-pack, "Reference Discovery" and
-- "Extra Parameters").
use Rattle.std.specs.Prelude.{◌≡◌, ℕ, ◌==◌, ◌≤◌, true, false, min, Bool, ⊤, List, [], ◌∷◌, length, take, map, Some, None, Vec, Result, Ok, Err}
use Rattle.std.specs.declared.alloc.Global.{Global}
use Rattle.gixp_packetline.specs.declared.protocol.MessageKind.{MessageKind}
use Rattle.gixp_packetline.specs.declared.protocol.Protocol.{Protocol}
use Rattle.gixp_packetline.specs.Pieces.{line, Pieces, with_piece}
use Rattle.gixp_packetline.specs.Lines.{Lines, lines_of}
use Rattle.gixp_capabilities.specs.Capabilities.{capabilities_of_words, capabilities_of_line}
use Rattle.gixp_capabilities.specs.Client.{ClientRefusal, client_from, no_null_byte, unsupported_version}
use Rattle.gixp_transport.specs.CapabilityAdvertisement.{Advertised, Named, one, two, another, unnamed, empty_advertisement, from_capability_lines}
use Rattle.gixp_refs.specs.RefLine.{RefsRefusal}
use Rattle.gixp_refs.specs.RefAdvertisement.{Symref}
use Rattle.gixp_records.specs.declared.advertised.opening.NamedVersion.{NamedVersion}
use Rattle.gixp_records.specs.declared.advertised.opening.NamedVersion.TheVariants.{One, Two, Another, Unnamed}
use Rattle.gixp_records.specs.declared.advertised.opening.RefsOpening.{RefsOpening}
use Rattle.gixp_records.specs.declared.advertised.opening.Opened.{Opened}
use Rattle.gixp_records.specs.declared.advertised.opening.Opened.TheVariants.{Refs, Empty}
use Rattle.gixp_records.specs.declared.advertised.refused.AdvertisedRefused.{AdvertisedRefused}
use Rattle.gixp_records.specs.declared.advertised.refused.AdvertisedRefused.TheVariants.{Packet, Line, NoCapabilities, VersionTwo, UnknownVersion, Memory}
use Rattle.gixp_records.specs.declared.advertised.symrefs.SymrefSpan.{SymrefSpan}
use Rattle.gixp_records.specs.declared.span.Span.{Span}
use Rattle.gixp_records.specs.Span.{text_at, IsWithin}
use Rattle.gixp_records.specs.Packets.{pieces_at, refusal_in, AreWordsWithin}
use Rattle.gixp_records.specs.V1RecordLine.{IsRefusedAs, symref_at}

abbrev pub named_as : Named → NamedVersion
named_as one = One
named_as two = Two
named_as (another text) = Another
named_as unnamed = Unnamed

-- the symrefs of the capabilities, or the first error; an allocation failure is always possible
abbrev pub AnswersSymrefs : List ℕ → Result (List Symref) RefsRefusal → Result (Vec SymrefSpan Global) AdvertisedRefused → Type 0
AnswersSymrefs bytes o (Ok found) = o ≡ Ok (map (symref_at bytes) found.items)
AnswersSymrefs bytes o (Err Memory) = ⊤
AnswersSymrefs bytes o (Err (Line e)) = IsRefusedAs o e
AnswersSymrefs bytes o (Err _) = ⊥

-- the capabilities of a first ref line, and its length without them
pub record HasCapabilities (bytes text : List ℕ) (version : Protocol) (first : ℕ) (o : RefsOpening) : Type 0 where
  pub same_version : o.version ≡ version
  pub place : o.first ≡ first
  pub found : capabilities_of_line text ≡ Some (capabilities_of_words (text_at bytes o.capabilities), o.cut)
  pub within : IsWithin bytes o.capabilities

-- the start of an advertisement up to its first ref line, with the capabilities of that line
pub record IsOpening (bytes : List ℕ) (attributes : Result Advertised ClientRefusal) (o : RefsOpening) : Type 0 where
  pub text : List ℕ
  pub rest : Pieces
  pub stands : pieces_at bytes o.first ≡ with_piece (line text) rest
  pub answer : attributes ≡ Ok (record {
    version = o.version;
    capabilities = capabilities_of_words (text_at bytes o.capabilities);
    has_refs = true;
    rest = with_piece (line (take o.cut text)) rest;
    stopped = None;
  })
  pub place : o.first ≤ length bytes
  pub within : IsWithin bytes o.capabilities

-- the error if there is neither a first ref line nor a stop in its place
abbrev pub IsNotOpened : List ℕ → Result Advertised ClientRefusal → AdvertisedRefused → Type 0
IsNotOpened bytes attributes (Packet e) = (attributes ≡ Err (client_from (refusal_in bytes e))) × AreWordsWithin bytes e
IsNotOpened bytes attributes NoCapabilities = attributes ≡ Err no_null_byte
IsNotOpened bytes attributes UnknownVersion = (text : List ℕ) × (attributes ≡ Err (unsupported_version text))
IsNotOpened bytes attributes VersionTwo = (p : Pieces) × (attributes ≡ from_capability_lines p)
IsNotOpened bytes attributes _ = ⊥

-- the start of an advertisement: a first ref line, a stop in its place, or an error
abbrev pub IsOpened : List ℕ → Result Advertised ClientRefusal → Result Opened AdvertisedRefused → Type 0
IsOpened bytes attributes (Ok (Refs o)) = IsOpening bytes attributes o
IsOpened bytes attributes (Ok (Empty next)) = (version : Protocol) × (kind : MessageKind)
    × (attributes ≡ Ok (empty_advertisement version kind (pieces_at bytes next))) × (next ≤ length bytes)
IsOpened bytes attributes (Err e) = IsNotOpened bytes attributes e

-- the first line is shortened to this length
abbrev pub with_first_cut : ℕ → List (List ℕ) → List (List ℕ)
with_first_cut n [] = []
with_first_cut n (text ∷ texts) = take n text ∷ texts

-- the same if the first ref line is among these lines
abbrev pub cut_lines : Bool → ℕ → Lines → Lines
cut_lines true n l = record { lines = with_first_cut n l.lines; ending = l.ending }
cut_lines false n l = l

-- the lines from an offset on; the first ref line ends before its capabilities
abbrev pub advertised_lines : List ℕ → RefsOpening → ℕ → Lines
advertised_lines bytes o at = cut_lines (at == o.first) o.cut (lines_of o.version (pieces_at bytes at))

-- the span of a line; the first ref line ends before its capabilities
abbrev pub cut_span : Bool → ℕ → Span → Span
cut_span true n s = record { at = s.at; len = min n s.len }
cut_span false n s = s
