-- The results of the exports, by the contracts of the functions that they call.
use Rattle.std.specs.Prelude.{◌≡◌, ◌⊎◌, ◌≤◌, ◌<◌, ◌++◌, ℕ, Bool, true, false, List, [], length, drop, Ok, Err}
use Rattle.gixp_refspec.specs.Spec.{Spec}
use Rattle.gixp_records.specs.declared.mapped_refs.MapEnd.{MapEnd}
use Rattle.gixp_records.specs.declared.mapped_refs.MapRefused.{MapRefused}
use Rattle.gixp_records.specs.declared.spec_text.SpecsRefused.{SpecsRefused}
use Rattle.gixp_records.specs.MapRecords.{MapsRecords}
use Rattle.gixp_records.specs.Spelling.{spec_lines}
use Rattle.gixp_records.specs.SpecText.{specs_of_lines, prefix_lines, WritesPrefixes}
use Rattle.gixp_records.specs.MappingEntry.{MapBuffers}
use Rattle.gixp_records.specs.declared.advertised.AdvertisedEnd.{AdvertisedEnd}
use Rattle.gixp_records.specs.declared.advertised.AdvertisedEnd.TheVariants.{Refused as RefusedAdvertised}
use Rattle.gixp_records.specs.declared.advertised.AdvertisedFound.{AdvertisedFound}
use Rattle.gixp_records.specs.declared.advertised.refused.AdvertisedRefused.TheVariants.{Packet as NoPacket}
use Rattle.gixp_records.specs.declared.span.Span.{Span}
use Rattle.gixp_records.specs.declared.bands.BandPiece.{BandPiece}
use Rattle.gixp_records.specs.declared.bands.BandPiece.TheVariants.{Content, Progress, Error, Stop as StopPiece}
use Rattle.gixp_records.specs.declared.packets.PacketRefused.{PacketRefused}
use Rattle.gixp_records.specs.declared.packets.PacketRefused.TheVariants.{Server}
use Rattle.gixp_records.specs.declared.refs.RefRecord.{RefRecord}
use Rattle.gixp_records.specs.declared.refs.RefsRefused.TheVariants.{Packet}
use Rattle.gixp_records.specs.declared.refs.RefsEnd.{RefsEnd}
use Rattle.gixp_records.specs.declared.refs.RefsEnd.TheVariants.{Refused}
use Rattle.gixp_records.specs.declared.refs.RefsFound.{RefsFound}
use Rattle.gixp_records.specs.Bands.{IsNextPiece}
use Rattle.gixp_records.specs.Refs.{ReadsRecords}
use Rattle.gixp_records.specs.AdvertisedRecords.{ReadsAdvertised}
use Rattle.gixp_calls.specs.declared.refs.FoundRecord.{FoundRecord}
use Rattle.gixp_calls.specs.declared.bands.PieceRecord.{PieceRecord}
use Rattle.gixp_calls.specs.Codes.{packet_code, end_code, advertised_end_code, map_end_code, map_refused_code, specs_code}

-- no text
abbrev pub no_span : Span
no_span = record { at = 0; len = 0 }

-- the span of the server's message
abbrev pub words_of : RefsEnd → Span
words_of (Refused (Packet (Server words))) = words
words_of _ = no_span

-- the offset is beyond the bytes, or there is no record; or refs were read
pub data ExportsRefs (answer : List ℕ) (from : ℕ) (old : List RefRecord) (was : FoundRecord) (code : ℕ) (new : List RefRecord)
    (now : FoundRecord) : Type 0 where
  misplaced : length answer < from → code ≡ 3 → new ≡ old → now ≡ was → ExportsRefs answer from old was code new now
  no_room : old ≡ [] → code ≡ 2 → new ≡ old → now ≡ record was { count = 1 } → ExportsRefs answer from old was code new now
  read : (found : RefsFound) → from ≤ length answer → 0 < length old → ReadsRecords answer from old found new → code ≡ end_code found.end
      → now ≡ record { count = found.count; next = found.next; words = words_of found.end }
      → ExportsRefs answer from old was code new now

abbrev pub advertised_words : AdvertisedEnd → Span
advertised_words (RefusedAdvertised (NoPacket (Server words))) = words
advertised_words _ = no_span

-- the offset is beyond the bytes, or there is no record; or refs of an advertisement were read
pub data ExportsAdvertised (answer : List ℕ) (from : ℕ) (old : List RefRecord) (was : FoundRecord) (code : ℕ) (new : List RefRecord)
    (now : FoundRecord) : Type 0 where
  advertised_misplaced : length answer < from → code ≡ 3 → new ≡ old → now ≡ was
      → ExportsAdvertised answer from old was code new now
  advertised_no_room : old ≡ [] → code ≡ 2 → new ≡ old → now ≡ record was { count = 1 }
      → ExportsAdvertised answer from old was code new now
  advertised_read : (found : AdvertisedFound) → from ≤ length answer → 0 < length old → ReadsAdvertised answer from old found new
      → code ≡ advertised_end_code found.end
      → now ≡ record { count = found.count; next = found.next; words = advertised_words found.end }
      → ExportsAdvertised answer from old was code new now

abbrev pub piece_band : BandPiece → ℕ
piece_band (StopPiece kind) = 0
piece_band (Content text) = 1
piece_band (Progress text) = 2
piece_band (Error text) = 3

abbrev pub piece_text : BandPiece → Span
piece_text (StopPiece kind) = no_span
piece_text (Content text) = text
piece_text (Progress text) = text
piece_text (Error text) = text

-- the span of the server's message, or else another text
abbrev pub words_or : PacketRefused → Span → Span
words_or (Server words) other = words
words_or _ other = other

-- the record after an error
abbrev pub refused_piece : PacketRefused → PieceRecord → PieceRecord
refused_piece e old = record old { text = words_or e old.text }

-- the offset is beyond the bytes; or a packet line was read; or it has an error
pub data ExportsPiece (answer : List ℕ) (from : ℕ) (old : PieceRecord) (code : ℕ) (new : PieceRecord) : Type 0 where
  misplaced : length answer < from → code ≡ 3 → new ≡ old → ExportsPiece answer from old code new
  read : (piece : BandPiece) (next : ℕ) → from ≤ length answer → IsNextPiece answer from (Ok (piece, next)) → code ≡ 0
      → new ≡ record { band = piece_band piece; text = piece_text piece; next = next } → ExportsPiece answer from old code new
  refused : (e : PacketRefused) → from ≤ length answer → IsNextPiece answer from (Err e) → code ≡ packet_code e
      → new ≡ refused_piece e old → ExportsPiece answer from old code new

-- the refs were mapped by the refspecs of a text, or a buffer is too small, or there is an error
pub data ExportsMap (answer : List ℕ) (refs : List RefRecord) (text : List ℕ) (old : MapBuffers) (code : ℕ)
    (new : MapBuffers) : Type 0 where
  maps : (end : MapEnd) → MapsRecords answer refs (spec_lines text) old new (Ok end) → code ≡ map_end_code end
      → ExportsMap answer refs text old code new
  maps_not : (e : MapRefused) → MapsRecords answer refs (spec_lines text) old new (Err e) → code ≡ map_refused_code e
      → ExportsMap answer refs text old code new

-- a text is copied to the start of a buffer
abbrev pub copied_to_start : List ℕ → List ℕ → List ℕ
copied_to_start text buffer = text ++ drop (length text) buffer

-- a text is copied to the start of a buffer that is large enough, or the buffer is too small
abbrev pub CopiesIfFits : List ℕ → List ℕ → List ℕ → Bool → Type 0
CopiesIfFits text old new true = (length text ≤ length old) × (new ≡ copied_to_start text old)
CopiesIfFits text old new false = (length old < length text) × (new ≡ old)

-- a text is copied to the start of a buffer; or the buffer is too small; in both cases its length is written
abbrev pub WritesText : List ℕ → List ℕ → ℕ → List ℕ → ℕ → Type 0
WritesText text old code new now = (now ≡ length text)
    × (((code ≡ 0) × CopiesIfFits text old new true) ⊎ ((code ≡ 2) × CopiesIfFits text old new false))

-- the prefixes of a text's refspecs are in the buffer, or it is too small, or there is an error
pub data ExportsPrefixes (text old : List ℕ) (was code : ℕ) (new : List ℕ) (now : ℕ) : Type 0 where
  prefixes : (specs : List Spec) → specs_of_lines (spec_lines text) ≡ Ok specs → WritesText (prefix_lines specs) old code new now
      → ExportsPrefixes text old was code new now
  no_prefixes : (e : SpecsRefused) → WritesPrefixes (spec_lines text) (Err e) → code ≡ specs_code e → new ≡ old → now ≡ was
      → ExportsPrefixes text old was code new now
