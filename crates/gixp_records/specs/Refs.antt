-- The refs of an `ls-refs` response as records (gitprotocol-v2, "ls-refs").
use Rattle.std.specs.Prelude.{◌≡◌, ◌≢◌, ℕ, ◌==◌, ◌≤◌, false, if◌then◌else◌, All, List, [], ◌∷◌, length, take, drop, map, replicate, Some, None, Result, Ok, Err}
use Rattle.gixp_packetline.specs.declared.protocol.MessageKind.{MessageKind}
use Rattle.gixp_packetline.specs.declared.protocol.Protocol.TheVariants.{V2}
use Rattle.gixp_packetline.specs.Lines.{Lines, lines_of, no_lines, before, stop, refusal}
use Rattle.gixp_refs.specs.Ref.{RefValue, direct, peeled, symbolic, unborn}
use Rattle.gixp_refs.specs.Refs.{AreRefs, stream_refs}
use Rattle.gixp_records.specs.declared.refs.RefRecord.{RefRecord}
use Rattle.gixp_records.specs.declared.refs.RefsRefused.{RefsRefused}
use Rattle.gixp_records.specs.declared.refs.RefsRefused.TheVariants.{Packet, Line}
use Rattle.gixp_records.specs.declared.refs.RefsEnd.{RefsEnd}
use Rattle.gixp_records.specs.declared.refs.RefsEnd.TheVariants.{Full, Stop, Refused}
use Rattle.gixp_records.specs.declared.refs.RefsFound.{RefsFound}
use Rattle.gixp_records.specs.declared.refs.NextRef.{NextRef}
use Rattle.gixp_records.specs.declared.refs.NextRef.TheVariants.{Ref, Stop as StopNext}
use Rattle.gixp_records.specs.Span.{text_at, IsWithin}
use Rattle.gixp_records.specs.Packets.{pieces_at, refusal_in, AreWordsWithin, IsAfterPacket}
use Rattle.gixp_records.specs.RecordLine.{Judges}
use Rattle.gixp_records.specs.ListedLine.{loses_white_space, listed_v2}

-- the ref of a record; a record of an unknown kind has an empty name, which no server's ref has
abbrev pub ref_in : List ℕ → RefRecord → RefValue
ref_in bytes r =
    if r.kind == 1 then direct (text_at bytes r.name) r.object
    else if r.kind == 2 then peeled (text_at bytes r.name) r.tag r.object
    else if r.kind == 3 then symbolic (text_at bytes r.name) (text_at bytes r.target) None r.object
    else if r.kind == 4 then symbolic (text_at bytes r.name) (text_at bytes r.target) (Some r.tag) r.object
    else if r.kind == 5 then unborn (text_at bytes r.name) (text_at bytes r.target)
    else unborn [] []

abbrev pub refs_in : List ℕ → List RefRecord → List RefValue
refs_in bytes records = map (ref_in bytes) records

-- zeros in place of the ids that the ref of a record doesn't have
abbrev pub HasZeros : RefRecord → Type 0
HasZeros r = (r.kind ≢ 2 → r.kind ≢ 4 → r.tag ≡ replicate 20 0) × (r.kind ≡ 5 → r.object ≡ replicate 20 0)

-- the texts of the record are within the bytes, and missing ids are zeros
abbrev pub IsRecordWithin : List ℕ → RefRecord → Type 0
IsRecordWithin bytes r = IsWithin bytes r.name × IsWithin bytes r.target × HasZeros r

-- the lines of the response from an offset on, up to its stop
abbrev pub lines_at : List ℕ → ℕ → Lines
lines_at bytes at = lines_of V2 (pieces_at bytes at)

-- the error at an offset: the packet line can't be read, or the line is malformed
abbrev pub IsRefusedAt : List ℕ → ℕ → RefsRefused → Type 0
IsRefusedAt bytes at (Packet e) = (lines_at bytes at ≡ no_lines (refusal (refusal_in bytes e))) × AreWordsWithin bytes e
IsRefusedAt bytes at (Line e) = (text : List ℕ) × (rest : Lines) × (lines_at bytes at ≡ before (text ∷ []) rest) × Judges (listed_v2 text) e

-- the ref at an offset, or the stop, or the error
abbrev pub IsNextRef : List ℕ → ℕ → Result NextRef RefsRefused → Type 0
IsNextRef bytes at (Ok (Ref found next)) = (text : List ℕ) × (lines_at bytes at ≡ before (text ∷ []) (lines_at bytes next))
    × (listed_v2 text ≡ Ok (ref_in bytes found)) × IsRecordWithin bytes found × IsAfterPacket bytes at next
IsNextRef bytes at (Ok (StopNext next)) = (kind : MessageKind) × (lines_at bytes at ≡ no_lines (stop kind (pieces_at bytes next)))
    × IsAfterPacket bytes at next
IsNextRef bytes at (Err e) = IsRefusedAt bytes at e

-- the lines from one offset to another are these refs, and none of them loses white space
pub record AreLinesTo (bytes : List ℕ) (from next : ℕ) (values : List RefValue) : Type 0 where
  pub texts : List (List ℕ)
  pub lines : lines_at bytes from ≡ before texts (lines_at bytes next)
  pub refs : AreRefs texts values
  pub lossless : All (λ text. loses_white_space text ≡ false) texts
  pub in_order : from ≤ next
  pub within : next ≤ length bytes

-- the end of a call that read these refs
abbrev pub ReadsUpTo : List ℕ → ℕ → ℕ → List RefValue → RefsEnd → Type 0
ReadsUpTo bytes from next values Full = AreLinesTo bytes from next values
ReadsUpTo bytes from next values Stop = (stream_refs (drop from bytes) ≡ Ok values) × (kind : MessageKind) × (at : ℕ)
    × AreLinesTo bytes from at values × (lines_at bytes at ≡ no_lines (stop kind (pieces_at bytes next))) × IsAfterPacket bytes at next
ReadsUpTo bytes from next values (Refused e) = AreLinesTo bytes from next values × IsRefusedAt bytes next e

-- the refs from an offset on are in the first records, and the other records are unchanged
pub record ReadsRecords (bytes : List ℕ) (from : ℕ) (old : List RefRecord) (found : RefsFound) (new : List RefRecord) : Type 0 where
  pub room : found.count ≤ length new
  pub full : found.end ≡ Full → found.count ≡ length new
  pub rest : drop found.count new ≡ drop found.count old
  pub within : All (IsRecordWithin bytes) (take found.count new)
  pub ends : ReadsUpTo bytes from found.next (refs_in bytes (take found.count new)) found.end
