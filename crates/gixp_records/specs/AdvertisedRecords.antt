-- The refs of a version 0 or 1 advertisement as records (gitprotocol-pack, "Reference Discovery").
use Rattle.std.specs.Prelude.{◌≡◌, ℕ, ◌<◌, ◌≤◌, All, IfSome, List, [], ◌∷◌, length, take, drop, max, Option, None, Result, Ok, Err}
use Rattle.std.specs.Option.{option_map}
use Rattle.gixp_packetline.specs.declared.protocol.MessageKind.{MessageKind}
use Rattle.gixp_packetline.specs.declared.protocol.Protocol.{Protocol}
use Rattle.gixp_packetline.specs.Lines.{stop, Lines, no_lines, before, refusal}
use Rattle.gixp_capabilities.specs.Capabilities.{capabilities_of_words}
use Rattle.gixp_transport.specs.CapabilityAdvertisement.{advertisement, empty_advertisement}
use Rattle.gixp_refs.specs.Ref.{RefValue}
use Rattle.gixp_refs.specs.RefLine.{RefsRefusal, refusal_from}
use Rattle.gixp_refs.specs.RefAdvertisement.{Symref, symref_table, end_refusal, in_front}
use Rattle.gixp_records.specs.declared.advertised.AdvertisedEnd.{AdvertisedEnd}
use Rattle.gixp_records.specs.declared.advertised.AdvertisedEnd.TheVariants.{Full, Stop, Refused}
use Rattle.gixp_records.specs.declared.advertised.AdvertisedFound.{AdvertisedFound}
use Rattle.gixp_records.specs.declared.advertised.ref_line.AdvertisedLine.{AdvertisedLine}
use Rattle.gixp_records.specs.declared.advertised.ref_line.NamedLine.{NamedLine}
use Rattle.gixp_records.specs.declared.advertised.groups.NextAdvertised.{NextAdvertised}
use Rattle.gixp_records.specs.declared.advertised.groups.NextAdvertised.TheVariants.{Line, Stop as StopNext}
use Rattle.gixp_records.specs.declared.advertised.groups.SymrefScope.{SymrefScope}
use Rattle.gixp_records.specs.declared.advertised.groups.Scan.{Scan}
use Rattle.gixp_records.specs.declared.advertised.groups.Scan.TheVariants.{On, Record, Last, Stop as StopStep}
use Rattle.gixp_records.specs.declared.advertised.opening.RefsOpening.{RefsOpening}
use Rattle.gixp_records.specs.declared.advertised.refused.AdvertisedRefused.{AdvertisedRefused}
use Rattle.gixp_records.specs.declared.advertised.refused.AdvertisedRefused.TheVariants.{Packet, Line as LineRefused, Memory}
use Rattle.gixp_records.specs.declared.advertised.refused.AdvertisedLineRefused.{AdvertisedLineRefused}
use Rattle.gixp_records.specs.declared.refs.RefRecord.{RefRecord}
use Rattle.gixp_records.specs.Span.{text_at, IsWithin}
use Rattle.gixp_records.specs.Packets.{pieces_at, refusal_in, AreWordsWithin, IsAfterPacket}
use Rattle.gixp_records.specs.Refs.{ref_in, refs_in, IsRecordWithin}
use Rattle.gixp_records.specs.V1RecordLine.{IsRefusedAs, named_in, line_in, IsAdvertisedWithin}
use Rattle.gixp_records.specs.ListedLine.{listed_v1, listed_groups}
use Rattle.gixp_records.specs.RefsOpening.{IsOpening, IsNotOpened, advertised_lines}

-- the line at an offset, the stop, or the error
abbrev pub IsNextAdvertised : List ℕ → RefsOpening → ℕ → Result NextAdvertised AdvertisedRefused → Type 0
IsNextAdvertised bytes o at (Ok (Line l next)) = (text : List ℕ)
    × (advertised_lines bytes o at ≡ before (text ∷ []) (advertised_lines bytes o next))
    × (listed_v1 text ≡ Ok (line_in bytes l)) × IsAdvertisedWithin bytes l × IsAfterPacket bytes at next
IsNextAdvertised bytes o at (Ok (StopNext next)) = (kind : MessageKind)
    × (advertised_lines bytes o at ≡ no_lines (stop kind (pieces_at bytes next))) × IsAfterPacket bytes at next
IsNextAdvertised bytes o at (Err (Packet e)) = (advertised_lines bytes o at ≡ no_lines (refusal (refusal_in bytes e)))
    × AreWordsWithin bytes e
IsNextAdvertised bytes o at (Err (LineRefused e)) = (text : List ℕ) × (rest : Lines)
    × (advertised_lines bytes o at ≡ before (text ∷ []) rest) × IsRefusedAs (listed_v1 text) e
IsNextAdvertised bytes o at (Err _) = ⊥

-- the refs of these lines after a ref line whose peeled line may follow
abbrev pub refs_of_lines : List Symref → Option NamedLine → List ℕ → Lines → Result (List RefValue) RefsRefusal
refs_of_lines t last bytes l = listed_groups l.lines (end_refusal l.ending) t (option_map (named_in bytes) last)

-- the refs from an offset on, or the first error
abbrev pub refs_following : List ℕ → RefsOpening → List Symref → ℕ → Result (List RefValue) RefsRefusal
refs_following bytes o t at = refs_of_lines t None bytes (advertised_lines bytes o at)

-- the position of a reader: the refs from its offset on are those of the rest after the open ref line
pub record IsSymrefScope (bytes : List ℕ) (o : RefsOpening) (t : List Symref) (r : SymrefScope) : Type 0 where
  pub refs : refs_following bytes o t r.place ≡ refs_of_lines t r.last bytes (advertised_lines bytes o r.at)
  pub ending : (advertised_lines bytes o r.place).ending ≡ (advertised_lines bytes o r.at).ending
  pub last : IfSome r.last (λ n. IsWithin bytes n.name)
  pub place : o.first ≤ r.place
  pub in_order : r.place ≤ r.at
  pub within : r.at ≤ length bytes

-- the next line, and the offset after it
pub record IsNextLine (bytes : List ℕ) (o : RefsOpening) (t : List Symref) (r : SymrefScope) (l : AdvertisedLine) (next : ℕ) : Type 0 where
  pub scope : IsSymrefScope bytes o t r
  pub text : List ℕ
  pub lines : advertised_lines bytes o r.at ≡ before (text ∷ []) (advertised_lines bytes o next)
  pub value : listed_v1 text ≡ Ok (line_in bytes l)
  pub following : IsAfterPacket bytes r.at next

-- the error of reading refs from an offset on
abbrev pub IsRefusedAfter : List ℕ → RefsOpening → List Symref → ℕ → AdvertisedRefused → Type 0
IsRefusedAfter bytes o t at (Packet e) = (refs_following bytes o t at ≡ Err (refusal_from (refusal_in bytes e))) × AreWordsWithin bytes e
IsRefusedAfter bytes o t at (LineRefused e) = IsRefusedAs (refs_following bytes o t at) e
IsRefusedAfter bytes o t at _ = ⊥

-- the lines end with a stop, and this is the offset after it
abbrev pub StopsBefore : List ℕ → RefsOpening → ℕ → ℕ → Type 0
StopsBefore bytes o at next = (kind : MessageKind) × ((advertised_lines bytes o at).ending ≡ stop kind (pieces_at bytes next))
    × (next ≤ length bytes)

-- one more line was read: it completed no ref, or a ref, or it was the stop, possibly after one last ref
abbrev pub IsStep : List ℕ → RefsOpening → List Symref → SymrefScope → Result Scan AdvertisedRefused → Type 0
IsStep bytes o t old (Ok (On new)) = (refs_following bytes o t old.place ≡ refs_following bytes o t new.place)
    × ((advertised_lines bytes o old.place).ending ≡ (advertised_lines bytes o new.place).ending)
    × IsSymrefScope bytes o t new × (old.at < new.at)
IsStep bytes o t old (Ok (Record r new)) =
    (refs_following bytes o t old.place ≡ in_front (ref_in bytes r ∷ []) (refs_following bytes o t new.place))
    × ((advertised_lines bytes o old.place).ending ≡ (advertised_lines bytes o new.place).ending)
    × IsSymrefScope bytes o t new × IsRecordWithin bytes r × (old.at < new.at)
IsStep bytes o t old (Ok (Last r next)) = (refs_following bytes o t old.place ≡ Ok (ref_in bytes r ∷ []))
    × IsRecordWithin bytes r × StopsBefore bytes o old.place next
IsStep bytes o t old (Ok (StopStep next)) = (refs_following bytes o t old.place ≡ Ok []) × StopsBefore bytes o old.place next
IsStep bytes o t old (Err e) = IsRefusedAfter bytes o t old.place e

-- the end of a call that read these refs from an offset on
abbrev pub ReadsGroupsTo : List ℕ → RefsOpening → List Symref → ℕ → ℕ → List RefValue → AdvertisedEnd → Type 0
ReadsGroupsTo bytes o t from next values Full =
    (refs_following bytes o t from ≡ in_front values (refs_following bytes o t next)) × (next ≤ length bytes)
ReadsGroupsTo bytes o t from next values Stop = (refs_following bytes o t from ≡ Ok values) × StopsBefore bytes o from next
ReadsGroupsTo bytes o t from next values (Refused e) =
    (refs_following bytes o t from ≡ in_front values (refs_following bytes o t next)) × IsRefusedAfter bytes o t next e × (next ≤ length bytes)

-- the refs from an offset on are in the first records, and the other records are unchanged
pub record ReadsGroups (bytes : List ℕ) (o : RefsOpening) (t : List Symref) (from : ℕ) (old : List RefRecord) (found : AdvertisedFound)
    (new : List RefRecord) : Type 0 where
  pub room : found.count ≤ length new
  pub full : found.end ≡ Full → found.count ≡ length new
  pub rest : drop found.count new ≡ drop found.count old
  pub within : All (IsRecordWithin bytes) (take found.count new)
  pub ends : ReadsGroupsTo bytes o t from found.next (refs_in bytes (take found.count new)) found.end

-- nothing was read
abbrev pub ReadsNone : ℕ → AdvertisedRefused → List RefRecord → AdvertisedFound → List RefRecord → Type 0
ReadsNone from e old found new = (found ≡ record { count = 0; next = from; end = Refused e }) × (new ≡ old)

-- a call that reads refs of an advertisement from an offset on, but not before its first ref line; it reads the start of the
-- advertisement and the symrefs first
pub data ReadsAdvertised (bytes : List ℕ) (from : ℕ) (old : List RefRecord) (found : AdvertisedFound) (new : List RefRecord) : Type 0
  where
    unopened : (e : AdvertisedRefused) → IsNotOpened bytes (advertisement (pieces_at bytes 0)) e → ReadsNone from e old found new
        → ReadsAdvertised bytes from old found new
    empty : (version : Protocol) (kind : MessageKind)
        → advertisement (pieces_at bytes 0) ≡ Ok (empty_advertisement version kind (pieces_at bytes found.next))
        → found.next ≤ length bytes → found ≡ record { count = 0; next = found.next; end = Stop } → new ≡ old
        → ReadsAdvertised bytes from old found new
    no_memory : ReadsNone from Memory old found new → ReadsAdvertised bytes from old found new
    unnamed : (o : RefsOpening) → IsOpening bytes (advertisement (pieces_at bytes 0)) o → (e : AdvertisedLineRefused)
        → IsRefusedAs (symref_table (capabilities_of_words (text_at bytes o.capabilities))) e
        → ReadsNone from (LineRefused e) old found new → ReadsAdvertised bytes from old found new
    read : (o : RefsOpening) → IsOpening bytes (advertisement (pieces_at bytes 0)) o → (t : List Symref)
        → symref_table (capabilities_of_words (text_at bytes o.capabilities)) ≡ Ok t
        → ReadsGroups bytes o t (max from o.first) old found new → ReadsAdvertised bytes from old found new
