-- The refs read so far.
use Rattle.std.proofs.Common.{◌≡◌, ℕ, ◌≤◌, false, List, [], ◌∷◌, ◌++◌, length, take, drop, refl, sym, ap, ◌∙◌, arith, append_assoc, Ok}
use Rattle.std.specs.Prelude.{All}
use Rattle.std.proofs.lemmas.List.{append-nil}
use Rattle.gixp_packetline.specs.declared.protocol.MessageKind.{MessageKind}
use Rattle.gixp_packetline.specs.Pieces.{Pieces}
use Rattle.gixp_packetline.specs.Lines.{stop, Lines, no_lines, before}
use Rattle.gixp_refs.specs.Ref.{RefValue}
use Rattle.gixp_refs.specs.RefLine.{v2_line}
use Rattle.gixp_refs.specs.Refs.{AreRefs, refs_from, v2_refs, stream_refs}
use Rattle.gixp_records.specs.declared.refs.RefRecord.{RefRecord}
use Rattle.gixp_records.specs.declared.refs.RefsRefused.{RefsRefused}
use Rattle.gixp_records.specs.declared.refs.RefsEnd.TheVariants.{Full, Stop, Refused}
use Rattle.std.proofs.lemmas.List.Elements.{All-nil, All-push}
use Rattle.gixp_records.specs.ListedLine.{loses_white_space, listed_v2}
use Rattle.gixp_records.proofs.ListedLineLemmas.{v2_listed-ok}
use Rattle.gixp_records.specs.Refs.{refs_in, lines_at, IsRecordWithin, IsRefusedAt, AreLinesTo, ReadsRecords}
use Rattle.gixp_records.specs.Packets.{pieces_at, IsAfterPacket}

pub refs_more : (texts : List (List ℕ)) (values : List RefValue) (text : List ℕ) (value : RefValue) → AreRefs texts values
    → v2_line text ≡ Ok value → AreRefs (texts ++ text ∷ []) (values ++ value ∷ [])
refs_more [] [] text value h e = (e, tt)
refs_more [] (v ∷ vs) text value h e = absurd h
refs_more (t ∷ ts) [] text value h e = absurd h
refs_more (t ∷ ts) (v ∷ vs) text value h e = (h.0, refs_more ts vs text value h.1 e)

before-append : (xs ys : List (List ℕ)) (rest : Lines) → before (xs ++ ys) rest ≡ before xs (before ys rest)
before-append xs ys rest = ap (λ l. record { lines = l; ending = rest.ending }) (append_assoc xs ys rest.lines)

pub lines_none : (bytes : List ℕ) (from : ℕ) → from ≤ length bytes → AreLinesTo bytes from from []
lines_none bytes from h = record { texts = []; lines = refl; refs = tt; lossless = All-nil (λ (text : List ℕ). loses_white_space text ≡ false); in_order = omega arith; within = h }

pub lines_more : (bytes : List ℕ) (from at next : ℕ) (values : List RefValue) (text : List ℕ) (value : RefValue)
    → AreLinesTo bytes from at values → lines_at bytes at ≡ before (text ∷ []) (lines_at bytes next) → listed_v2 text ≡ Ok value
    → IsAfterPacket bytes at next → AreLinesTo bytes from next (values ++ value ∷ [])
lines_more bytes from at next values text value so e v b =
    let after = b.0 in
    let inside = b.1 in
    let order = so.in_order in
    let read = v2_listed-ok text value v in
    record {
      texts = so.texts ++ text ∷ [];
      lines = so.lines ∙ ap (before so.texts) e ∙ sym (before-append so.texts (text ∷ []) (lines_at bytes next));
      refs = refs_more so.texts values text value so.refs read.0;
      lossless = All-push (λ (t : List ℕ). loses_white_space t ≡ false) so.texts text so.lossless read.1;
      in_order = omega arith;
      within = inside;
    }

values_of : (texts : List (List ℕ)) (values : List RefValue) (kind : MessageKind) (rest : Pieces) → AreRefs texts values
    → refs_from texts (stop kind rest) ≡ Ok values
values_of [] [] kind rest h = refl
values_of [] (v ∷ vs) kind rest h = absurd h
values_of (t ∷ ts) [] kind rest h = absurd h
values_of (t ∷ ts) (v ∷ vs) kind rest h = rw (h.0, values_of ts vs kind rest h.1) refl

-- the refs are complete at the stop
pub refs_stopped : (bytes : List ℕ) (from at next : ℕ) (values : List RefValue) (kind : MessageKind) → AreLinesTo bytes from at values
    → lines_at bytes at ≡ no_lines (stop kind (pieces_at bytes next)) → stream_refs (drop from bytes) ≡ Ok values
refs_stopped bytes from at next values kind so e =
    ap v2_refs (so.lines ∙ ap (before so.texts) e)
    ∙ ap (λ l. refs_from l (stop kind (pieces_at bytes next))) (append-nil so.texts)
    ∙ values_of so.texts values kind (pieces_at bytes next) so.refs

-- a call that read the stop
pub reads_stop : (bytes : List ℕ) (from at next count : ℕ) (old new : List RefRecord) (kind : MessageKind) → count ≤ length new
    → drop count new ≡ drop count old → All (IsRecordWithin bytes) (take count new)
    → AreLinesTo bytes from at (refs_in bytes (take count new)) → lines_at bytes at ≡ no_lines (stop kind (pieces_at bytes next))
    → IsAfterPacket bytes at next → ReadsRecords bytes from old (record { count = count; next = next; end = Stop }) new
reads_stop bytes from at next count old new kind room rest within so e b = record {
  room = room;
  full = λ f. absurd cc;
  rest = rest;
  within = within;
  ends = (refs_stopped bytes from at next (refs_in bytes (take count new)) kind so e, kind, at, so, e, b);
}

pub reads_refused : (bytes : List ℕ) (from at count : ℕ) (old new : List RefRecord) (e : RefsRefused) → count ≤ length new
    → drop count new ≡ drop count old → All (IsRecordWithin bytes) (take count new)
    → AreLinesTo bytes from at (refs_in bytes (take count new)) → IsRefusedAt bytes at e
    → ReadsRecords bytes from old (record { count = count; next = at; end = Refused e }) new
reads_refused bytes from at count old new e room rest within so r = record {
  room = room;
  full = λ f. absurd cc;
  rest = rest;
  within = within;
  ends = (so, r);
}

pub reads_full : (bytes : List ℕ) (from at count : ℕ) (old new : List RefRecord) → count ≡ length new
    → drop count new ≡ drop count old → All (IsRecordWithin bytes) (take count new)
    → AreLinesTo bytes from at (refs_in bytes (take count new))
    → ReadsRecords bytes from old (record { count = count; next = at; end = Full }) new
reads_full bytes from at count old new room rest within so = record {
  room = omega arith;
  full = λ f. room;
  rest = rest;
  within = within;
  ends = so;
}
