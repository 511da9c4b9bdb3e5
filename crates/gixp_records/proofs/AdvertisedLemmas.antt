-- The lines of an advertisement in sequence, and their refs.
use Rattle.std.proofs.Common.{◌≡◌, ℕ, ◌+◌, ◌<◌, ◌≤◌, Bool, true, false, min, List, [], ◌∷◌, ◌++◌, length, take, drop, refl, sym, ap, ◌∙◌, arith, append_assoc, Option, Some, None, Result, Ok, Err}
use Rattle.std.specs.Prelude.{◌==◌, All, is_some, map}
use Rattle.std.specs.Option.{option_map}
use Rattle.std.proofs.lemmas.Bool.{eqb-true, false_from_ne_true}
use Rattle.std.proofs.lemmas.List.{take-take, take_min}
use Rattle.gixp_packetline.specs.Pieces.{line, with_piece}
use Rattle.gixp_packetline.specs.Lines.{Ending, Lines, lines_of, no_lines, before}
use Rattle.gixp_refs.specs.Ref.{RefValue}
use Rattle.gixp_refs.specs.RefLine.{RefsRefusal}
use Rattle.gixp_refs.specs.Refs.{with_ref}
use Rattle.gixp_refs.specs.RefAdvertisement.{Symref, V1Line, peels, names, NamedRef, pair, single, in_front, group_with, end_refusal, symref_named, pair_by, not_preceded, other_base}
use Rattle.gixp_capabilities.specs.Capabilities.{is_text}
use Rattle.gixp_records.specs.declared.advertised.ref_line.NamedLine.{NamedLine}
use Rattle.gixp_records.specs.declared.advertised.opening.RefsOpening.{RefsOpening}
use Rattle.gixp_records.specs.declared.advertised.refused.AdvertisedLineRefused.{AdvertisedLineRefused}
use Rattle.gixp_records.specs.declared.advertised.refused.AdvertisedLineRefused.TheVariants.{Peeled}
use Rattle.gixp_records.specs.declared.advertised.symrefs.SymrefSpan.{SymrefSpan}
use Rattle.gixp_records.specs.declared.advertised.AdvertisedEnd.TheVariants.{Stop}
use Rattle.gixp_records.specs.declared.refs.RefRecord.{RefRecord}
use Rattle.gixp_records.specs.declared.span.Span.{Span}
use Rattle.gixp_records.specs.Span.{text_at, IsWithin}
use Rattle.gixp_records.specs.Packets.{pieces_at}
use Rattle.gixp_records.specs.V1RecordLine.{IsRefusedAs, named_in, symref_at}
use Rattle.gixp_records.specs.ListedLine.{listed_v1, listed_groups}
use Rattle.gixp_records.specs.RefsOpening.{cut_lines, cut_span, advertised_lines}
use Rattle.gixp_records.specs.AdvertisedRecords.{refs_of_lines, refs_following, StopsBefore, ReadsGroups}
use Rattle.gixp_records.specs.Refs.{ref_in, refs_in, IsRecordWithin}
use Rattle.std.specs.Prelude.{slice_set}
use Rattle.std.proofs.lemmas.List.{take_more_set, drop-set-lt, drop-drop, map_push}
use Rattle.std.proofs.lemmas.List.Elements.{All-push, All-same}
use Rattle.gixp_records.proofs.SpanLemmas.{length-text_at}

-- the text of a line; the first ref line is cut
abbrev pub shown_text : Bool → ℕ → List ℕ → List ℕ
shown_text true n text = take n text
shown_text false n text = text

pub shown_at : (b : Bool) (n : ℕ) (bytes : List ℕ) (s : Span) → IsWithin bytes s
    → text_at bytes (cut_span b n s) ≡ shown_text b n (text_at bytes s)
shown_at false n bytes s h = refl
shown_at true n bytes s h =
    let size = length-text_at bytes s.at s.len h in
    let less : min n s.len ≤ s.len = omega arith in
    sym (take-take (min n s.len) s.len (drop s.at bytes) less)
    ∙ ap (λ k. take (min n k) (take s.len (drop s.at bytes))) (sym size) ∙ take_min n (take s.len (drop s.at bytes))

pub shown_within : (b : Bool) (n : ℕ) (bytes : List ℕ) (s : Span) → IsWithin bytes s → IsWithin bytes (cut_span b n s)
shown_within false n bytes s h = h
shown_within true n bytes s h = omega arith

lines_cut : (b : Bool) (n : ℕ) (text : List ℕ) (l : Lines) → cut_lines b n (before (text ∷ []) l) ≡ before (shown_text b n text ∷ []) l
lines_cut true n text l = refl
lines_cut false n text l = refl

none_cut : (b : Bool) (n : ℕ) (e : Ending) → cut_lines b n (no_lines e) ≡ no_lines e
none_cut true n e = refl
none_cut false n e = refl

-- after the first ref line no line is cut
later_uncut : (n first next : ℕ) (l : Lines) → first < next → cut_lines (next == first) n l ≡ l
later_uncut n first next l h =
    let other : (next == first) ≡ false = false_from_ne_true _ (λ t. let e = eqb-true next first t in absurd (omega arith)) in
    rw other refl

-- the next line exists
pub line_comes : (bytes : List ℕ) (o : RefsOpening) (at next : ℕ) (text : List ℕ) → o.first ≤ at → at < next
    → pieces_at bytes at ≡ with_piece (line text) (pieces_at bytes next)
    → advertised_lines bytes o at ≡ before (shown_text (at == o.first) o.cut text ∷ []) (advertised_lines bytes o next)
line_comes bytes o at next text f b e =
    let rest : Lines = lines_of o.version (pieces_at bytes next) in
    let after : o.first < next = omega arith in
    ap (λ p. cut_lines (at == o.first) o.cut (lines_of o.version p)) e ∙ lines_cut (at == o.first) o.cut text rest
    ∙ ap (before (shown_text (at == o.first) o.cut text ∷ [])) (sym (later_uncut o.cut o.first next rest after))

-- there is no next line
pub none_comes : (bytes : List ℕ) (o : RefsOpening) (at : ℕ) (e : Ending) → lines_of o.version (pieces_at bytes at) ≡ no_lines e
    → advertised_lines bytes o at ≡ no_lines e
none_comes bytes o at e h = ap (cut_lines (at == o.first) o.cut) h ∙ none_cut (at == o.first) o.cut e

-- the refs of the rest, after this ref line
abbrev pub refs_after : List ℕ → RefsOpening → List Symref → ℕ → Option NamedRef → Result (List RefValue) RefsRefusal
refs_after bytes o t next last = let l = advertised_lines bytes o next in listed_groups l.lines (end_refusal l.ending) t last

pub one_more : (bytes : List ℕ) (o : RefsOpening) (t : List Symref) (at next : ℕ) (last : Option NamedLine) (text : List ℕ)
    (l : Result V1Line RefsRefusal) → advertised_lines bytes o at ≡ before (text ∷ []) (advertised_lines bytes o next) → listed_v1 text ≡ l
    → refs_of_lines t last bytes (advertised_lines bytes o at)
    ≡ group_with t (option_map (named_in bytes) last) l (refs_after bytes o t next)
one_more bytes o t at next last text l e v =
    ap (refs_of_lines t last bytes) e
    ∙ ap (λ x. group_with t (option_map (named_in bytes) last) x (refs_after bytes o t next)) v

pub front_none : (x : Result (List RefValue) RefsRefusal) → in_front [] x ≡ x
front_none (Ok ys) = refl
front_none (Err e) = refl

pub front_one : (v : RefValue) (x : Result (List RefValue) RefsRefusal) → with_ref (Ok v) x ≡ in_front (v ∷ []) x
front_one v (Ok ys) = refl
front_one v (Err e) = refl

pub front_more : (xs : List RefValue) (v : RefValue) (x : Result (List RefValue) RefsRefusal)
    → in_front xs (in_front (v ∷ []) x) ≡ in_front (xs ++ v ∷ []) x
front_more xs v (Ok ys) = ap Ok (sym (append_assoc xs (v ∷ []) ys))
front_more xs v (Err e) = refl

-- a line that completes no ref and leaves the same ref line open
pub passed : (bytes : List ℕ) (o : RefsOpening) (t : List Symref) (at next : ℕ) (last : Option NamedLine) (text : List ℕ) (l : V1Line)
    → advertised_lines bytes o at ≡ before (text ∷ []) (advertised_lines bytes o next) → listed_v1 text ≡ Ok l
    → group_with t (option_map (named_in bytes) last) (Ok l) (refs_after bytes o t next)
    ≡ refs_after bytes o t next (option_map (named_in bytes) last)
    → refs_of_lines t last bytes (advertised_lines bytes o at) ≡ refs_of_lines t last bytes (advertised_lines bytes o next)
passed bytes o t at next last text l e v g = one_more bytes o t at next last text (Ok l) e v ∙ g

-- a ref line without an open one before it is open
pub opened : (bytes : List ℕ) (o : RefsOpening) (t : List Symref) (at next : ℕ) (n : NamedLine) (text : List ℕ)
    → advertised_lines bytes o at ≡ before (text ∷ []) (advertised_lines bytes o next)
    → listed_v1 text ≡ Ok (names n.object.bytes (text_at bytes n.name))
    → refs_following bytes o t at ≡ refs_of_lines t (Some n) bytes (advertised_lines bytes o next)
opened bytes o t at next n text e v =
    one_more bytes o t at next None text (Ok (names n.object.bytes (text_at bytes n.name))) e v
    ∙ front_none (refs_after bytes o t next (Some (named_in bytes n)))

-- a ref line after an open one
pub closes : (bytes : List ℕ) (o : RefsOpening) (t : List Symref) (at next : ℕ) (b n : NamedLine) (text : List ℕ)
    → advertised_lines bytes o at ≡ before (text ∷ []) (advertised_lines bytes o next)
    → listed_v1 text ≡ Ok (names n.object.bytes (text_at bytes n.name))
    → refs_of_lines t (Some b) bytes (advertised_lines bytes o at)
    ≡ in_front (single t (named_in bytes b) ∷ []) (refs_following bytes o t at)
closes bytes o t at next b n text e v =
    one_more bytes o t at next (Some b) text (Ok (names n.object.bytes (text_at bytes n.name))) e v
    ∙ ap (in_front (single t (named_in bytes b) ∷ [])) (sym (opened bytes o t at next n text e v))

-- a peeled line after an open ref line
pub pairs : (bytes : List ℕ) (o : RefsOpening) (t : List Symref) (at next : ℕ) (b : NamedLine) (left base text : List ℕ) (v : RefValue)
    → advertised_lines bytes o at ≡ before (text ∷ []) (advertised_lines bytes o next) → listed_v1 text ≡ Ok (peels left base)
    → pair t (Some (named_in bytes b)) left base ≡ Ok v
    → refs_of_lines t (Some b) bytes (advertised_lines bytes o at) ≡ in_front (v ∷ []) (refs_following bytes o t next)
pairs bytes o t at next b left base text v e l p =
    one_more bytes o t at next (Some b) text (Ok (peels left base)) e l
    ∙ ap (λ x. with_ref x (refs_after bytes o t next None)) p ∙ front_one v (refs_after bytes o t next None)

-- a peeled line with an error
pub unpaired : (bytes : List ℕ) (o : RefsOpening) (t : List Symref) (at next : ℕ) (last : Option NamedLine) (left base text : List ℕ)
    (e : AdvertisedLineRefused) → advertised_lines bytes o at ≡ before (text ∷ []) (advertised_lines bytes o next)
    → listed_v1 text ≡ Ok (peels left base) → IsRefusedAs (pair t (option_map (named_in bytes) last) left base) e
    → IsRefusedAs (refs_of_lines t last bytes (advertised_lines bytes o at)) e
unpaired bytes o t at next last left base text e h l j = (
  j.0,
  one_more bytes o t at next last text (Ok (peels left base)) h l ∙ ap (λ x. with_ref x (refs_after bytes o t next None)) j.1,
  j.2,
)

-- a line with an error
pub refused_line : (bytes : List ℕ) (o : RefsOpening) (t : List Symref) (at : ℕ) (last : Option NamedLine) (text : List ℕ) (rest : Lines)
    (e : AdvertisedLineRefused) → advertised_lines bytes o at ≡ before (text ∷ []) rest → IsRefusedAs (listed_v1 text) e
    → IsRefusedAs (refs_of_lines t last bytes (advertised_lines bytes o at)) e
refused_line bytes o t at last text rest e h j = (
  j.0,
  ap (refs_of_lines t last bytes) h
      ∙ ap (λ x. group_with t (option_map (named_in bytes) last) x (λ now. listed_groups rest.lines (end_refusal rest.ending) t now)) j.1,
  j.2,
)

-- a symref of another name is skipped
pub symref_passed : (bytes : List ℕ) (s : SymrefSpan) (tail rest : List SymrefSpan) (name : List ℕ) (all : Option Symref)
    → rest ≡ s ∷ tail → all ≡ symref_named (map (symref_at bytes) rest) name → is_text (text_at bytes s.name) name ≡ false
    → all ≡ symref_named (map (symref_at bytes) tail) name
symref_passed bytes s tail rest name all e h f = h ∙ ap (λ r. symref_named (map (symref_at bytes) r) name) e ∙ (rw f refl)

-- a peeled line after the ref line of a symref
pub pair_of_symref : (bytes : List ℕ) (o : Option SymrefSpan) (p : Option Symref) (n : NamedRef) (left base : List ℕ)
    → option_map (symref_at bytes) o ≡ p → is_some o ≡ true → IsRefusedAs (pair_by p n left base) Peeled
pair_of_symref bytes None p n left base e h = absurd cc
pair_of_symref bytes (Some s) p n left base e h = (not_preceded, ap (λ q. pair_by q n left base) (sym e), refl)

-- a peeled line of another name
pub pair_of_other : (bytes : List ℕ) (o : Option SymrefSpan) (p : Option Symref) (n : NamedRef) (left base : List ℕ)
    → option_map (symref_at bytes) o ≡ p → is_some o ≡ false → is_text n.name base ≡ false → IsRefusedAs (pair_by p n left base) Peeled
pair_of_other bytes (Some s) p n left base e h f = absurd cc
pair_of_other bytes None p n left base e h f = (other_base, ap (λ q. pair_by q n left base) (sym e) ∙ (rw f refl), refl)

pub reads_last : (bytes : List ℕ) (o : RefsOpening) (t : List Symref) (from place next count : ℕ) (old now : List RefRecord) (r : RefRecord)
    → count < length now → drop count now ≡ drop count old → All (IsRecordWithin bytes) (take count now)
    → refs_following bytes o t from ≡ in_front (refs_in bytes (take count now)) (refs_following bytes o t place)
    → (advertised_lines bytes o from).ending ≡ (advertised_lines bytes o place).ending
    → refs_following bytes o t place ≡ Ok (ref_in bytes r ∷ []) → IsRecordWithin bytes r → StopsBefore bytes o place next
    → length (slice_set now count r) ≡ length now
    → ReadsGroups bytes o t from old (record { count = count + 1; next = next; end = Stop }) (slice_set now count r)
reads_last bytes o t from place next count old now r under rest within so ending last here follows_stop size =
    let first : take (count + 1) (slice_set now count r) ≡ take count now ++ r ∷ [] = take_more_set now count r under in
    let values = ap (refs_in bytes) first ∙ map_push (ref_in bytes) (take count now) r in
    let step : count < count + 1 = omega arith in
    let following : drop (count + 1) (slice_set now count r) ≡ drop (count + 1) now = drop-set-lt (count + 1) now count r step in
    record {
      room = omega (arith, size);
      full = λ f. absurd cc;
      rest = following ∙ sym (drop-drop 1 count now) ∙ ap (drop 1) rest ∙ drop-drop 1 count old;
      within = All-same (IsRecordWithin bytes) _ _ first (All-push (IsRecordWithin bytes) (take count now) r within here);
      ends = (
        so ∙ ap (in_front (refs_in bytes (take count now))) last ∙ ap Ok (sym values),
        (follows_stop.0, ending ∙ follows_stop.1, follows_stop.2),
      );
    }
