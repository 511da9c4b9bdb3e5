-- A line as git writes it has the ref that it was written for.
use Rattle.std.proofs.Common.{◌≡◌, ℕ, zero, suc, ◌+◌, ◌*◌, ◌/◌, ◌%◌, ◌<◌, ◌==◌, ◌&&◌, nat_le, nat_lt, Bool, true, false, cond, inl, inr, List, [], ◌∷◌, ◌++◌, length, take, drop, refl, sym, ap, subst, ◌∙◌, arith, Option, Some, None, Result, Ok, append_assoc, length-append, slice_index, unwrap_or}
use Rattle.std.specs.Prelude.{codes, position}
use Rattle.std.specs.List.{list_all, position_or_len}
use Rattle.std.specs.Char.{is_whitespace}
use Rattle.std.proofs.Math.ListN.{get_or}
use Rattle.std.proofs.Math.Seq.{take-append_seam, drop-append_seam}
use Rattle.std.proofs.lemmas.Bool.{and_parts, or_cases, cases_lt, eq-eqb, eqb-true, leb-true, lt-ltb, ltb-true, false_from_ne_true}
use Rattle.std.proofs.lemmas.List.{take-append-drop, drop-drop, drop_more}
use Rattle.std.proofs.lemmas.List.Quantifiers.{position-Some}
use Rattle.bstr.specs.Trim.{trim_end_by}
use Rattle.gixp_hash.specs.Hex.{hex_digit_value, lower_digits, encode_lower, encode_with, decode_pairs, pair_value}
use Rattle.gixp_hash.specs.ObjectId.{id_of}
use Rattle.gixp_hash.proofs.DigitLemmas.{pair_reads, decode_of-pairs}
use Rattle.gixp_capabilities.specs.Cut.{cut, parts_at}
use Rattle.gixp_capabilities.specs.Capabilities.{is_text}
use Rattle.gixp_refs.specs.Ref.{direct, peeled}
use Rattle.gixp_refs.specs.RefLine.{RefsRefusal, AttributeValues, read_id, and_then, with_peeled, attribute_of, no_attributes, attributes_in, attributes_of, value_of, first_piece, named, line_value, v2_line}
use Rattle.gixp_refs.specs.WrittenLine.{is_lower, is_written_id, IsWrittenLine}

-- ---- digits

-- the test of all numbers below this one
abbrev below : (ℕ → Bool) → ℕ → Bool
below p zero = true
below p (suc n) = p n && below p n

below-at : (p : ℕ → Bool) (n k : ℕ) → below p n ≡ true → k < n → p k ≡ true
below-at p zero k h lt = absurd (omega arith)
below-at p (suc n) k h lt =
    let parts = and_parts (p n) (below p n) h in
    elim (cases_lt k n) [
      | inl less ↦ below-at p n k parts.1 less
      | inr top ↦
          let e : k ≡ n = omega arith in
          rw e parts.0
    ]

-- a lower-case digit is the digit of its value
abbrev writes_back : ℕ → Bool
writes_back d = cond (is_lower d) (nat_lt (unwrap_or (hex_digit_value d) 99) 16
    && slice_index lower_digits (unwrap_or (hex_digit_value d) 99) == d) true

is_low : (d : ℕ) → is_lower d ≡ true → d < 103
is_low d h = elim (or_cases (nat_le 48 d && nat_le d 57) (nat_le 97 d && nat_le d 102) h) [
  | inl number ↦ let k = leb-true d 57 (and_parts (nat_le 48 d) (nat_le d 57) number).1 in omega arith
  | inr letter ↦ let k = leb-true d 102 (and_parts (nat_le 97 d) (nat_le d 102) letter).1 in omega arith
]

some_value : (o : Option ℕ) → unwrap_or o 99 < 16 → o ≡ Some (unwrap_or o 99)
some_value (Some v) h = refl
some_value None h = absurd (omega arith)

record Lower (d : ℕ) : Type 0 where
  value : ℕ
  reads : hex_digit_value d ≡ Some value
  fits : value < 16
  writes : slice_index lower_digits value ≡ d

lower_is : (d : ℕ) → is_lower d ≡ true → Lower d
lower_is d h =
    let v = unwrap_or (hex_digit_value d) 99 in
    let all : writes_back d ≡ true = below-at writes_back 103 d refl (is_low d h) in
    let both : (nat_lt v 16 && slice_index lower_digits v == d) ≡ true = rw h at all in
    let parts = and_parts (nat_lt v 16) (slice_index lower_digits v == d) both in
    let less = ltb-true v 16 parts.0 in
    record { value = v; reads = some_value (hex_digit_value d) less; fits = less; writes = eqb-true (slice_index lower_digits v) d parts.1 }

-- ---- ids

-- the bytes that have this text
record Written (at : ℕ) (text : List ℕ) : Type 0 where
  bytes : List ℕ
  reads : decode_pairs at text ≡ Ok bytes
  writes : encode_lower bytes ≡ text

pairs_written : (i : ℕ) (text : List ℕ) → list_all is_lower text ≡ true → length text % 2 ≡ 0 → Written i text
unfolding decode_pairs encode_with
pairs_written i [] h even = record { bytes = []; reads = refl; writes = refl }
pairs_written i (a ∷ []) h even = absurd (omega arith)
pairs_written i (a ∷ b ∷ rest) h even =
    let one = and_parts (is_lower a) (is_lower b && list_all is_lower rest) h in
    let two = and_parts (is_lower b) (list_all is_lower rest) one.1 in
    let x = lower_is a one.0 in
    let y = lower_is b two.0 in
    let more = pairs_written (i + 2) rest two.1 (omega arith) in
    let byte = x.value % 16 * 16 + y.value % 16 in
    let pair : pair_value a b i ≡ Ok byte = pair_reads a b i x.value y.value x.reads y.reads x.fits y.fits in
    let high : byte / 16 ≡ x.value = omega (arith, x.fits, y.fits) in
    let low : byte % 16 ≡ y.value = omega (arith, x.fits, y.fits) in
    record { bytes = byte ∷ more.bytes; reads = rw (pair, more.reads) refl; writes = rw (high, low, x.writes, y.writes, more.writes) refl }

-- the id that has this text
record WrittenId (text : List ℕ) : Type 0 where
  id : List ℕ
  reads : id_of text ≡ Some id
  writes : encode_lower id ≡ text

id_reads : (text bytes : List ℕ) → length text ≡ 40 → decode_pairs 0 text ≡ Ok bytes → id_of text ≡ Some bytes
id_reads text bytes n h = rw (eq-eqb (length text) 40 n, decode_of-pairs text n, h) refl

id_written : (text : List ℕ) → is_written_id text ≡ true → WrittenId text
id_written text h =
    let parts = and_parts (length text == 40) (list_all is_lower text) h in
    let n : length text ≡ 40 = eqb-true (length text) 40 parts.0 in
    let p = pairs_written 0 text parts.1 (rw n refl) in
    record { id = p.bytes; reads = id_reads text p.bytes n p.reads; writes = p.writes }

-- ---- splits at a byte

-- whether a byte is another one
abbrev other : ℕ → ℕ → Bool
other b x = cond (x == b) false true

other_is : (b x : ℕ) → other b x ≡ true → (x == b) ≡ false
other_is b x h = false_from_ne_true (x == b) (λ e. let k = rw e at h in cc)

-- the offset of a byte after others
place_after : (b : ℕ) (front rest : List ℕ) → list_all (other b) front ≡ true
    → position_or_len (λ x. x == b) (front ++ b ∷ rest) ≡ length front
place_after b [] rest h = rw (eq-eqb b b refl) refl
place_after b (x ∷ front) rest h =
    let parts = and_parts (other b x) (list_all (other b) front) h in
    rw (other_is b x parts.0, place_after b front rest parts.1) (omega arith)

-- a byte that doesn't occur
place_none : (b : ℕ) (text : List ℕ) → list_all (other b) text ≡ true → position_or_len (λ x. x == b) text ≡ length text
place_none b [] h = refl
place_none b (x ∷ text) h =
    let parts = and_parts (other b x) (list_all (other b) text) h in
    rw (other_is b x parts.0, place_none b text parts.1) (omega arith)

drop_after : (front : List ℕ) (b : ℕ) (rest : List ℕ) → drop (length front + 1) (front ++ b ∷ rest) ≡ rest
drop_after front b rest =
    sym (drop-drop 1 (length front) (front ++ b ∷ rest)) ∙ ap (drop 1) (drop-append_seam front (b ∷ rest))

-- a text is split at a byte after others
cut_after : (b : ℕ) (front rest : List ℕ) → list_all (other b) front ≡ true → cut b (front ++ b ∷ rest) ≡ (front, Some rest)
cut_after b front rest h =
    let text = front ++ b ∷ rest in
    let place = place_after b front rest h in
    let inside : nat_lt (length front) (length text) ≡ true =
    lt-ltb (length front) (length text) (let n = length-append front (b ∷ rest) in omega arith) in
    let at : position (λ x. x == b) text ≡ Some (length front) = rw (place, inside) refl in
    ap (parts_at text) at ∙ (rw (take-append_seam front (b ∷ rest), drop_after front b rest) refl)

-- a text without the byte isn't split
cut_none : (b : ℕ) (text : List ℕ) → list_all (other b) text ≡ true → cut b text ≡ (text, None)
cut_none b text h =
    let outside : nat_lt (length text) (length text) ≡ false =
    false_from_ne_true (nat_lt (length text) (length text)) (λ t. let k = ltb-true (length text) (length text) t in absurd (omega arith)) in
    let at : position (λ x. x == b) text ≡ None = rw (place_none b text h, outside) refl in
    ap (parts_at text) at

-- the parts of a split text make the text
whole_from_none : (b : ℕ) (text front : List ℕ) → cut b text ≡ (front, None) → text ≡ front
whole_from_none b text front h = at (position (λ x. x == b) text) h
  where
    at : (o : Option ℕ) → parts_at text o ≡ (front, None) → text ≡ front
    at None h = ap (λ (x : List ℕ × Option (List ℕ)). x.0) h
    at (Some i) h = absurd (let e = ap (λ (x : List ℕ × Option (List ℕ)). x.1) h in cc)

whole_from_some : (b : ℕ) (text front rest : List ℕ) → cut b text ≡ (front, Some rest) → text ≡ front ++ b ∷ rest
whole_from_some b text front rest h = at (position (λ x. x == b) text) refl h
  where
    at : (o : Option ℕ) → position (λ x. x == b) text ≡ o → parts_at text o ≡ (front, Some rest) → text ≡ front ++ b ∷ rest
    at None e h = absurd (let e = ap (λ (x : List ℕ × Option (List ℕ)). x.1) h in cc)
    at (Some i) e h =
        let found = position-Some (λ x. x == b) text i 0 e in
        let same : get_or text i 0 ≡ b = eqb-true (get_or text i 0) b found.1 in
        let before : take i text ≡ front = ap (λ (x : List ℕ × Option (List ℕ)). x.0) h in
        let after : drop (i + 1) text ≡ rest = ap (λ (x : List ℕ × Option (List ℕ)). unwrap_or x.1 []) h in
        sym (take-append-drop i text) ∙ (rw (drop_more text i 0 found.0, same, before, after) refl)

-- lower-case digits are not blanks
lower_other : (text : List ℕ) → list_all is_lower text ≡ true → list_all (other 32) text ≡ true
lower_other [] h = refl
lower_other (x ∷ text) h =
    let parts = and_parts (is_lower x) (list_all is_lower text) h in
    let no : (x == 32) ≡ false = false_from_ne_true (x == 32) (λ e.
    let k : x ≡ 32 = eqb-true x 32 e in
    let l : is_lower 32 ≡ true = subst (λ d. is_lower d ≡ true) k parts.0 in
    cc) in
    rw (no, lower_other text parts.1) refl

id_other : (id : List ℕ) → is_written_id id ≡ true → list_all (other 32) id ≡ true
id_other id h = lower_other id (and_parts (length id == 40) (list_all is_lower id) h).1

-- an id is not the word `unborn`
id_is_no_word : (id : List ℕ) → is_written_id id ≡ true → is_text id (codes "unborn") ≡ false
id_is_no_word [] h = refl
id_is_no_word (x ∷ id) h =
    let parts = and_parts (is_lower x) (list_all is_lower id) (and_parts (length (x ∷ id) == 40) (list_all is_lower (x ∷ id)) h).1 in
    let no : (x == 117) ≡ false = false_from_ne_true (x == 117) (λ e.
    let k : x ≡ 117 = eqb-true x 117 e in
    let l : is_lower 117 ≡ true = subst (λ d. is_lower d ≡ true) k parts.0 in
    cc) in
    rw no refl

-- ---- lines

first_written : (id : List ℕ) (h : is_written_id id ≡ true) → first_piece id ≡ Ok (Some (id_written id h).id)
first_written id h = rw (id_is_no_word id h, (id_written id h).reads) refl

-- a line after an id and a blank
following_id : (line text id rest : List ℕ) (h : is_written_id id ≡ true) → text ≡ trim_end_by is_whitespace line → text ≡ id ++ 32 ∷ rest
    → v2_line line ≡ named text (Some (id_written id h).id) (cut 32 rest)
following_id line text id rest h trim split =
    let parts : cut 32 text ≡ (id, Some rest) = ap (cut 32) split ∙ cut_after 32 id rest (id_other id h) in
    ap (λ t. line_value t (cut 32 t)) (sym trim) ∙ ap (line_value text) parts
    ∙ ap (λ o. and_then o (λ object. named text object (cut 32 rest))) (first_written id h)

named_direct : (text name id : List ℕ) → (length name ≡ 0 → ⊥) → named text (Some id) (name, None) ≡ Ok (direct name id)
named_direct text [] id some = absurd (some refl)
named_direct text (x ∷ name) id some = refl

named_peeled : (text name id object attribute : List ℕ) → (length name ≡ 0 → ⊥)
    → attributes_of text (Some attribute) ≡ Ok (with_peeled no_attributes object)
    → named text (Some id) (name, Some attribute) ≡ Ok (peeled name id object)
named_peeled text [] id object attribute some h = absurd (some refl)
named_peeled text (x ∷ name) id object attribute some h =
    ap (λ (o : Result AttributeValues RefsRefusal). and_then o (value_of (Some id) (x ∷ name))) h

-- the value of an attribute `peeled`
peeled_value : (text id : List ℕ) (h : is_written_id id ≡ true)
    → attribute_of text (codes "peeled", Some id) no_attributes ≡ Ok (with_peeled no_attributes (id_written id h).id)
peeled_value text [] h = absurd (let k = eqb-true 0 40 (and_parts (0 == 40) (list_all is_lower []) h).0 in omega arith)
peeled_value text (x ∷ id) h =
    let read = (id_written (x ∷ id) h).reads in
    ap (λ (o : Option (List ℕ)). and_then (read_id (x ∷ id) o) (λ bytes. Ok (with_peeled no_attributes bytes))) read

peeled_attribute : (text attribute id : List ℕ) (h : is_written_id id ≡ true) → attribute ≡ codes "peeled:" ++ id
    → attributes_of text (Some attribute) ≡ Ok (with_peeled no_attributes (id_written id h).id)
peeled_attribute text attribute id h split =
    let whole : cut 32 attribute ≡ (attribute, None) = cut_none 32 attribute (ap (list_all (other 32)) split ∙ id_other id h) in
    let parts : cut 58 attribute ≡ (codes "peeled", Some id) = ap (cut 58) split ∙ cut_after 58 (codes "peeled") id refl in
    ap (attributes_in text) whole ∙ ap (λ (x : List ℕ × Option (List ℕ)). attribute_of text x no_attributes) parts
    ∙ peeled_value text id h

-- a line with an id and a name
pub direct_written : (line text id rest name : List ℕ) → text ≡ trim_end_by is_whitespace line → is_written_id id ≡ true
    → text ≡ id ++ 32 ∷ rest → cut 32 rest ≡ (name, None) → (length name ≡ 0 → ⊥)
    → IsWrittenLine line text
direct_written line text id rest name trim h split c some =
    let w = id_written id h in
    let name_is : rest ≡ name = whole_from_none 32 rest name c in
    let all : text ≡ id ++ 32 ∷ name = split ∙ ap (λ t. id ++ 32 ∷ t) name_is in (
      direct name w.id,
      following_id line text id rest h trim split ∙ ap (named text (Some w.id)) c ∙ named_direct text name w.id some,
      ap (λ t. t ++ 32 ∷ (name ++ codes "\n")) w.writes ∙ sym (append_assoc id (32 ∷ name) (codes "\n"))
          ∙ ap (λ t. t ++ codes "\n") (sym all),
    )

-- a line with a peeled value
pub peeled_written : (line text id rest name attribute object : List ℕ) → text ≡ trim_end_by is_whitespace line → is_written_id id ≡ true
    → text ≡ id ++ 32 ∷ rest → cut 32 rest ≡ (name, Some attribute) → (length name ≡ 0 → ⊥) → is_written_id object ≡ true
    → attribute ≡ codes "peeled:" ++ object → IsWrittenLine line text
peeled_written line text id rest name attribute object trim h split c some ho target_named =
    let w = id_written id h in
    let o = id_written object ho in
    let following : rest ≡ name ++ 32 ∷ (codes "peeled:" ++ object) =
    whole_from_some 32 rest name attribute c ∙ ap (λ t. name ++ 32 ∷ t) target_named in
    let all : text ≡ id ++ 32 ∷ (name ++ 32 ∷ (codes "peeled:" ++ object)) = split ∙ ap (λ t. id ++ 32 ∷ t) following in (
      peeled name w.id o.id,
      following_id line text id rest h trim split ∙ ap (named text (Some w.id)) c
          ∙ named_peeled text name w.id o.id attribute some (peeled_attribute text attribute object ho target_named),
      ap (λ t. t ++ 32 ∷ (name ++ (codes " peeled:" ++ (encode_lower o.id ++ codes "\n")))) w.writes
          ∙ ap (λ t. id ++ 32 ∷ (name ++ (codes " peeled:" ++ (t ++ codes "\n")))) o.writes
          ∙ sym (append_assoc id (32 ∷ (name ++ 32 ∷ (codes "peeled:" ++ object))) (codes "\n")
          ∙ ap (λ t. id ++ 32 ∷ t) (append_assoc name (32 ∷ (codes "peeled:" ++ object)) (codes "\n")))
          ∙ ap (λ t. t ++ codes "\n") (sym all),
    )
