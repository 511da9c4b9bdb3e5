-- What is passed on for whole packet lines, for a pack, and for other bytes after them.
use Rattle.std.proofs.Common.{◌≡◌, ℕ, suc, ◌+◌, ◌-◌, ◌/◌, ◌%◌, ◌<◌, ◌≤◌, inl, inr, zero, nat_lt, Bool, true, false, if◌then◌else◌, List, [], ◌∷◌, ◌++◌, length, take, drop, Option, Some, None, refl, ap, sym, subst, ◌∙◌, arith, rules, append_assoc, append-nil, length-append}
use Rattle.std.specs.Prelude.{codes}
use Rattle.std.proofs.lemmas.List.{take-append-drop, drop_at, length-take-le}
use Rattle.std.proofs.lemmas.Bool.{cases_lt, false_from_ne_true}
use Rattle.std.proofs.lemmas.Slice.Eq.{bytes_eq-Decides}
use Rattle.hex.specs.Hex.{lower_digits, decode_pairs, IsBytes}
use Rattle.hex.proofs.HexLemmas.{length-encode_with, decode_sized-encode_lower}
use Rattle.gixp_packetline.specs.declared.packet.PacketError.TheVariants.{HexDecode, DataLengthLimitExceeded, DataIsEmpty, InvalidLineLength}
use Rattle.gixp_packetline.specs.declared.protocol.MessageKind.TheVariants.{Flush, Delimiter, ResponseEnd, Text}
use Rattle.gixp_packetline.specs.Frames.{pair_number, size_of, Frame, payload, special, End, ended, bad}
use Rattle.gixp_packetline.specs.FrameText.{digits_of}
use Rattle.gixp_packetline.specs.Grammar.{Counts, IsFrame, IsEnd, AreFrames}
use Rattle.gixp_plain_responses.specs.declared.place.Wanted.TheVariants.{Digits, Line, Content}
use Rattle.gixp_plain_responses.specs.declared.place.Next.TheVariants.{Hold, Payload, Rest}
use Rattle.gixp_plain_responses.specs.Acknowledgement.{is_continue, common_line, common_text, detailed}
use Rattle.gixp_plain_responses.specs.Band.{band_payload, band_text, last_text, IsBanded}
use Rattle.gixp_plain_responses.specs.Detailed.{BeginWith, detailed_frames}
use Rattle.gixp_plain_responses.specs.Translation.{begins_pack, is_line_size, next_by, next_of, given, translated}
use Rattle.gixp_plain_responses.proofs.AcknowledgementLemmas.{continue_length, continue_long}
use Rattle.gixp_plain_responses.proofs.GivenLemmas.{not_less, payload_front, payload_part, payload_over, pack_front, pack_over, held_part, held_whole}
use Rattle.gixp_plain_responses.proofs.RoomLemmas.{take_front}

-- four bytes in place of digits, and the bytes after them
after_digits : (digits more : List ℕ) → length digits ≡ 4 → translated (digits ++ more) ≡ given (next_of digits) digits more
after_digits digits more four = held_whole Digits [] digits more (omega (arith, four)) (omega arith)

no_size : size_of (codes "PACK") ≡ None
unfolding decode_pairs
no_size = refl

-- four digits are no pack
not_pack : (digits : List ℕ) (n : ℕ) → size_of digits ≡ Some n → begins_pack digits ≡ false
not_pack digits n c = false_from_ne_true (begins_pack digits) (λ e.
    let same = (bytes_eq-Decides digits (codes "PACK")).0 e in
    let none : Some n ≡ None = sym c ∙ ap size_of same ∙ no_size in cc)

next_is : (digits : List ℕ) (n : ℕ) → size_of digits ≡ Some n → next_of digits ≡ next_by (Some n)
next_is digits n c = let t = not_pack digits n c in rw t (ap next_by c)

counted : (digits more : List ℕ) (n : ℕ) → Counts digits n → translated (digits ++ more) ≡ given (next_by (Some n)) digits more
counted digits more n c = after_digits digits more c.0 ∙ ap (λ next. given next digits more) (next_is digits n c.1)

-- a text before a packet line
before_line : (text rest : List ℕ) → given (Payload 0) text rest ≡ text ++ translated rest
before_line text rest = payload_front 0 text rest ∙ ap (λ xs. text ++ xs) (payload_over rest)

-- the digits of a flush, delimiter or response-end packet
special_front : (k : ℕ) (text rest : List ℕ) → Counts text k → nat_lt k 3 ≡ true → translated (text ++ rest) ≡ text ++ translated rest
special_front k text rest c small = counted text rest k c ∙ rw small (before_line text rest)

-- the digits of a line
line_next : (n : ℕ) → 4 < n → n ≤ 65520 → next_by (Some n) ≡ (if is_line_size n then Hold (Line n) else Payload (n - 4))
line_next n some fits =
    let a : nat_lt n 3 ≡ false = not_less n 3 (omega arith) in
    let b : nat_lt n 5 ≡ false = not_less n 5 (omega arith) in
    let c : nat_lt 65520 n ≡ false = not_less 65520 n fits in
    rw (a, b, c) refl

-- the text of a line that is passed on
abbrev new_text : List ℕ → List ℕ → List ℕ
new_text digits p = if is_continue p then common_text (take 44 p) else digits ++ p

other_size : (p : List ℕ) → is_line_size (4 + length p) ≡ false → is_continue p ≡ false
other_size p other = false_from_ne_true (is_continue p) (λ h. elim (continue_length p h) [
  | inl e ↦ let t : is_line_size (4 + length p) ≡ true = rw e refl in cc
  | inr e ↦ let t : is_line_size (4 + length p) ≡ true = rw e refl in cc
])

line_by : (b : Bool) (digits p rest : List ℕ) → length digits ≡ 4 → 0 < length p → is_line_size (4 + length p) ≡ b
    → given (if b then Hold (Line (4 + length p)) else Payload ((4 + length p) - 4)) digits (p ++ rest)
    ≡ new_text digits p ++ translated rest
line_by true digits p rest four some h =
    let e : drop 4 (digits ++ p) ≡ p = drop_at digits p 4 four in
    held_whole (Line (4 + length p)) digits p rest (omega (arith, four)) (omega (arith, four, some))
    ∙ rw e (before_line (new_text digits p) rest)
line_by false digits p rest four some h =
    let n : (4 + length p) - 4 ≡ length p = omega arith in
    let z : length p - length p ≡ 0 = omega arith in
    let t = other_size p h in
    rw t (ap (λ k. given (Payload k) digits (p ++ rest)) n
    ∙ payload_front (length p) digits (p ++ rest)
    ∙ ap (λ xs. digits ++ xs) (payload_part (length p) p rest (omega arith)
    ∙ ap (λ k. p ++ given (Payload k) [] rest) z ∙ ap (λ xs. p ++ xs) (payload_over rest))
    ∙ sym (append_assoc digits p (translated rest)))

line_front : (text p rest : List ℕ) → (h : IsFrame text (payload p)) → translated (text ++ rest) ≡ new_text h.0 p ++ translated rest
line_front text p rest h =
    let digits = h.0 in
    ap (λ xs. translated (xs ++ rest)) h.2 ∙ ap translated (append_assoc digits p rest)
    ∙ counted digits (p ++ rest) (4 + length p) h.1
    ∙ ap (λ next. given next digits (p ++ rest)) (line_next (4 + length p) (omega (arith, h.3)) (omega (arith, h.4)))
    ∙ line_by (is_line_size (4 + length p)) digits p rest h.1.0 h.3 refl

common_digits : Counts (codes "0038") 56
unfolding decode_pairs
common_digits = (refl, refl)

-- it is the packet line of the detailed line
new_frame : (b : Bool) (text p : List ℕ) → (h : IsFrame text (payload p)) → is_continue p ≡ b
    → IsFrame (new_text h.0 p) (payload (detailed p))
new_frame true text p h c =
    let len : length (take 44 p) ≡ 44 = length-take-le 44 p (omega (arith, continue_long p c)) in
    let all : length (common_line (take 44 p)) ≡ 52 = omega (arith, len, length-append (take 44 p) (codes " common\n")) in
    let count : 56 ≡ 4 + length (common_line (take 44 p)) = omega (arith, all) in
    rw c (codes "0038", subst (Counts (codes "0038")) count common_digits, refl, omega (arith, all), omega (arith, all))
new_frame false text p h c = rw c (h.0, h.1, refl, h.3, h.4)

-- whole packet lines
pub lines_are : (frames : List Frame) (bytes rest : List ℕ) → BeginWith bytes frames rest
    → BeginWith (translated bytes) (detailed_frames frames) (translated rest)
lines_are [] bytes rest h = ap translated h
lines_are (payload p ∷ fs) bytes rest h = (
  new_text h.3.0 p,
  translated h.1,
  ap translated h.2 ∙ line_front h.0 p h.1 h.3,
  new_frame (is_continue p) h.0 p h.3 refl,
  lines_are fs h.1 rest h.4,
)
lines_are (special Flush ∷ fs) bytes rest h =
    (h.0, translated h.1, ap translated h.2 ∙ special_front 0 h.0 h.1 h.3 refl, h.3, lines_are fs h.1 rest h.4)
lines_are (special Delimiter ∷ fs) bytes rest h =
    (h.0, translated h.1, ap translated h.2 ∙ special_front 1 h.0 h.1 h.3 refl, h.3, lines_are fs h.1 rest h.4)
lines_are (special ResponseEnd ∷ fs) bytes rest h =
    (h.0, translated h.1, ap translated h.2 ∙ special_front 2 h.0 h.1 h.3 refl, h.3, lines_are fs h.1 rest h.4)
lines_are (special Text ∷ fs) bytes rest h = absurd h.3

-- bytes that begin neither a packet line nor a pack
refused_rest : (o : Option ℕ) (rest digits more : List ℕ) → rest ≡ digits ++ more → length digits ≡ 4 → size_of digits ≡ o
    → begins_pack (take 4 rest) ≡ false → next_by o ≡ Rest → translated rest ≡ rest
refused_rest o rest digits more r four size other next =
    let front : take 4 rest ≡ digits = ap (take 4) r ∙ take_front 4 digits more four in
    let t : begins_pack digits ≡ false = ap begins_pack (sym front) ∙ other in
    let is : next_of digits ≡ Rest = rw t (ap next_by size ∙ next) in
    ap translated r ∙ after_digits digits more four ∙ ap (λ n. given n digits more) is ∙ sym r

too_long : (n : ℕ) → 65520 < n → next_by (Some n) ≡ Rest
too_long n big =
    let a : nat_lt n 3 ≡ false = not_less n 3 (omega arith) in
    let b : nat_lt n 5 ≡ false = not_less n 5 (omega arith) in
    let c : nat_lt 65520 n ≡ true = search rules in
    rw (a, b, c) refl

-- part of a line
part_by : (b : Bool) (n : ℕ) (digits more : List ℕ) → length digits + length more < n → 4 ≤ length digits
    → given (if b then Hold (Line n) else Payload (n - 4)) digits more ≡ digits ++ more
part_by true n digits more few four =
    ap (given (Hold (Line n)) digits) (sym (append-nil more)) ∙ held_part (Line n) digits more [] few
part_by false n digits more few four = payload_front (n - 4) digits more
    ∙ ap (λ xs. digits ++ given (Payload (n - 4)) [] xs) (sym (append-nil more))
    ∙ ap (λ xs. digits ++ xs) (payload_part (n - 4) more [] (omega (arith, few, four)) ∙ append-nil more)

pub rest_is_same : (rest : List ℕ) (end : End) → IsEnd rest end → begins_pack (take 4 rest) ≡ false → translated rest ≡ rest
rest_is_same rest (bad HexDecode) h other = refused_rest None rest h.0 h.1 h.2 h.3.0 h.3.1 other refl
rest_is_same rest (bad InvalidLineLength) h other = refused_rest (Some 3) rest h.0 h.1 h.2 h.3.0 h.3.1 other refl
rest_is_same rest (bad DataIsEmpty) h other = refused_rest (Some 4) rest h.0 h.1 h.2 h.3.0 h.3.1 other refl
rest_is_same rest (bad DataLengthLimitExceeded) h other =
    refused_rest (Some h.3.0) rest h.0 h.1 h.2 h.3.1.0 h.3.1.1 other (too_long h.3.0 h.3.2)
rest_is_same rest ended (inl short) other = ap translated (sym (append-nil rest)) ∙ held_part Digits [] rest [] (omega (arith, short))
rest_is_same rest ended (inr h) other =
    let n = h.0 in
    let digits = take 4 rest in
    let more = drop 4 rest in
    let whole : digits ++ more ≡ rest = take-append-drop 4 rest in
    ap translated (sym whole) ∙ counted digits more n h.1
    ∙ ap (λ next. given next digits more) (line_next n h.2 h.3)
    ∙ part_by (is_line_size n) n digits more (omega (arith, h.1.0, h.4, length-append digits more, ap length whole)) (omega (arith, h.1.0))
    ∙ whole

-- the digits of a packet of band 1 count its bytes
pair_bytes : (a b : ℕ) → a < 256 → b < 256 → IsBytes (a ∷ b ∷ [])
pair_bytes a b ha hb zero = ha
pair_bytes a b ha hb (suc zero) = hb
pair_bytes a b ha hb (suc (suc i)) = omega arith

digits-count : (n : ℕ) → n < 65536 → Counts (digits_of n) n
digits-count n h = (
  length-encode_with lower_digits (n / 256 ∷ n % 256 ∷ []),
  ap pair_number (decode_sized-encode_lower (n / 256 ∷ n % 256 ∷ []) 2 refl (pair_bytes _ _ (omega arith) (omega arith)))
      ∙ ap Some (omega arith),
)

band_frame : (content : List ℕ) → 0 < length content → length content ≤ 65515 → IsFrame (band_text content) (payload (band_payload content))
band_frame content some fits =
    (digits_of (4 + length (1 ∷ content)), digits-count (4 + length (1 ∷ content)) (omega arith), refl, omega arith, omega arith)

flush_digits : Counts (codes "0000") 0
unfolding decode_pairs
flush_digits = (refl, refl)

flush_is : AreFrames (codes "0000") (special Flush ∷ []) ended
flush_is = (codes "0000", [], refl, flush_digits, inl (omega arith))

-- the last packet of a pack, which has the held content
last_is_banded : (held : List ℕ) → length held < 65515 → IsBanded (held ++ []) (last_text held)
last_is_banded [] few = record { contents = []; parts = refl; fit = tt; frames = flush_is }
last_is_banded (b ∷ held) few = record {
  contents = (b ∷ held) ∷ [];
  parts = refl;
  fit = (omega arith, omega arith, tt);
  frames = (band_text (b ∷ held), codes "0000", refl, band_frame (b ∷ held) (omega arith) (omega arith), flush_is);
}

-- the packets of a pack, the first of which has the held content
content_is : (held ys : List ℕ) → length held < 65515 → IsBanded (held ++ ys) (given (Hold Content) held ys)
content_is held [] few = last_is_banded held few
content_is held (y ∷ ys) few = elim (cases_lt (length held + 1) 65515) [
  | inl lt ↦ let t : nat_lt (length held + 1) 65515 ≡ true = search rules in
      rw t (subst (λ pack. IsBanded pack (given (Hold Content) (held ++ y ∷ []) ys)) (append_assoc held (y ∷ []) ys)
      (content_is (held ++ y ∷ []) ys (omega (arith, length-append held (y ∷ []), lt))))
  | inr ge ↦ let t : nat_lt (length held + 1) 65515 ≡ false = search rules in
      let content = held ++ y ∷ [] in
      let len : length content ≡ length held + 1 = length-append held (y ∷ []) in
      let rest = content_is [] ys (omega arith) in
      rw t (record {
        contents = content ∷ rest.contents;
        parts = ap (λ xs. content ++ xs) rest.parts ∙ append_assoc held (y ∷ []) ys;
        fit = (omega (arith, len), omega (arith, len, few), rest.fit);
        frames = (
          band_text content,
          given (Hold Content) [] ys,
          pack_front (band_text content) ys ∙ ap (λ xs. band_text content ++ xs) (pack_over ys),
          band_frame content (omega (arith, len)) (omega (arith, len, few)),
          rest.frames,
        );
      })
]

pub pack_is : (pack : List ℕ) → begins_pack (take 4 pack) ≡ true → IsBanded pack (translated pack)
pack_is pack h =
    let front : take 4 pack ≡ codes "PACK" = (bytes_eq-Decides (take 4 pack) (codes "PACK")).0 h in
    let whole : pack ≡ codes "PACK" ++ drop 4 pack = sym (take-append-drop 4 pack) ∙ ap (λ xs. xs ++ drop 4 pack) front in
    let is : translated pack ≡ given (Hold Content) (codes "PACK") (drop 4 pack) =
    ap translated whole ∙ after_digits (codes "PACK") (drop 4 pack) refl in
    subst (λ x. IsBanded x (translated pack)) (sym whole) (subst (IsBanded (codes "PACK" ++ drop 4 pack)) (sym is)
    (content_is (codes "PACK") (drop 4 pack) (omega arith)))
