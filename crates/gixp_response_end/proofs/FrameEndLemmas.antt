-- What is passed on for whole packet lines, and for the bytes after them.
use Rattle.std.proofs.Common.{◌≡◌, ℕ, ◌+◌, ◌-◌, ◌<◌, inl, inr, nat_eq, Bool, true, false, List, [], ◌∷◌, ◌++◌, length, take, drop, Option, Some, None, refl, ap, sym, subst, ◌∙◌, arith, append_assoc, append-nil, length-drop, length-append, ne_eqb}
use Rattle.std.specs.Prelude.{codes}
use Rattle.std.proofs.lemmas.List.{take-append-drop}
use Rattle.hex.specs.Hex.{decode_pairs}
use Rattle.gixp_packetline.specs.declared.packet.PacketError.TheVariants.{HexDecode, DataLengthLimitExceeded, DataIsEmpty, InvalidLineLength}
use Rattle.gixp_packetline.specs.declared.protocol.MessageKind.TheVariants.{Flush, Delimiter, ResponseEnd, Text}
use Rattle.gixp_packetline.specs.Frames.{size_of, Frame, payload, special, End, ended, bad, Frames}
use Rattle.gixp_packetline.specs.Grammar.{Counts, IsFrame, IsEnd, AreFrames}
use Rattle.gixp_response_end.specs.declared.place.Next.{Next}
use Rattle.gixp_response_end.specs.declared.place.Next.TheVariants.{Line, AnswerEnd, Payload, Rest, Nothing}
use Rattle.gixp_response_end.specs.Answers.{is_number, next_of, given_count, next_after, given_after, advertised_after, given, passed_on}
use Rattle.gixp_response_end.specs.Whole.{whole_answers, whole_stream}
use Rattle.gixp_response_end.proofs.AnswersLemmas.{payload_front, payload_part, payload_over, digits_part, digits_whole, taken_all}

-- what is passed on from the start of a packet line
abbrev lines : Bool → List ℕ → List ℕ
lines adv bytes = given adv Line [] bytes

-- four digits of a packet line, and the bytes after them
abbrev after_line : Bool → Option ℕ → List ℕ → List ℕ → List ℕ
after_line adv o digits more = given (advertised_after adv o) (next_of adv o) (take (given_count (next_of adv o)) digits) more

digits_of : (adv : Bool) (o : Option ℕ) (digits more : List ℕ) → length digits ≡ 4 → size_of digits ≡ o
    → lines adv (digits ++ more) ≡ after_line adv o digits more
digits_of adv o digits more four size = digits_whole adv Line [] digits more refl (omega arith) (omega arith)
    ∙ ap (λ k. after_line adv k digits more) size

-- the digits of a payload, or of a delimiter packet
counted : (adv : Bool) (k : ℕ) (digits more : List ℕ) → Counts digits k → (k ≡ 2 → ⊥) → (k ≡ 0 → ⊥)
    → lines adv (digits ++ more) ≡ digits ++ given adv (Payload (k - 4)) [] more
counted adv k digits more c other some =
    let e : nat_eq k 2 ≡ false = ne_eqb k 2 other in
    let f : nat_eq k 0 ≡ false = ne_eqb k 0 some in
    digits_of adv (Some k) digits more c.0 c.1
    ∙ (rw (e, f, taken_all digits c.0) (payload_front adv (k - 4) digits more))

-- a payload, and the packet lines after it
payload_whole : (adv : Bool) (n : ℕ) (p rest : List ℕ) → n ≡ length p → given adv (Payload n) [] (p ++ rest) ≡ p ++ lines adv rest
payload_whole adv n p rest e =
    let none : n - length p ≡ 0 = omega arith in
    payload_part adv n p rest (omega arith) ∙ ap (λ k. p ++ given adv (Payload k) [] rest) none ∙ ap (λ zs. p ++ zs) (payload_over adv rest)

data_front : (adv : Bool) (text p rest : List ℕ) → IsFrame text (payload p) → lines adv (text ++ rest) ≡ text ++ lines adv rest
data_front adv text p rest h =
    let digits = h.0 in
    let n : (4 + length p) - 4 ≡ length p = omega arith in
    ap (λ xs. lines adv (xs ++ rest)) h.2
    ∙ ap (lines adv) (append_assoc digits p rest)
    ∙ counted adv (4 + length p) digits (p ++ rest) h.1 (λ e. absurd (omega (arith, h.3))) (λ e. absurd (omega (arith, h.3)))
    ∙ ap (λ zs. digits ++ zs) (payload_whole adv ((4 + length p) - 4) p rest n)
    ∙ sym (append_assoc digits p (lines adv rest))
    ∙ ap (λ xs. xs ++ lines adv rest) (sym h.2)

delimiter_front : (adv : Bool) (text rest : List ℕ) → Counts text 1 → lines adv (text ++ rest) ≡ text ++ lines adv rest
delimiter_front adv text rest c =
    counted adv 1 text rest c (λ e. absurd (omega arith)) (λ e. absurd (omega arith)) ∙ ap (λ zs. text ++ zs) (payload_over adv rest)

-- the flush packet of the advertisement
first_flush : (text rest : List ℕ) → Counts text 0 → lines false (text ++ rest) ≡ text ++ lines true rest
first_flush text rest c = digits_of false (Some 0) text rest c.0 c.1
    ∙ rw (taken_all text c.0) (payload_front true 0 text rest) ∙ ap (λ zs. text ++ zs) (payload_over true rest)

-- the flush packet of a response
later_flush : (text rest : List ℕ) → Counts text 0 → lines true (text ++ rest) ≡ given true AnswerEnd [] rest
later_flush text rest c = digits_of true (Some 0) text rest c.0 c.1

no_line : (adv : Bool) (text rest : List ℕ) → Counts text 2 → lines adv (text ++ rest) ≡ []
no_line adv text rest c = digits_of adv (Some 2) text rest c.0 c.1

-- the bytes after the flush packet of a response
abbrev after_flush : Option ℕ → List ℕ → List ℕ
after_flush o more = given (advertised_after true o) (next_after true AnswerEnd o) (given_after true AnswerEnd o []) more

flushed : (digits more : List ℕ) → length digits ≡ 4 → given true AnswerEnd [] (digits ++ more) ≡ after_flush (size_of digits) more
flushed digits more four = digits_whole true AnswerEnd [] digits more refl (omega arith) (omega arith)

flush_digits : Counts (codes "0000") 0
unfolding decode_pairs
flush_digits = (refl, refl)

closed : (text rest : List ℕ) → Counts text 2 → given true AnswerEnd [] (text ++ rest) ≡ codes "0000" ++ lines true rest
closed text rest c = flushed text rest c.0 ∙ ap (λ o. after_flush o rest) c.1
    ∙ payload_front true 0 (codes "0000") rest ∙ ap (λ zs. codes "0000" ++ zs) (payload_over true rest)

not_closed : (digits more : List ℕ) → length digits ≡ 4 → is_number 2 (size_of digits) ≡ false
    → given true AnswerEnd [] (digits ++ more) ≡ []
not_closed digits more four other = flushed digits more four ∙ rw other refl

other_line : (k : ℕ) (digits more : List ℕ) → Counts digits k → (k ≡ 2 → ⊥) → given true AnswerEnd [] (digits ++ more) ≡ []
other_line k digits more c other =
    not_closed digits more c.0 (ap (is_number 2) c.1 ∙ ne_eqb k 2 other)

-- the bytes after the last whole packet line
keeps_end : (adv : Bool) (rest : List ℕ) (end : End) → IsEnd rest end → IsEnd (lines adv rest) end
keeps_end adv rest (bad HexDecode) h =
    (h.0, h.1, ap (lines adv) h.2 ∙ digits_of adv None h.0 h.1 h.3.0 h.3.1 ∙ ap (λ xs. xs ++ h.1) (taken_all h.0 h.3.0), h.3)
keeps_end adv rest (bad InvalidLineLength) h = (
  h.0,
  given adv (Payload (3 - 4)) [] h.1,
  ap (lines adv) h.2
      ∙ counted adv 3 h.0 h.1 h.3 (λ e. absurd (omega arith)) (λ e. absurd (omega arith)),
  h.3,
)
keeps_end adv rest (bad DataIsEmpty) h = (
  h.0,
  given adv (Payload (4 - 4)) [] h.1,
  ap (lines adv) h.2
      ∙ counted adv 4 h.0 h.1 h.3 (λ e. absurd (omega arith)) (λ e. absurd (omega arith)),
  h.3,
)
keeps_end adv rest (bad DataLengthLimitExceeded) h = (
  h.0,
  given adv (Payload (h.3.0 - 4)) [] h.1,
  ap (lines adv) h.2
      ∙ counted adv h.3.0 h.0 h.1 h.3.1 (λ e. absurd (omega (arith, h.3.2))) (λ e. absurd (omega (arith, h.3.2))),
  h.3,
)
keeps_end adv rest ended (inl short) =
    let same : lines adv rest ≡ rest = ap (lines adv) (sym (append-nil rest)) ∙ digits_part adv Line [] rest [] refl (omega arith) in
    subst (λ xs. IsEnd xs ended) (sym same) (inl short)
keeps_end adv rest ended (inr h) =
    let n = h.0 in
    let digits = take 4 rest in
    let more = drop 4 rest in
    let parts : digits ++ more ≡ rest = take-append-drop 4 rest in
    let same : lines adv rest ≡ rest = ap (lines adv) (sym parts)
    ∙ counted adv n digits more h.1 (λ e. absurd (omega (arith, h.2))) (λ e. absurd (omega (arith, h.2)))
    ∙ ap (λ xs. digits ++ given adv (Payload (n - 4)) [] xs) (sym (append-nil more))
    ∙ ap (λ zs. digits ++ zs) (payload_part adv (n - 4) more [] (omega (arith, length-drop 4 rest, h.4)) ∙ append-nil more)
    ∙ parts in
    subst (λ xs. IsEnd xs ended) (sym same) (inr h)

-- a flush packet at the end, without a response-end packet
no_close : (rest : List ℕ) (end : End) → IsEnd rest end → given true AnswerEnd [] rest ≡ []
no_close rest (bad HexDecode) h =
    ap (given true AnswerEnd []) h.2 ∙ not_closed h.0 h.1 h.3.0 (ap (is_number 2) h.3.1)
no_close rest (bad InvalidLineLength) h = ap (given true AnswerEnd []) h.2 ∙ other_line 3 h.0 h.1 h.3 (λ e. absurd (omega arith))
no_close rest (bad DataIsEmpty) h = ap (given true AnswerEnd []) h.2 ∙ other_line 4 h.0 h.1 h.3 (λ e. absurd (omega arith))
no_close rest (bad DataLengthLimitExceeded) h = ap (given true AnswerEnd []) h.2
    ∙ other_line h.3.0 h.0 h.1 h.3.1 (λ e. absurd (omega (arith, h.3.2)))
no_close rest ended (inl short) =
    ap (given true AnswerEnd []) (sym (append-nil rest)) ∙ digits_part true AnswerEnd [] rest [] refl (omega arith)
no_close rest ended (inr h) = ap (given true AnswerEnd []) (sym (take-append-drop 4 rest))
    ∙ other_line h.0 (take 4 rest) (drop 4 rest) h.1 (λ e. absurd (omega (arith, h.2)))

abbrev AreThese : List ℕ → Frames → Type 0
AreThese bytes fs = AreFrames bytes fs.list fs.end

nothing_more : (bytes : List ℕ) → bytes ≡ [] → IsEnd bytes ended
nothing_more bytes e = inl (omega (arith, ap length e))

-- a flush packet, and then a packet line that is not a response-end packet
cut : (k : ℕ) (bytes text rest digits more : List ℕ) → bytes ≡ text ++ rest → Counts text 0 → rest ≡ digits ++ more → Counts digits k
    → (k ≡ 2 → ⊥) → IsEnd (lines true bytes) ended
cut k bytes text rest digits more b c r d other = nothing_more (lines true bytes)
    (ap (lines true) b ∙ later_flush text rest c ∙ ap (given true AnswerEnd []) r ∙ other_line k digits more d other)

answers_are : (frames : List Frame) (bytes : List ℕ) (end : End) → AreFrames bytes frames end
    → AreThese (lines true bytes) (whole_answers frames end)
answers_are [] bytes end h = keeps_end true bytes end h
answers_are (payload p ∷ frames) bytes end h =
    (h.0, lines true h.1, ap (lines true) h.2 ∙ data_front true h.0 p h.1 h.3, h.3, answers_are frames h.1 end h.4)
answers_are (special Delimiter ∷ frames) bytes end h =
    (h.0, lines true h.1, ap (lines true) h.2 ∙ delimiter_front true h.0 h.1 h.3, h.3, answers_are frames h.1 end h.4)
answers_are (special Flush ∷ special ResponseEnd ∷ frames) bytes end h = (
  codes "0000",
  lines true h.4.1,
  ap (lines true) h.2 ∙ later_flush h.0 h.1 h.3 ∙ ap (given true AnswerEnd []) h.4.2 ∙ closed h.4.0 h.4.1 h.4.3,
  flush_digits,
  answers_are frames h.4.1 end h.4.4,
)
answers_are (special Flush ∷ []) bytes end h = nothing_more (lines true bytes)
    (ap (lines true) h.2 ∙ later_flush h.0 h.1 h.3 ∙ no_close h.1 end h.4)
answers_are (special Flush ∷ payload p ∷ frames) bytes end h =
    let d = h.4.3 in
    cut (4 + length p) bytes h.0 h.1 d.0 (p ++ h.4.1) h.2 h.3
    (h.4.2 ∙ ap (λ xs. xs ++ h.4.1) d.2 ∙ append_assoc d.0 p h.4.1) d.1 (λ e. absurd (omega arith))
answers_are (special Flush ∷ special Flush ∷ frames) bytes end h =
    cut 0 bytes h.0 h.1 h.4.0 h.4.1 h.2 h.3 h.4.2 h.4.3 (λ e. absurd (omega arith))
answers_are (special Flush ∷ special Delimiter ∷ frames) bytes end h =
    cut 1 bytes h.0 h.1 h.4.0 h.4.1 h.2 h.3 h.4.2 h.4.3 (λ e. absurd (omega arith))
answers_are (special Flush ∷ special Text ∷ frames) bytes end h = absurd h.4.3
answers_are (special ResponseEnd ∷ frames) bytes end h =
    nothing_more (lines true bytes) (ap (lines true) h.2 ∙ no_line true h.0 h.1 h.3)
answers_are (special Text ∷ frames) bytes end h = absurd h.3

-- the advertisement, and then whole responses
pub stream_is : (frames : List Frame) (bytes : List ℕ) (end : End) → AreFrames bytes frames end
    → AreFrames (passed_on bytes) (whole_stream frames end).list (whole_stream frames end).end
stream_is [] bytes end h = keeps_end false bytes end h
stream_is (payload p ∷ frames) bytes end h =
    (h.0, lines false h.1, ap (lines false) h.2 ∙ data_front false h.0 p h.1 h.3, h.3, stream_is frames h.1 end h.4)
stream_is (special Delimiter ∷ frames) bytes end h =
    (h.0, lines false h.1, ap (lines false) h.2 ∙ delimiter_front false h.0 h.1 h.3, h.3, stream_is frames h.1 end h.4)
stream_is (special Flush ∷ frames) bytes end h =
    (h.0, lines true h.1, ap (lines false) h.2 ∙ first_flush h.0 h.1 h.3, h.3, answers_are frames h.1 end h.4)
stream_is (special ResponseEnd ∷ frames) bytes end h =
    nothing_more (lines false bytes) (ap (lines false) h.2 ∙ no_line false h.0 h.1 h.3)
stream_is (special Text ∷ frames) bytes end h = absurd h.3
