-- The lines of a request as text, and their sizes.
use Rattle.std.proofs.Common.{◌≡◌, ℕ, zero, suc, subst, ◌+◌, ◌-◌, ◌<◌, ◌≤◌, ◌==◌, nat_eq, Bool, true, false, if◌then◌else◌, List, [], ◌∷◌, ◌++◌, length, take, drop, map, refl, ap, sym, ◌∙◌, arith, append_assoc, length-append, length-drop, drop-drop}
use Rattle.std.specs.Prelude.{codes}
use Rattle.std.specs.Borrow.{Bor}
use Rattle.std.proofs.lemmas.List.Elements.{All-append}
use Rattle.std.specs.List.{onto_first, starts_with}
use Rattle.std.specs.Str.{bytes_eq}
use Rattle.std.specs.Io.BufRead.{strip_last, ends_with_byte}
use Rattle.std.proofs.lemmas.Grind.{flat_map-append}
use Rattle.std.proofs.lemmas.List.{map-append, length-take-le}
use Rattle.std.proofs.lemmas.List.Splits.{slice_split-cons_yes, slice_split-cons_no, length-slice_split}
use Rattle.std.proofs.lemmas.Slice.Eq.{bytes_eq-Decides, starts_is}
use Rattle.std.proofs.lemmas.Bool.Decides.{Decides-eqb}
use Rattle.gixp_utils.specs.Lines.{line_words}
use Rattle.gixp_packetline.specs.FrameText.{payload_text}
use Rattle.gixp_plain_requests.specs.declared.missing.Missing.{Missing}
use Rattle.gixp_plain_requests.specs.declared.request.LineKind.TheVariants.{Want, Shallow, Depth, Other}
use Rattle.gixp_plain_requests.specs.Lines.{size_of_lines, lines_of, after_lines, FitLines}
use Rattle.gixp_plain_requests.specs.Request.{kind_of, of_kind, is_left_out, acknowledgement_words, sent_words, after_blanks, all_sent_words, sent_want, texts_of_lines, request_sent}

onto_length : (x : ℕ) (parts : List (List ℕ)) → 0 < length parts → length (after_blanks (onto_first x parts)) ≡ length (after_blanks parts) + 1
onto_length x [] h = absurd (omega arith)
onto_length x (p ∷ ps) h = omega (arith, length-append (32 ∷ x ∷ p) (after_blanks ps), length-append (32 ∷ p) (after_blanks ps))

-- each word of a text has one blank before it
words_length : (text : List ℕ) → length (after_blanks (line_words text)) ≡ length text + 1
words_length [] = refl
words_length (x ∷ xs) = by (words_length xs) (x == 32) refl
  where
    by : length (after_blanks (line_words xs)) ≡ length xs + 1 → (b : Bool) → (x == 32) ≡ b
        → length (after_blanks (line_words (x ∷ xs))) ≡ length (x ∷ xs) + 1
    by rest true e = ap (λ ps. length (after_blanks ps)) (slice_split-cons_yes (λ b. b == 32) x xs e)
        ∙ omega (arith, rest, length-append (32 ∷ []) (after_blanks (line_words xs)))
    by rest false e = ap (λ ps. length (after_blanks ps)) (slice_split-cons_no (λ b. b == 32) x xs e)
        ∙ (onto_length x (line_words xs) (omega (arith, length-slice_split (λ b. b == 32) xs)) ∙ omega (arith, rest))

acknowledgement_length : (a b : Bool)
    → length (after_blanks (if a then (if b then [] else codes "multi_ack" ∷ []) else codes "multi_ack_detailed" ∷ [])) ≤ 19
acknowledgement_length true true = omega arith
acknowledgement_length true false = omega arith
acknowledgement_length false b = omega arith

other_length : (b : Bool) (word : List ℕ) → length (after_blanks (if b then [] else word ∷ [])) ≤ length word + 1
other_length true word = omega arith
other_length false word = omega (arith, length-append (32 ∷ word) [])

-- what is sent in place of a word isn't longer
word_length : (m : Missing) (word : List ℕ) → length (after_blanks (sent_words m word)) ≤ length word + 1
word_length m word = by (bytes_eq word (codes "multi_ack_detailed")) refl
  where
    by : (b : Bool) → bytes_eq word (codes "multi_ack_detailed") ≡ b
        → length (after_blanks (if b then acknowledgement_words m else if is_left_out m word then [] else word ∷ [])) ≤ length word + 1
    by true e = omega (
      arith,
      acknowledgement_length m.multi_ack_detailed m.multi_ack,
      ap length ((bytes_eq-Decides word (codes "multi_ack_detailed")).0 e),
    )
    by false e = other_length (is_left_out m word) word

-- what is sent in place of some words
sent_length : (m : Missing) (words : List (List ℕ)) → length (after_blanks (all_sent_words m words)) ≤ length (after_blanks words)
sent_length m [] = omega arith
sent_length m (w ∷ ws) = omega (
  arith,
  word_length m w,
  sent_length m ws,
  ap length (flat_map-append (λ (word : List ℕ). 32 ∷ word) (sent_words m w) (all_sent_words m ws)),
  length-append (after_blanks (sent_words m w)) (after_blanks (all_sent_words m ws)),
  length-append (32 ∷ w) (after_blanks ws),
)

-- a `want` line isn't longer without capabilities
pub want_length : (m : Missing) (line : List ℕ) → 5 ≤ length (strip_last 10 line) → length (strip_last 10 line) ≤ length line
    → length (sent_want m line) ≤ length line
want_length m line some le =
    let front = strip_last 10 line in
    let words = after_blanks (all_sent_words m (line_words (drop 5 front))) in
    omega (
      arith,
      sent_length m (line_words (drop 5 front)),
      words_length (drop 5 front),
      length-drop 5 front,
      length-append (codes "want") (words ++ drop (length front) line),
      length-append words (drop (length front) line),
      length-drop (length front) line,
    )

strip_by : (b : Bool) (xs : List ℕ) → length xs ≤ length (if b then take (length xs - 1) xs else xs) + 1
strip_by true xs = omega (arith, length-take-le (length xs - 1) xs (omega arith))
strip_by false xs = omega arith

wants_more : (line t : List ℕ) → line ≡ codes "want " ++ t → 5 ≤ length (strip_last 10 line)
wants_more line [] e = rw e (omega arith)
wants_more line (x ∷ t) e = omega (arith, ap length e, strip_by (ends_with_byte 10 line) line)

kind_by : (a b c : Bool) → (if a then Want else if b then Shallow else if c then Depth else Other) ≡ Want → a ≡ true
kind_by true b c h = refl
kind_by false true c h = cc
kind_by false false true h = cc
kind_by false false false h = cc

-- an LF at the end of a `want` line follows its first word
pub want_long : (line : List ℕ) → kind_of line ≡ Want → 5 ≤ length (strip_last 10 line)
want_long line h = wants_more line (drop 5 line) ((starts_is Decides-eqb line (codes "want ") (starts_with nat_eq line (codes "want ")) refl).0
    (kind_by (starts_with nat_eq line (codes "want ")) (starts_with nat_eq line (codes "shallow ")) (starts_with nat_eq line (codes "deepen")) h))

-- one more line
size_more : (lines : List (List ℕ)) (line : List ℕ) → size_of_lines (lines ++ line ∷ []) ≡ size_of_lines lines + (4 + length line)
size_more [] line = omega arith
size_more (l ∷ ls) line = omega (arith, size_more ls line)

one : (line : Bor (List ℕ)) → length line.now ≤ 65516 → FitLines (line ∷ [])
one line fits zero d h = fits
one line fits (suc k) d h = absurd (omega arith)

pub lines_more : (lines new : List (Bor (List ℕ))) (line : Bor (List ℕ)) (rest after request : List ℕ)
    → map (λ x. x.now) lines ++ lines_of rest ≡ lines_of request → lines_of rest ≡ line.now ∷ lines_of after → new ≡ lines ++ line ∷ []
    → map (λ x. x.now) new ++ lines_of after ≡ lines_of request
lines_more lines new line rest after request all first is =
    ap (λ xs. map (λ x. x.now) xs ++ lines_of after) is
    ∙ ap (λ xs. xs ++ lines_of after) (map-append (λ x. x.now) lines (line ∷ []))
    ∙ append_assoc (map (λ x. x.now) lines) (line.now ∷ []) (lines_of after)
    ∙ ap (λ xs. map (λ x. x.now) lines ++ xs) (sym first) ∙ all

pub fit_more : (lines new : List (Bor (List ℕ))) (line : Bor (List ℕ)) → FitLines lines → length line.now ≤ 65516
    → new ≡ lines ++ line ∷ [] → FitLines new
fit_more lines new line all fits is = subst FitLines (sym is)
    (All-append (λ x. length x.now ≤ 65516) lines (line ∷ []) all (one line fits))

pub rest_more : (lines new : List (Bor (List ℕ))) (line : Bor (List ℕ)) (rest after request : List ℕ)
    → rest ≡ drop (size_of_lines (map (λ x. x.now) lines)) request → after ≡ drop (4 + length line.now) rest → new ≡ lines ++ line ∷ []
    → after ≡ drop (size_of_lines (map (λ x. x.now) new)) request
rest_more lines new line rest after request is_rest is_after is =
    let n = size_of_lines (map (λ x. x.now) lines) in
    let sum : size_of_lines (map (λ x. x.now) new) ≡ (4 + length line.now) + n =
    ap (λ xs. size_of_lines (map (λ x. x.now) xs)) is ∙ ap size_of_lines (map-append (λ x. x.now) lines (line ∷ []))
    ∙ size_more (map (λ x. x.now) lines) line.now ∙ omega arith in
    is_after ∙ ap (drop (4 + length line.now)) is_rest ∙ drop-drop (4 + length line.now) n request
    ∙ ap (λ k. drop k request) (omega (arith, sum))

-- the parts of a request
pub all_sent : (m : Missing) (request : List ℕ) (lines : List (List ℕ)) (rest a b c d e : List ℕ) → lines ≡ lines_of request
    → rest ≡ after_lines request → a ≡ texts_of_lines (map (sent_want m) (of_kind Want lines))
    → b ≡ a ++ texts_of_lines (of_kind Shallow lines) → c ≡ b ++ texts_of_lines (of_kind Depth lines)
    → d ≡ c ++ texts_of_lines (of_kind Other lines) → e ≡ d ++ rest → e ≡ request_sent m request
unfolding request_sent
all_sent m request lines rest a b c d e is_lines is_rest is_a is_b is_c is_d is_e =
    let w = map (sent_want m) (of_kind Want lines) in
    let s = of_kind Shallow lines in
    let p = of_kind Depth lines in
    let o = of_kind Other lines in
    let t = texts_of_lines in
    let all : t (w ++ (s ++ (p ++ o))) ≡ t w ++ (t s ++ (t p ++ t o)) = flat_map-append payload_text w (s ++ (p ++ o))
    ∙ ap (λ x. t w ++ x) (flat_map-append payload_text s (p ++ o) ∙ ap (λ x. t s ++ x) (flat_map-append payload_text p o)) in
    let is : d ≡ t w ++ (t s ++ (t p ++ t o)) = is_d ∙ ap (λ x. x ++ t o) (is_c ∙ ap (λ x. x ++ t p) (is_b ∙ ap (λ x. x ++ t s) is_a))
    ∙ append_assoc (t w ++ t s) (t p) (t o) ∙ append_assoc (t w) (t s) (t p ++ t o) in
    is_e ∙ ap (λ x. x ++ rest) (is ∙ sym all) ∙ rw (is_lines, is_rest) refl
