-- White space at the end of a line whose last bytes are ASCII.
use Rattle.std.proofs.Common.{◌≡◌, ℕ, ◌+◌, ◌-◌, ◌<◌, ◌≤◌, Bool, false, cond, nat_lt, nat_eq, List, [], ◌∷◌, ◌++◌, length, take, refl, sym, ap, subst, ◌∙◌, arith, length-append, ne_eqb, slice_index_or}
use Rattle.std.proofs.lemmas.Bool.{cond-true, cond-false, lt-ltb, ltb-true, false_from_ne_true}
use Rattle.std.proofs.lemmas.List.{take-append-drop, at_drop_more}
use Rattle.std.proofs.Math.ListN.{drop_of_length-le}
use Rattle.std.proofs.Math.Seq.{take-append_seam}
use Rattle.std.specs.Char.{is_whitespace}
use Rattle.bstr.specs.Trim.{trim_end_by, kept_end}
use Rattle.bstr.specs.Utf8.{decoded, good, pieces, spans_from, continues, IsLastPiece}
use Rattle.bstr.proofs.lemmas.PieceLemmas.{IsLastPiece-whole, spans-last}
use Rattle.bstr.proofs.lemmas.TrimLemmas.{kept_end-snoc}

-- an ASCII byte at the end is a character of its own
ascii_last : (xs : List ℕ) (b : ℕ) → b < 128 → IsLastPiece (xs ++ b ∷ []) (good b 1)
ascii_last xs b low =
    let is : decoded (b ∷ []) ≡ good b 1 = cond-true _ _ _ (lt-ltb b 128 low) in
    let clean : continues b ≡ false = rw (false_from_ne_true (nat_lt 127 b) (λ h. let k = ltb-true 127 b h in absurd (omega arith))) refl in
    subst (λ p. IsLastPiece (xs ++ b ∷ []) p) is
    (IsLastPiece-whole xs (b ∷ []) (omega arith) (λ _. clean) (λ k pos high. absurd (omega arith)) (ap (λ p. p.size) is))

-- where a trim ends, by the last byte
kept_by_last : (t : ℕ → Bool) (xs : List ℕ) (b : ℕ) → b < 128
    → kept_end t 0 (spans_from 0 (pieces (xs ++ b ∷ []))) ≡ cond (t b) (kept_end t 0 (spans_from 0 (pieces xs))) (length xs + 1)
kept_by_last t xs b low =
    let bs = xs ++ b ∷ [] in
    let n : length bs ≡ length xs + 1 = length-append xs (b ∷ []) in
    let at : length bs - 1 ≡ length xs = omega (arith, n) in
    let front : take (length bs - 1) bs ≡ xs = ap (λ k. take k bs) at ∙ take-append_seam xs (b ∷ []) in
    let place : 0 + length xs + 1 ≡ length xs + 1 = omega arith in
    ap (kept_end t 0) (spans-last bs (good b 1) 0 (ascii_last xs b low)) ∙ kept_end-snoc t 0 _ _ ∙ (rw (front, at, place) refl)

-- a list ends with its last item
ends_with_last : (xs : List ℕ) → 1 ≤ length xs → xs ≡ take (length xs - 1) xs ++ slice_index_or xs (length xs - 1) 0 ∷ []
ends_with_last xs some =
    let n = length xs - 1 in
    sym (take-append-drop n xs) ∙ ap (λ t. take n xs ++ t) (at_drop_more (λ t. t) xs n 0 (omega arith)
    ∙ ap (λ t. slice_index_or xs n 0 ∷ t) (drop_of_length-le xs (omega arith)))

-- an ASCII byte above the blank is not white space
is_no_white_space : (b : ℕ) → 32 < b → b < 128 → is_whitespace b ≡ false
is_no_white_space b high low =
    let not_at : (k : ℕ) → (b ≡ k → ⊥) → nat_eq b k ≡ false = λ k ne. ne_eqb b k ne in
    let below : nat_lt b 14 ≡ false = false_from_ne_true (nat_lt b 14) (λ h. let k = ltb-true b 14 h in absurd (omega arith)) in
    let above : nat_lt 8191 b ≡ false = false_from_ne_true (nat_lt 8191 b) (λ h. let k = ltb-true 8191 b h in absurd (omega arith)) in
    rw (
      lt-ltb 8 b (omega arith),
      below,
      above,
      not_at 32 (λ e. absurd (omega arith)),
      not_at 133 (λ e. absurd (omega arith)),
      not_at 160 (λ e. absurd (omega arith)),
      not_at 5760 (λ e. absurd (omega arith)),
      not_at 8232 (λ e. absurd (omega arith)),
      not_at 8233 (λ e. absurd (omega arith)),
      not_at 8239 (λ e. absurd (omega arith)),
      not_at 8287 (λ e. absurd (omega arith)),
      not_at 12288 (λ e. absurd (omega arith)),
    ) refl

-- an LF after such a byte is the only white space at the end
pub trims_one : (line : List ℕ) → 1 ≤ length line → slice_index_or line (length line - 1) 0 ≡ 10
    → let text = take (length line - 1) line in 1 ≤ length text → 32 < slice_index_or text (length text - 1) 0
    → slice_index_or text (length text - 1) 0 < 128
    → text ≡ trim_end_by is_whitespace line
trims_one line some end more high low =
    let text = take (length line - 1) line in
    let front = take (length text - 1) text in
    let b = slice_index_or text (length text - 1) 0 in
    let whole : line ≡ text ++ 10 ∷ [] = ends_with_last line some ∙ ap (λ k. text ++ k ∷ []) end in
    let before : text ≡ front ++ b ∷ [] = ends_with_last text more in
    let n : length text ≡ length front + 1 = ap length before ∙ length-append front (b ∷ []) in
    let kept_text : kept_end is_whitespace 0 (spans_from 0 (pieces text)) ≡ length text =
    ap (λ l. kept_end is_whitespace 0 (spans_from 0 (pieces l))) before ∙ kept_by_last is_whitespace front b low
    ∙ cond-false _ _ _ (is_no_white_space b high low) ∙ sym n in
    let kept : kept_end is_whitespace 0 (spans_from 0 (pieces line)) ≡ length text =
    ap (λ l. kept_end is_whitespace 0 (spans_from 0 (pieces l))) whole ∙ kept_by_last is_whitespace text 10 (omega arith) ∙ kept_text in
    sym (ap (λ k. take k line) kept ∙ ap (take (length text)) whole ∙ take-append_seam text (10 ∷ []))
