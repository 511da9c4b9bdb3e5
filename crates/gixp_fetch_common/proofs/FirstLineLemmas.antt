-- The first line of a text, and the lines after it.
use Rattle.std.proofs.Common.{◌≡◌, ℕ, ◌-◌, ◌<◌, Bool, true, false, List, [], ◌∷◌, length, take, sym, ap, refl, subst, ◌∙◌, arith, suc}
use Rattle.std.specs.Prelude.{◌≢◌, ◌==◌, ◌&&◌, if◌then◌else◌, nat_lt, slice_index, All}
use Rattle.std.specs.Io.{StopsAt}
use Rattle.std.specs.List.{onto_first}
use Rattle.std.specs.Io.BufRead.{strip_last, ends_with_byte, take_through, drop_through}
use Rattle.std.proofs.lemmas.List.Elements.{All-head, All-tail}
use Rattle.std.proofs.lemmas.List.Splits.{slice_split-cons_yes, slice_split-cons_no}
use Rattle.std.proofs.lemmas.Grind.{common_steps}
use borrow.Author.Tests.{eqb-true}
use Rattle.gixp_utils.specs.Lines.{text_lines, text_pieces}

-- a byte before others isn't the last
ends_alike : (x y : ℕ) (ys : List ℕ) → ends_with_byte 10 (x ∷ y ∷ ys) ≡ ends_with_byte 10 (y ∷ ys)
ends_alike x y ys =
    let a : length (x ∷ y ∷ ys) - 1 ≡ suc (length ys) = omega arith in
    let b : length (y ∷ ys) - 1 ≡ length ys = omega arith in
    let c : nat_lt 0 (length (x ∷ y ∷ ys)) ≡ true = grind (arith, common_steps) in
    let d : nat_lt 0 (length (y ∷ ys)) ≡ true = grind (arith, common_steps) in
    ap (λ n. nat_lt 0 (length (x ∷ y ∷ ys)) && (slice_index (x ∷ y ∷ ys) n == 10)) a
    ∙ ap (λ t. t && (slice_index (y ∷ ys) (length ys) == 10)) (c ∙ sym d)
    ∙ ap (λ n. nat_lt 0 (length (y ∷ ys)) && (slice_index (y ∷ ys) n == 10)) (sym b)

strip_alike : (x y : ℕ) (ys : List ℕ) → strip_last 10 (x ∷ y ∷ ys) ≡ x ∷ strip_last 10 (y ∷ ys)
strip_alike x y ys =
    ap (λ t. if t then take (length (x ∷ y ∷ ys) - 1) (x ∷ y ∷ ys) else x ∷ y ∷ ys) (ends_alike x y ys) ∙ at (ends_with_byte 10 (y ∷ ys))
  where
    at : (t : Bool) → (if t then take (length (x ∷ y ∷ ys) - 1) (x ∷ y ∷ ys) else x ∷ y ∷ ys)
        ≡ x ∷ (if t then take (length (y ∷ ys) - 1) (y ∷ ys) else y ∷ ys)
    at true =
        let a : length (x ∷ y ∷ ys) - 1 ≡ suc (length ys) = omega arith in
        let b : length (y ∷ ys) - 1 ≡ length ys = omega arith in
        ap (λ n. take n (x ∷ y ∷ ys)) a ∙ ap (λ n. x ∷ take n (y ∷ ys)) (sym b)
    at false = refl

strip_front : (x y : ℕ) (ys : List ℕ) (b : Bool) → strip_last 10 (x ∷ (if b then y ∷ [] else y ∷ ys))
    ≡ x ∷ strip_last 10 (if b then y ∷ [] else y ∷ ys)
strip_front x y ys true = strip_alike x y []
strip_front x y ys false = strip_alike x y ys

-- the first line, and the lines after it
first_line_at : (x : ℕ) (xs : List ℕ) → text_lines (x ∷ xs)
    ≡ strip_last 10 (take_through 10 (x ∷ xs)) ∷ text_lines (drop_through 10 (x ∷ xs))
first_line_at x [] = at (x == 10) refl
  where
    at : (b : Bool) → (x == 10) ≡ b → text_lines (x ∷ []) ≡ strip_last 10 (take_through 10 (x ∷ [])) ∷ text_lines (drop_through 10 (x ∷ []))
    at true e = simp e
    at false e = simp e
first_line_at x (y ∷ ys) = at (first_line_at y ys) (x == 10) refl
  where
    at : text_lines (y ∷ ys) ≡ strip_last 10 (take_through 10 (y ∷ ys)) ∷ text_lines (drop_through 10 (y ∷ ys))
        → (b : Bool) → (x == 10) ≡ b → text_lines (x ∷ y ∷ ys)
        ≡ strip_last 10 (take_through 10 (x ∷ y ∷ ys)) ∷ text_lines (drop_through 10 (x ∷ y ∷ ys))
    at later true e =
        ap text_pieces (strip_alike x y ys) ∙ slice_split-cons_yes (λ b. b == 10) x (strip_last 10 (y ∷ ys)) e
        ∙ sym (ap (λ b. strip_last 10 (if b then x ∷ [] else x ∷ take_through 10 (y ∷ ys)) ∷ text_lines (if b then y ∷ ys
        else drop_through 10 (y ∷ ys))) e ∙ ap (λ b. (if b then [] else x ∷ []) ∷ text_lines (y ∷ ys)) e)
    at later false e =
        ap text_pieces (strip_alike x y ys) ∙ slice_split-cons_no (λ b. b == 10) x (strip_last 10 (y ∷ ys)) e
        ∙ ap (onto_first x) later
        ∙ sym (ap (λ b. strip_last 10 (if b then x ∷ [] else x ∷ take_through 10 (y ∷ ys)) ∷ text_lines (if b then y ∷ ys
        else drop_through 10 (y ∷ ys))) e
        ∙ ap (λ l. l ∷ text_lines (drop_through 10 (y ∷ ys))) (strip_front x y (take_through 10 ys) (y == 10)))

pub first_line_of : (xs : List ℕ) → 0 < length xs → text_lines xs ≡ strip_last 10 (take_through 10 xs) ∷ text_lines (drop_through 10 xs)
first_line_of [] h = absurd (omega arith)
first_line_of (x ∷ xs) h = first_line_at x xs

-- ---- a line with its LF

no_byte : (x : ℕ) → x ≢ 10 → (x == 10) ≡ false
no_byte x h = at (x == 10) refl
  where
    at : (b : Bool) → (x == 10) ≡ b → (x == 10) ≡ false
    at true e = absurd (h (eqb-true x 10 e))
    at false e = e

-- bytes whose last one alone is LF are a line
stops_alike : (x y : ℕ) (ys : List ℕ) → StopsAt (x ∷ y ∷ ys) 10 → (x ≢ 10) × StopsAt (y ∷ ys) 10
stops_alike x y ys h =
    let a : length (x ∷ y ∷ ys) - 1 ≡ suc (length ys) = omega arith in
    let b : length (y ∷ ys) - 1 ≡ length ys = omega arith in
    let all : All (λ z. z ≢ 10) (x ∷ take (length ys) (y ∷ ys)) = subst (λ n. All (λ z. z ≢ 10) (take n (x ∷ y ∷ ys))) a h in (
      All-head (λ z. z ≢ 10) x (take (length ys) (y ∷ ys)) all,
      subst (λ n. All (λ z. z ≢ 10) (take n (y ∷ ys))) (sym b) (All-tail (λ z. z ≢ 10) x (take (length ys) (y ∷ ys)) all),
    )

both : {A : Type 0} (b : Bool) (a : A) → (if b then a else a) ≡ a
both true a = refl
both false a = refl

stops_through : (xs : List ℕ) → StopsAt xs 10 → (take_through 10 xs ≡ xs) × (drop_through 10 xs ≡ [])
stops_through [] h = (refl, refl)
stops_through (x ∷ []) h = (both (x == 10) (x ∷ []), both {A = List ℕ} (x == 10) [])
stops_through (x ∷ y ∷ ys) h =
    let one = stops_alike x y ys h in
    let rest = stops_through (y ∷ ys) one.1 in
    let no = no_byte x one.0 in (
      ap (λ b. if b then x ∷ [] else x ∷ take_through 10 (y ∷ ys)) no ∙ ap (λ l. x ∷ l) rest.0,
      ap (λ b. if b then y ∷ ys else drop_through 10 (y ∷ ys)) no ∙ rest.1,
    )

pub one_line : (line : List ℕ) → 0 < length line → StopsAt line 10 → text_lines line ≡ strip_last 10 line ∷ []
one_line line some stops =
    let through = stops_through line stops in
    first_line_of line some ∙ ap (λ l. strip_last 10 l ∷ text_lines (drop_through 10 line)) through.0
    ∙ ap (λ l. strip_last 10 line ∷ text_lines l) through.1
