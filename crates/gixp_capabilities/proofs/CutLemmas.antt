-- The text before and after the first occurrence of a byte.
use Rattle.std.proofs.Common.{◌≡◌, ℕ, ◌+◌, ◌-◌, ◌<◌, ◌==◌, Bool, true, false, nat_lt, List, length, take, drop, refl, ap, ◌∙◌, arith, Option, Some, None, take_all, length-drop}
use Rattle.std.specs.Prelude.{position}
use Rattle.std.specs.List.{position_or_len}
use Rattle.std.proofs.lemmas.Bool.{lt-ltb, ltb-true, false_from_ne_true}
use Rattle.std.proofs.lemmas.List.{drop-drop}
use Rattle.std.proofs.lemmas.List.Sums.{position_or_len_is}
use Rattle.bstr.specs.Find.{IsFirstByte, is_byte}
use Rattle.gixp_capabilities.specs.Cut.{cut, parts_at}

-- the first offset of a byte, as the definition computes it
place_is : (b : ℕ) (xs : List ℕ) (r : Option ℕ) → IsFirstByte (is_byte b) xs r → position (λ x. x == b) xs ≡ r
place_is b xs None h =
    let p : ℕ → Bool = λ x. x == b in
    let all : position_or_len p xs ≡ length xs =
    position_or_len_is p xs (length xs) 0 (omega arith) (λ k lt. false_from_ne_true _ (h k (omega arith) lt))
    (λ lt. absurd (omega arith)) in
    let none : nat_lt (length xs) (length xs) ≡ false =
    false_from_ne_true _ (λ t. let x = ltb-true (length xs) (length xs) t in absurd (omega arith)) in
    rw (all, none) refl
place_is b xs (Some k) h =
    let p : ℕ → Bool = λ x. x == b in
    let within : k < length xs = h.0.high in
    let at : position_or_len p xs ≡ k =
    position_or_len_is p xs k 0 (omega arith) (λ j lt. false_from_ne_true _ (h.0.before j (omega arith) lt)) (λ _. h.1) in
    let some : nat_lt k (length xs) ≡ true = lt-ltb k (length xs) within in
    rw (at, some) refl

pub cut_nowhere : (b : ℕ) (text : List ℕ) → IsFirstByte (is_byte b) text None → cut b text ≡ (text, None)
cut_nowhere b text h = ap (parts_at text) (place_is b text None h)

-- the text is cut at the first occurrence of the byte
pub cut_at_place : (b : ℕ) (text front rest : List ℕ) (i : ℕ) → front ≡ take i text → rest ≡ drop i text
    → IsFirstByte (is_byte b) text (Some i)
    → cut b text ≡ (front, Some (take (length rest - 1) (drop 1 rest)))
cut_at_place b text front rest i f e p =
    let all : take (length rest - 1) (drop 1 rest) ≡ drop 1 rest =
    take_all (length rest - 1) (drop 1 rest) (let l = length-drop 1 rest in omega arith) in
    let two : drop 1 rest ≡ drop (i + 1) text = rw e (drop-drop 1 i text) in
    ap (parts_at text) (place_is b text (Some i) p) ∙ (rw (f, all, two) refl)
