-- Texts that are written over others.
use Rattle.std.proofs.Common.{◌≡◌, ℕ, suc, ◌+◌, ◌-◌, ◌/◌, ◌%◌, ◌<◌, ◌≤◌, List, [], ◌∷◌, ◌++◌, length, take, drop, refl, ap, sym, ◌∙◌, arith, append_assoc, append-nil, length-append, length-drop, drop-drop}
use Rattle.std.specs.Prelude.{codes, slice_range}
use Rattle.std.proofs.lemmas.List.{length-take-le, drop_at}
use Rattle.std.proofs.Math.Seq.{take-append-add}
use Rattle.hex.specs.Hex.{lower_digits}
use Rattle.hex.proofs.HexLemmas.{length-encode_with}
use Rattle.gixp_packetline.specs.FrameText.{digits_of}
use Rattle.gixp_plain_responses.specs.Band.{band_text, last_text}

pub digits-length : (n : ℕ) → length (digits_of n) ≡ 4
digits-length n = length-encode_with lower_digits (n / 256 ∷ n % 256 ∷ [])

pub take_past : (n k : ℕ) (xs ys : List ℕ) → length xs ≡ n → take (n + k) (xs ++ ys) ≡ xs ++ take k ys
take_past n k xs ys h = ap (λ m. take (m + k) (xs ++ ys)) (sym h) ∙ take-append-add xs ys k

pub take_front : (n : ℕ) (xs ys : List ℕ) → length xs ≡ n → take n (xs ++ ys) ≡ xs
take_front n xs ys h =
    let e : n + 0 ≡ n = omega arith in
    ap (λ m. take m (xs ++ ys)) (sym e) ∙ take_past n 0 xs ys h ∙ append-nil xs

-- `common` in place of `continue`
pub common_is : (r one two d t : List ℕ) → length d ≡ 4 → length t ≡ 8 → 56 ≤ length r → one ≡ d ++ drop 4 r
    → two ≡ (take 48 one ++ t) ++ drop 56 one → take 56 two ≡ d ++ (take 44 (drop 4 r) ++ t)
common_is r one two d t four eight long e f =
    let front : take 48 one ≡ d ++ take 44 (drop 4 r) = ap (take 48) e ∙ take_past 4 44 d (drop 4 r) four in
    let part : length (take 44 (drop 4 r)) ≡ 44 = length-take-le 44 (drop 4 r) (omega (arith, length-drop 4 r)) in
    let len : length (d ++ take 44 (drop 4 r)) ≡ 48 = omega (arith, length-append d (take 44 (drop 4 r)), part, four) in
    ap (take 56) (f ∙ append_assoc (take 48 one) t (drop 56 one)) ∙ ap (λ xs. take 56 (xs ++ (t ++ drop 56 one))) front
    ∙ take_past 48 8 (d ++ take 44 (drop 4 r)) (t ++ drop 56 one) len
    ∙ ap (λ xs. (d ++ take 44 (drop 4 r)) ++ xs) (take_front 8 t (drop 56 one) eight)
    ∙ append_assoc d (take 44 (drop 4 r)) t

-- the digits and the band before the content
pub band_is : (r one two : List ℕ) (end : ℕ) → 5 ≤ end → end ≤ length r → one ≡ digits_of end ++ drop 4 r
    → two ≡ (take 4 one ++ 1 ∷ []) ++ drop 5 one → take end two ≡ band_text (slice_range r 5 end)
band_is r one two end some there e f =
    let d = digits_of end in
    let four : length d ≡ 4 = digits-length end in
    let front : take 4 one ≡ d = ap (take 4) e ∙ take_front 4 d (drop 4 r) four in
    let back : drop 5 one ≡ drop 5 r = ap (drop 5) e ∙ sym (drop-drop 1 4 (d ++ drop 4 r))
    ∙ ap (drop 1) (drop_at d (drop 4 r) 4 four) ∙ drop-drop 1 4 r in
    let whole : 4 + suc (end - 5) ≡ end = omega arith in
    let len : length (slice_range r 5 end) ≡ end - 5 = length-take-le (end - 5) (drop 5 r) (omega (arith, length-drop 5 r)) in
    let count : end ≡ 4 + length (1 ∷ slice_range r 5 end) = omega (arith, len) in
    ap (take end) (f ∙ append_assoc (take 4 one) (1 ∷ []) (drop 5 one))
    ∙ ap (λ xs. take end (xs ++ (1 ∷ drop 5 one))) front ∙ ap (λ xs. take end (d ++ (1 ∷ xs))) back
    ∙ ap (λ n. take n (d ++ (1 ∷ drop 5 r))) (sym whole) ∙ take_past 4 (suc (end - 5)) d (1 ∷ drop 5 r) four
    ∙ ap (λ n. digits_of n ++ (1 ∷ slice_range r 5 end)) count

pub last_of : (content : List ℕ) → 0 < length content → last_text content ≡ band_text content ++ codes "0000"
last_of [] h = absurd (omega arith)
last_of (b ∷ content) h = refl

-- a flush packet after the last packet
pub last_is : (one two content : List ℕ) (end : ℕ) → 0 < length content → end ≤ length one → take end one ≡ band_text content
    → two ≡ (take end one ++ codes "0000") ++ drop (end + 4) one → take (end + 4) two ≡ last_text content
last_is one two content end some there e f =
    ap (take (end + 4)) (f ∙ append_assoc (take end one) (codes "0000") (drop (end + 4) one))
    ∙ take_past end 4 (take end one) (codes "0000" ++ drop (end + 4) one) (length-take-le end one there)
    ∙ ap (λ xs. xs ++ codes "0000") e ∙ sym (last_of content some)
