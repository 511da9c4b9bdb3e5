-- The number that four hexadecimal digits make.
use Rattle.std.proofs.Common.{◌≡◌, ℕ, ◌+◌, ◌*◌, ◌%◌, ◌<◌, List, [], ◌∷◌, length, slice_index, Some, Ok, ap, ◌∙◌, arith}
use Rattle.hex.specs.Hex.{hex_digit_value, decode_pairs}
use Rattle.hex.proofs.Pairs.{decode_pairs-ok_pair, cons_byte}
use Rattle.gixp_hash.proofs.DigitLemmas.{pair_reads}
use Rattle.gixp_packetline.specs.Frames.{pair_number, size_of}

-- four hexadecimal digits make a number
pub four_read : (s : List ℕ) (a b c d : ℕ) → length s ≡ 4 → hex_digit_value (slice_index s 0) ≡ Some a
    → hex_digit_value (slice_index s 1) ≡ Some b
    → hex_digit_value (slice_index s 2) ≡ Some c → hex_digit_value (slice_index s 3) ≡ Some d → a < 16 → b < 16 → c < 16 → d < 16
    → size_of s ≡ Some ((a * 16 + b) * 256 + c * 16 + d)
unfolding decode_pairs
four_read [] a b c d n ea eb ec ed la lb lc ld = absurd (omega arith)
four_read (x ∷ []) a b c d n ea eb ec ed la lb lc ld = absurd (omega arith)
four_read (x ∷ y ∷ []) a b c d n ea eb ec ed la lb lc ld = absurd (omega arith)
four_read (x ∷ y ∷ z ∷ []) a b c d n ea eb ec ed la lb lc ld = absurd (omega arith)
four_read (x ∷ y ∷ z ∷ w ∷ []) a b c d n ea eb ec ed la lb lc ld =
    let high = pair_reads x y 0 a b ea eb la lb in
    let low = pair_reads z w 2 c d ec ed lc ld in
    let both : decode_pairs 0 (x ∷ y ∷ z ∷ w ∷ []) ≡ Ok ((a % 16 * 16 + b % 16) ∷ (c % 16 * 16 + d % 16) ∷ []) =
    decode_pairs-ok_pair 0 x y _ (z ∷ w ∷ []) high ∙ ap (cons_byte (a % 16 * 16 + b % 16)) (decode_pairs-ok_pair 2 z w _ [] low) in
    ap pair_number both ∙ ap Some (omega arith)
four_read (x ∷ y ∷ z ∷ w ∷ v ∷ more) a b c d n ea eb ec ed la lb lc ld = absurd (omega arith)
