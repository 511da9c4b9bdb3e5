-- Pairs of hexadecimal digits.
use Rattle.std.proofs.Common.{◌≡◌, ℕ, ◌+◌, ◌*◌, ◌%◌, ◌<◌, List, length, Option, Some, None, Ok, ap, sym, ◌∙◌, arith, refl}
use Rattle.std.specs.Prelude.{unwrap_or}
use Rattle.hex.specs.Hex.{hex_digit_value, digit_or_error, value_at, pair_value, decode_of, decode_pairs, ◌>>=◌}

-- a value below 16 comes from a hexadecimal digit
pub digit_reads : (b v : ℕ) → v ≡ unwrap_or (hex_digit_value b) 255 → v < 16 → hex_digit_value b ≡ Some v
digit_reads b v e h = at (hex_digit_value b) e
  where
    at : (o : Option ℕ) → v ≡ unwrap_or o 255 → o ≡ Some v
    at None e = absurd (omega arith)
    at (Some x) e = ap Some (sym e)

-- two hexadecimal digits make a byte
pub pair_reads : (a b i h l : ℕ) → hex_digit_value a ≡ Some h → hex_digit_value b ≡ Some l → h < 16 → l < 16
    → pair_value a b i ≡ Ok (h % 16 * 16 + l % 16)
pair_reads a b i h l ea eb hs ls =
    ap (λ (o : Option ℕ). digit_or_error a i o >>= (λ x. value_at b (i + 1) >>= (λ y. Ok (x * 16 + y)))) ea
    ∙ ap (λ (o : Option ℕ). digit_or_error b (i + 1) o >>= (λ y. Ok (h * 16 + y))) eb ∙ ap Ok (omega arith)

-- a text of 40 digits is decoded pair by pair
pub decode_of-pairs : (text : List ℕ) → length text ≡ 40 → decode_of text ≡ decode_pairs 0 text
decode_of-pairs text h = rw h refl
