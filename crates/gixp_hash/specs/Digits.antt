-- The values of hexadecimal digits.
use Rattle.std.specs.Prelude.{◌≡◌, ℕ, ◌<◌, List, length, slice_index, Some}
use Rattle.hex.specs.Hex.{hex_digit_value}

-- the first n bytes are hexadecimal digits with these values
abbrev pub AreValuesBelow : ℕ → List ℕ → List ℕ → Type 0
AreValuesBelow n digits values = (k : ℕ) → k < n → (hex_digit_value (slice_index digits k) ≡ Some (slice_index values k))
    × (slice_index values k < 16)

-- each byte is a hexadecimal digit with its value
abbrev pub AreValues : List ℕ → List ℕ → Type 0
AreValues digits values = AreValuesBelow (length digits) digits values
