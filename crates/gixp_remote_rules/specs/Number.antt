-- Numbers of 32 bits in decimal digits.
use Rattle.std.specs.Prelude.{ℕ, ◌+◌, ◌-◌, ◌*◌, ◌==◌, ◌&&◌, nat_le, nat_lt, if◌then◌else◌, List, [], ◌∷◌, length, Option, Some, None}

-- a digit more, if the result fits 32 bits
abbrev pub with_digit : ℕ → ℕ → Option ℕ
with_digit n d = if nat_le 48 d && nat_le d 57 && nat_lt (10 * n + (d - 48)) 4294967296 then Some (10 * n + (d - 48)) else None

-- the digits after a number
abbrev pub number_after : ℕ → List ℕ → Option ℕ
number_after n [] = Some n
number_after n (d ∷ ds) = elim (with_digit n d) [ None ↦ None | Some more ↦ number_after more ds ]

abbrev pub number_of : List ℕ → Option ℕ
number_of digits = if length digits == 0 then None else number_after 0 digits
