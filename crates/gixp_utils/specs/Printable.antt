-- Text of a server, as a terminal may show it: a question mark replaces each control character, except tabs.
use Rattle.std.specs.Prelude.{ℕ, Bool, ◌==◌, ◌&&◌, ◌||◌, not, nat_lt, nat_le, if◌then◌else◌}
use Rattle.std.specs.Char.{is_control as is_control_char}

-- by the byte before it: an ASCII control character other than a tab, or in UTF-8 the second byte of one from U+0080 to U+009F
abbrev pub is_control : ℕ → ℕ → Bool
is_control before b = (nat_lt b 32 && not (b == 9)) || b == 127 || (before == 194 && nat_le 128 b && nat_lt b 160)

abbrev pub visible : ℕ → ℕ → ℕ
visible before b = if is_control before b then 63 else b

-- a character of a UTF-8 text
abbrev pub visible_char : ℕ → ℕ
visible_char c = if is_control_char c && not (c == 9) then 63 else c
