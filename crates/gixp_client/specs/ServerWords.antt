-- A server message that isn't UTF-8, as an error shows it.
use Rattle.std.specs.Prelude.{nat_lt, ℕ, if◌then◌else◌}
use Rattle.gixp_utils.specs.Printable.{visible}

-- a question mark replaces each control character that isn't a tab, and each byte that isn't ASCII
abbrev pub visible_ascii : ℕ → ℕ
visible_ascii b = if nat_lt b 128 then visible 0 b else 63
