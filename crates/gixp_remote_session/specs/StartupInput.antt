-- The input of the helper at startup.
use Rattle.std.specs.Prelude.{ℕ, if◌then◌else◌, List, Option, Some, None}
use Rattle.std.specs.Io.BufRead.{ends_with_byte, strip_last}

-- a field without the NUL byte that must end it
abbrev pub field_of : List ℕ → Option (List ℕ)
field_of bytes = if ends_with_byte 0 bytes then Some (strip_last 0 bytes) else None
