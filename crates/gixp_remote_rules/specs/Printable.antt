-- Texts without control characters, as git shows them.
use Rattle.std.specs.Prelude.{ℕ, ◌==◌, if◌then◌else◌, List, [], ◌∷◌}
use Rattle.gixp_utils.specs.Printable.{visible}

-- a control character is replaced by a question mark, unless it is a tab or a line feed (10)
abbrev pub printable_byte : ℕ → ℕ → ℕ
printable_byte before b = if b == 10 then b else visible before b

-- the bytes that follow `before`
abbrev pub printable_after : ℕ → List ℕ → List ℕ
printable_after before [] = []
printable_after before (b ∷ text) = printable_byte before b ∷ printable_after b text
