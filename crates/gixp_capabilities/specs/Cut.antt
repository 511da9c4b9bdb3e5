-- A text before and after a separator.
use Rattle.std.specs.Prelude.{ℕ, ◌+◌, ◌==◌, List, take, drop, Option, Some, None, position}

-- the parts before and after this offset
abbrev pub parts_at : List ℕ → Option ℕ → List ℕ × Option (List ℕ)
parts_at text None = (text, None)
parts_at text (Some i) = (take i text, Some (drop (i + 1) text))

-- the text before the first such byte, and the text after it, if the byte occurs
abbrev pub cut : ℕ → List ℕ → List ℕ × Option (List ℕ)
cut byte text = parts_at text (position (λ x. x == byte) text)
