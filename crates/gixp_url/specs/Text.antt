-- Bytes in a text.
use Rattle.std.specs.Prelude.{ℕ, ◌+◌, ◌==◌, Bool, false, List, [], ◌∷◌, take, drop, Option, Some, None}
use Rattle.std.specs.List.{position}

-- the text before the first such byte, and after it
abbrev pub cut : ℕ → List ℕ → Option (List ℕ × List ℕ)
cut byte text = elim (position (λ b. b == byte) text) [ None ↦ None | Some at ↦ Some (take at text, drop (at + 1) text) ]

abbrev pub starts_with_byte : ℕ → List ℕ → Bool
starts_with_byte byte [] = false
starts_with_byte byte (first ∷ rest) = first == byte

-- a program could take the word for an option: it begins with a dash (45)
abbrev pub is_option : List ℕ → Bool
is_option word = starts_with_byte 45 word
