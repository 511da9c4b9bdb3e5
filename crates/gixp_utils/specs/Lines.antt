-- Texts read line by line, as git writes them.
use Rattle.std.specs.Prelude.{◌==◌, ℕ, List, [], ◌∷◌}
use Rattle.std.specs.List.{slice_split}
use Rattle.std.specs.Io.BufRead.{strip_last}

-- the pieces of a text between its LFs
abbrev pub text_pieces : List ℕ → List (List ℕ)
text_pieces text = slice_split (λ b. b == 10) text

-- the lines of a text without their LFs; the last line may lack its LF
abbrev pub text_lines : List ℕ → List (List ℕ)
text_lines [] = []
text_lines (b ∷ text) = text_pieces (strip_last 10 (b ∷ text))

-- the words of a line, split at each single blank
abbrev pub line_words : List ℕ → List (List ℕ)
line_words line = slice_split (λ b. b == 32) line
