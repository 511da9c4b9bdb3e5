-- Comparison without case.
use Rattle.std.specs.Prelude.{ℕ, Bool, List, map}
use Rattle.std.specs.Char.{to_ascii_lowercase}
use Rattle.std.specs.Str.{bytes_eq}

abbrev pub is_word : List ℕ → List ℕ → Bool
is_word text word = bytes_eq (map to_ascii_lowercase text) (map to_ascii_lowercase word)
