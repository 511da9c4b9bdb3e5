-- The answers of the shell.
use Rattle.std.specs.Prelude.{ℕ, ◌==◌, List, take, Option, Some, None}
use Rattle.std.specs.List.{position}
use Rattle.gixp_remote_rules.specs.Number.{number_of}

abbrev pub number_before : List ℕ → Option ℕ → Option ℕ
number_before line None = None
number_before line (Some at) = number_of (take at line)

-- the number before the line feed (10)
abbrev pub answer_of : List ℕ → Option ℕ
answer_of line = number_before line (position (λ b. b == 10) line)
