-- Quoting for a shell, and the commands that need a shell.
use Rattle.std.specs.Prelude.{ℕ, ◌==◌, ◌||◌, Bool, if◌then◌else◌, List, [], ◌∷◌, ◌++◌, flat_map, codes}
use Rattle.std.specs.List.{list_any}

-- a quote (39) and an exclamation mark (33) are written outside the quotes, after a backslash (92)
abbrev pub quoted_byte : ℕ → List ℕ
quoted_byte b = if b == 39 || b == 33 then 39 ∷ 92 ∷ b ∷ 39 ∷ [] else b ∷ []

abbrev pub quoted : List ℕ → List ℕ
quoted word = 39 ∷ (flat_map quoted_byte word ++ 39 ∷ [])

-- a byte that has a meaning in a shell, as git lists them: a double quote (34) or one of these
abbrev pub is_shell_byte : ℕ → Bool
is_shell_byte b = b == 34 || list_any (λ x. x == b) (codes "|&;<>()$`\\' \t\n*?[#~=%")

-- git passes a command to a shell if it has such a byte; any other command is the name of a program
abbrev pub needs_shell : List ℕ → Bool
needs_shell command = list_any is_shell_byte command
