-- The environment of a process, as `/proc/PID/environ` has it (proc(5)).
use Rattle.std.specs.Prelude.{ℕ, ◌==◌, nat_eq, if◌then◌else◌, List, [], ◌∷◌, ◌++◌, drop, length, Option, Some, None}
use Rattle.std.specs.List.{starts_with, slice_split}
use Rattle.gixp_remote_rules.specs.Proxy.{or_else}

-- the value of a line that begins with a name and an equals sign
abbrev pub value_after : List ℕ → List ℕ → Option (List ℕ)
value_after line front = if starts_with nat_eq line front then Some (drop (length front) line) else None

-- the value in the first such line
abbrev pub first_value : List (List ℕ) → List ℕ → Option (List ℕ)
first_value [] front = None
first_value (line ∷ rest) front = or_else (value_after line front) (first_value rest front)

-- the value of a variable: a NUL byte ends each line `NAME=VALUE` (61), and of two lines with a name the first counts (getenv(3))
abbrev pub variable_in : List ℕ → List ℕ → Option (List ℕ)
variable_in environment name = first_value (slice_split (λ b. b == 0) environment) (name ++ 61 ∷ [])
