-- The names of the options, and which of them take a value.
use Rattle.std.specs.Prelude.{ℕ, ◌==◌, ◌&&◌, ◌||◌, Bool, false, if◌then◌else◌, List, [], ◌∷◌, map, filter, codes, Option, Some, None}
use Rattle.std.specs.Str.{bytes_eq}
use Rattle.std.specs.List.{list_any, before_first, after_first}
use Rattle.gixp_fetch_cli.specs.declared.command_line.WordKind.{WordKind}
use Rattle.gixp_fetch_cli.specs.declared.command_line.WordKind.TheVariants.{Flag, TakesValue, End, Operand, Unknown}

-- whether an option takes no value
abbrev pub is_flag : List ℕ → Bool
is_flag word =
    bytes_eq word (codes "--list") || bytes_eq word (codes "--keep-open") || bytes_eq word (codes "--unshallow") || bytes_eq word
    (codes "--reject-shallow")
    || bytes_eq word (codes "--quiet") || bytes_eq word (codes "--progress") || bytes_eq word (codes "--help") || bytes_eq word (codes "-V")

abbrev pub is_of_server : List ℕ → Bool
is_of_server word = bytes_eq word (codes "--version") || bytes_eq word (codes "--path") || bytes_eq word
    (codes "--host") || bytes_eq word (codes "--agent")

abbrev pub is_of_repository : List ℕ → Bool
is_of_repository word =
    bytes_eq word (codes "--refs") || bytes_eq word (codes "--commits") || bytes_eq word (codes "--objects") || bytes_eq word
    (codes "--ask")
    || bytes_eq word (codes "--answers") || bytes_eq word (codes "--shallow")

abbrev pub is_of_fetch : List ℕ → Bool
is_of_fetch word =
    bytes_eq word (codes "--depth") || bytes_eq word (codes "--deepen") || bytes_eq word (codes "--since") || bytes_eq word
    (codes "--exclude")
    || bytes_eq word (codes "--tags") || bytes_eq word (codes "--filter") || bytes_eq word (codes "--negotiator")
    || bytes_eq word (codes "--report")

-- whether the word after an option is its value
abbrev pub takes_value : List ℕ → Bool
takes_value word = is_of_server word || is_of_repository word || is_of_fetch word

-- an option and its value in one word: an equals sign (61) stands between them
abbrev pub joined_setting : List ℕ → Option (List ℕ × List ℕ)
joined_setting word =
    if list_any (λ b. b == 61) word && takes_value (before_first (λ b. b == 61) word)
    then Some (before_first (λ b. b == 61) word, after_first (λ b. b == 61) word) else None

-- a dash, and more
abbrev pub is_dashed : List ℕ → Bool
is_dashed (first ∷ second ∷ rest) = first == 45
is_dashed _ = false

-- what a word is that may be an option
abbrev pub kind_of : List ℕ → WordKind
kind_of word =
    if bytes_eq word (codes "--") then End
    else if is_flag word then Flag
    else if takes_value word then TakesValue
    else if is_dashed word then Unknown
    else Operand

-- the later of two values
abbrev pub later : Option (List ℕ) → Option (List ℕ) → Option (List ℕ)
later first None = first
later first (Some value) = Some value

-- the value of an option: the last one that it was given
abbrev pub value_in : List (List ℕ × List ℕ) → List ℕ → Option (List ℕ)
value_in [] name = None
value_in (s ∷ settings) name = later (if bytes_eq s.0 name then Some s.1 else None) (value_in settings name)

-- the values of an option: all that it was given, in their order
abbrev pub values_in : List (List ℕ × List ℕ) → List ℕ → List (List ℕ)
values_in settings name = map (λ s. s.1) (filter (λ s. bytes_eq s.0 name) settings)
