-- A parsed command line: the options with their values, and the operands. After `--` each word is an operand.
use Rattle.std.specs.Prelude.{◌≡◌, ℕ, ⊤, List, [], ◌∷◌, ◌++◌, map, Option, Some, None, Result, Ok, Err}
use Rattle.gixp_fetch_cli.specs.declared.command_line.CommandLine.{CommandLine}
use Rattle.gixp_fetch_cli.specs.declared.command_line.Setting.{Setting}
use Rattle.gixp_fetch_cli.specs.declared.command_line.Next.{Next}
use Rattle.gixp_fetch_cli.specs.declared.command_line.Next.TheVariants.{Any, Value, Operand as OperandNext}
use Rattle.gixp_fetch_cli.specs.declared.command_line.LineError.{LineError}
use Rattle.gixp_fetch_cli.specs.declared.command_line.LineError.TheVariants.{Unknown as UnknownOption, NoValue, Memory}
use Rattle.gixp_fetch_cli.specs.declared.command_line.WordKind.{WordKind}
use Rattle.gixp_fetch_cli.specs.declared.command_line.WordKind.TheVariants.{Flag, TakesValue, End, Operand, Unknown}
use Rattle.gixp_fetch_cli.specs.OptionNames.{kind_of, joined_setting}

-- options with their values, and operands
pub record LineParts : Type 0 where
  pub settings : List (List ℕ × List ℕ)
  pub operands : List (List ℕ)

-- what the next word is: any, the value of an option, or an operand
pub data NextWord : Type 0 where
  any : NextWord
  value_of : List ℕ → NextWord
  operand : NextWord

-- why a line can't be parsed: an unknown option, or an option without its value
pub data LineFault : Type 0 where
  unknown : List ℕ → LineFault
  no_value : List ℕ → LineFault

-- the line so far, and how the next word is read
pub record Parting : Type 0 where
  pub line : LineParts
  pub next : NextWord

abbrev pub with_setting : LineParts → (name value : List ℕ) → LineParts
with_setting line name value = record line { settings = line.settings ++ (name, value) ∷ [] }

abbrev pub with_operand : LineParts → List ℕ → LineParts
with_operand line word = record line { operands = line.operands ++ word ∷ [] }

abbrev pub after_word_of_kind : WordKind → LineParts → List ℕ → Result Parting LineFault
after_word_of_kind Flag line word = Ok (record { line = with_setting line word []; next = any })
after_word_of_kind TakesValue line word = Ok (record { line = line; next = value_of word })
after_word_of_kind End line word = Ok (record { line = line; next = operand })
after_word_of_kind Operand line word = Ok (record { line = with_operand line word; next = any })
after_word_of_kind Unknown line word = Err (unknown word)

-- a word that may be an option, with its value where that is joined to it
abbrev pub after_joined : Option (List ℕ × List ℕ) → LineParts → List ℕ → Result Parting LineFault
after_joined (Some s) line word = Ok (record { line = with_setting line s.0 s.1; next = any })
after_joined None line word = after_word_of_kind (kind_of word) line word

abbrev pub after_any_word : LineParts → List ℕ → Result Parting LineFault
after_any_word line word = after_joined (joined_setting word) line word

-- the next word
abbrev pub after_word : LineParts → NextWord → List ℕ → Result Parting LineFault
after_word line any word = after_any_word line word
after_word line (value_of name) word = Ok (record { line = with_setting line name word; next = any })
after_word line operand word = Ok (record { line = with_operand line word; next = operand })

-- the line at its end
abbrev pub closed : LineParts → NextWord → Result LineParts LineFault
closed line any = Ok line
closed line (value_of name) = Err (no_value name)
closed line operand = Ok line

-- the words that are left
abbrev pub line_from : LineParts → NextWord → List (List ℕ) → Result LineParts LineFault
line_from line next [] = closed line next
line_from line next (word ∷ words) = elim (after_word line next word) [ Err e ↦ Err e | Ok p ↦ line_from p.line p.next words ]

-- a command line, without the program's name
abbrev pub line_of : List (List ℕ) → Result LineParts LineFault
line_of words = line_from (record { settings = []; operands = [] }) any words

abbrev pub setting_value : Setting → List ℕ × List ℕ
setting_value s = (s.name.now, s.value.now)

abbrev pub line_value : CommandLine → LineParts
line_value line = record { settings = map setting_value line.settings.items; operands = map (λ w. w.now) line.operands.items }

abbrev pub next_value : Next → NextWord
next_value Any = any
next_value (Value name) = value_of name.now
next_value OperandNext = operand

-- this is the fault, or an allocation failed
abbrev pub IsLineFault : LineFault → LineError → Type 0
IsLineFault fault Memory = ⊤
IsLineFault (unknown word) (UnknownOption w) = w.now ≡ word
IsLineFault (no_value name) (NoValue w) = w.now ≡ name
IsLineFault _ _ = ⊥

abbrev pub IsLineMemory : LineError → Type 0
IsLineMemory Memory = ⊤
IsLineMemory _ = ⊥

-- a call that takes a line apart
abbrev pub ParsesLine : Result LineParts LineFault → Result CommandLine LineError → Type 0
ParsesLine (Ok line) (Ok found) = line_value found ≡ line
ParsesLine (Ok line) (Err e) = IsLineMemory e
ParsesLine (Err fault) (Ok found) = ⊥
ParsesLine (Err fault) (Err e) = IsLineFault fault e

-- a call that takes a word
abbrev pub AddsWord : Result Parting LineFault → LineParts → Result Next LineError → Type 0
AddsWord (Ok p) line (Ok next) = (line ≡ p.line) × (next_value next ≡ p.next)
AddsWord (Ok p) line (Err e) = IsLineMemory e
AddsWord (Err fault) line (Ok next) = ⊥
AddsWord (Err fault) line (Err e) = IsLineFault fault e
