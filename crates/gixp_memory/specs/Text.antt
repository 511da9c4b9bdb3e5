-- Output of git commands that is read line by line.
use Rattle.std.specs.Prelude.{◌≡◌, ◌-◌, ◌<◌, ℕ, List, [], ◌∷◌, take, drop, nat_eq, Bool, Option, Some, None, option_and_then, Result, Ok, Err}
use Rattle.std.specs.Cmp.Lexicographic.{pointwise}
use Rattle.gixp_utils.specs.Lines.{text_lines}
use Rattle.gixp_memory.specs.declared.texts.TextError.{TextError}
use Rattle.gixp_memory.specs.declared.texts.TextError.TheVariants.{Line, Memory}

-- whether two texts are equal
abbrev pub is_text : List ℕ → List ℕ → Bool
is_text = pointwise nat_eq

-- the state after some lines; none where a line can't be read
abbrev pub after_lines : {S : Type 0} → (S → List ℕ → Option S) → S → List (List ℕ) → Option S
after_lines step s [] = Some s
after_lines step s (line ∷ lines) = option_and_then (λ t. after_lines step t lines) (step s line)

-- the first of these lines can't be read
abbrev pub BeginsUnread : {S : Type 0} → (S → List ℕ → Option S) → S → List (List ℕ) → Type 0
BeginsUnread step s [] = ⊥
BeginsUnread step s (line ∷ lines) = step s line ≡ None

-- so many lines were read, and no other
abbrev pub ReadsSome : {S : Type 0} → (S → List ℕ → Option S) → S → List (List ℕ) → ℕ → S → Type 0
ReadsSome step old lines n new = after_lines step old (take n lines) ≡ Some new

-- a text is read: all lines; or those before the line with a number, which can't be read; or some, where an allocation failed
abbrev pub FillsByText : {S : Type 0} → (S → List ℕ → Option S) → S → List ℕ → S → Result (Unit {0}) TextError → Type 0
FillsByText step old text new (Ok _) = after_lines step old (text_lines text) ≡ Some new
FillsByText step old text new (Err (Line n)) = (0 < n) × ReadsSome step old (text_lines text) (n - 1) new
    × BeginsUnread step new (drop (n - 1) (text_lines text))
FillsByText step old text new (Err Memory) = (n : ℕ) × ReadsSome step old (text_lines text) n new
