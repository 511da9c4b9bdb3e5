-- The answer of git's own program for HTTP to a command, which git gets line by line
-- (gitremote-helpers, "list", "fetch"). An empty line ends it.
use Rattle.std.specs.Prelude.{◌≡◌, ℕ, ◌<◌, ◌==◌, ◌&&◌, zero, suc, Bool, true, false, if◌then◌else◌, List, [], ◌++◌, length, Option, Some, IfSome}
use Rattle.std.specs.Io.BufRead.{take_through, drop_through, ends_with_byte}
use Rattle.std.specs.Io.KnownBytes.{Appends}
use Rattle.gixp_remote_rules.specs.declared.relay_answer.AnswerLine.{AnswerLine}
use Rattle.gixp_remote_rules.specs.declared.relay_answer.AnswerLine.TheVariants.{Text, End, Cut}

-- a line with its line feed (10), which may be all of it; without one, the program exited
abbrev pub answer_line : List ℕ → AnswerLine
answer_line line = if ends_with_byte 10 line then (if length line == 1 then End else Text) else Cut

abbrev pub is_text : AnswerLine → Bool
is_text Text = true
is_text line = false

-- the output of the program after so many lines
unfoldable pub after_lines : ℕ → List ℕ → List ℕ
after_lines zero output = output
after_lines (suc n) output = drop_through 10 (after_lines n output)

-- the line after so many others
abbrev pub line_at : ℕ → List ℕ → List ℕ
line_at n output = take_through 10 (after_lines n output)

-- so many lines
unfoldable pub first_lines : ℕ → List ℕ → List ℕ
first_lines zero output = []
first_lines (suc n) output = first_lines n output ++ line_at n output

-- so many lines are neither empty nor cut
unfoldable pub are_text : ℕ → List ℕ → Bool
are_text zero output = true
are_text (suc n) output = are_text n output && is_text (answer_line (line_at n output))

-- the line that ends an answer: an empty one, or else the answer is cut
abbrev pub last_line : Bool → AnswerLine
last_line is_whole = if is_whole then End else Cut

-- git gets each line before the last
pub record IsCopied (is_whole : Bool) (output : List ℕ) (left written now : Option (List ℕ)) (n : ℕ) : Type 0 where
  pub text : are_text n output ≡ true
  pub last : answer_line (line_at n output) ≡ last_line is_whole
  pub rest : left ≡ Some (after_lines (suc n) output)
  pub copied : Appends written now (first_lines n output)

-- the answer in the output that is left of the program, if that is known
abbrev pub CopiesAnswer : Bool → (before left written now : Option (List ℕ)) → Type 0
CopiesAnswer is_whole before left written now =
    IfSome before (λ output. (n : ℕ) × IsCopied is_whole output left written now n)

-- a reply follows each of so many options
abbrev pub RepliesAll : ℕ → (before left : Option (List ℕ)) → Type 0
RepliesAll count before left = IfSome before (λ output. left ≡ Some (after_lines count output))

-- the program exited before it replied to the last
abbrev pub RepliesNotAll : ℕ → Option (List ℕ) → Type 0
RepliesNotAll count before =
    IfSome before (λ output. (n : ℕ) × (n < count) × (answer_line (line_at n output) ≡ Cut))
