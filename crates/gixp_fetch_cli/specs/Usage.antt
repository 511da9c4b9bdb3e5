-- The sentence for a command line that is refused.
use Rattle.std.specs.Prelude.{ℕ, Bool, true, false, List, [], codes}
use Rattle.gixp_fetch_cli.specs.declared.command_line.LineError.{LineError}
use Rattle.gixp_fetch_cli.specs.declared.command_line.LineError.TheVariants as line
use Rattle.gixp_fetch_cli.specs.declared.options.OptionError.{OptionError}
use Rattle.gixp_fetch_cli.specs.declared.options.OptionError.TheVariants.{Line, Value, Conflict, Needs, Operands, Memory}
use Rattle.gixp_fetch_cli.specs.declared.usage.Sentence.{Sentence}

-- a sentence, as its texts
pub record SentenceValue : Type 0 where
  pub before : List ℕ
  pub one : List ℕ
  pub between : List ℕ
  pub other : List ℕ
  pub after : List ℕ
  pub is_quoted : Bool

abbrev pub sentence_value : Sentence → SentenceValue
sentence_value s = record {
  before = s.before.now;
  one = s.one.now;
  between = s.between.now;
  other = s.other.now;
  after = s.after.now;
  is_quoted = s.is_quoted;
}

-- about one word, or none
abbrev pub about : List ℕ → List ℕ → List ℕ → SentenceValue
about before one between =
    record { before = before; one = one; between = between; other = []; after = []; is_quoted = false }

-- about two
abbrev pub about_two : List ℕ → List ℕ → List ℕ → List ℕ → Bool → SentenceValue
about_two one between other after is_quoted =
    record { before = []; one = one; between = between; other = other; after = after; is_quoted = is_quoted }

abbrev pub line_sentence : LineError → SentenceValue
line_sentence (line.Unknown word) = about (codes "unknown option ") word.now []
line_sentence (line.NoValue name) = about [] name.now (codes " needs a value")
line_sentence line.Memory = about (codes "out of memory") [] []

-- a value that an option can't have is quoted
abbrev pub sentence_of : OptionError → SentenceValue
sentence_of (Line e) = line_sentence e
sentence_of (Value name value) = about_two name.now (codes " can't be ") value.now [] true
sentence_of (Conflict one other) = about_two one.now (codes " and ") other.now (codes " can't be used together") false
sentence_of (Needs one other) = about_two one.now (codes " needs ") other.now [] false
sentence_of Operands = about (codes "wrong number of operands; --help shows the usage") [] []
sentence_of Memory = about (codes "out of memory") [] []
