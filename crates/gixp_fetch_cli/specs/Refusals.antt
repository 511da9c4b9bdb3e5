-- Why a command line is refused.
use Rattle.std.specs.Prelude.{◌≡◌, ◌&&◌, ◌||◌, ℕ, ℤ, ⊤, Bool, true, false, not, List, [], ◌∷◌, codes, Some, None, Result, Ok, Err, slice_get}
use Rattle.std.specs.Str.{bytes_eq}
use Rattle.gixp_refspec.specs.Name.{is_partial_name}
use Rattle.gixp_fetch_common.specs.declared.haves.Haves.{Haves}
use Rattle.gixp_fetch_cli.specs.declared.options.ProgramOptions.{ProgramOptions}
use Rattle.gixp_fetch_cli.specs.declared.options.OptionError.{OptionError}
use Rattle.gixp_fetch_cli.specs.declared.options.OptionError.TheVariants.{Line as BadLine, Value as BadValue, Conflict, Needs, Operands, Memory}
use Rattle.gixp_fetch_cli.specs.CommandLine.{LineParts, LineFault, IsLineFault}
use Rattle.gixp_fetch_cli.specs.Choices.{value, has, has_conflict, has_history, version_of, tags_of, IsHaves, IsNumber, IsSeconds, mixes_report, AsksOptions}

-- ---- values

-- this word names no negotiator
abbrev pub IsNoHaves : List ℕ → Type 0
IsNoHaves word = (haves : Haves) → IsHaves (Some word) haves → ⊥

-- this word isn't a number below 2 ^ 32
abbrev pub IsNoNumber : List ℕ → Type 0
IsNoNumber word = (n : ℕ) → IsNumber word n → ⊥

-- this word isn't such a number, or is 0, which is no depth
abbrev pub IsNoDepth : List ℕ → Type 0
IsNoDepth word = (n : ℕ) → IsNumber word n → n ≡ 0

-- this word isn't a time in seconds
abbrev pub IsNoTime : List ℕ → Type 0
IsNoTime word = (t : ℤ) → IsSeconds word t → ⊥

-- an option was given a value that it can't have: its last one, or any of `--exclude`
pub data HasBadValue (line : LineParts) (name word : List ℕ) : Type 0 where
  bad_version : name ≡ codes "--version" → value line (codes "--version") ≡ Some word → version_of (Some word) ≡ None
      → HasBadValue line name word
  bad_tags : name ≡ codes "--tags" → value line (codes "--tags") ≡ Some word → tags_of (Some word) ≡ None → HasBadValue line name word
  bad_haves : name ≡ codes "--negotiator" → value line (codes "--negotiator") ≡ Some word → IsNoHaves word → HasBadValue line name word
  bad_depth : name ≡ codes "--depth" → value line (codes "--depth") ≡ Some word → IsNoDepth word → HasBadValue line name word
  bad_deepening : name ≡ codes "--deepen" → value line (codes "--deepen") ≡ Some word → IsNoNumber word → HasBadValue line name word
  bad_time : name ≡ codes "--since" → value line (codes "--since") ≡ Some word → IsNoTime word → HasBadValue line name word
  bad_name : name ≡ codes "--exclude" → (k : ℕ) → slice_get line.settings k ≡ Some (codes "--exclude", word)
      → is_partial_name word ≡ false → HasBadValue line name word

-- ---- options that can't be used together

-- an option that leaves part of the history out
abbrev pub is_cut : List ℕ → Bool
is_cut name = bytes_eq name (codes "--since") || bytes_eq name (codes "--exclude")

-- one that counts commits
abbrev pub is_counted : List ℕ → Bool
is_counted name = bytes_eq name (codes "--depth") || bytes_eq name (codes "--deepen")

-- an option for the depth other than those
abbrev pub is_extent : List ℕ → Bool
is_extent name = bytes_eq name (codes "--unshallow") || is_counted name

-- two options that can't be used together, in the order in which they are reported: two different ones that count or ask for all,
-- or one that cuts and one of those
abbrev pub excludes_other : List ℕ → List ℕ → Bool
excludes_other one other =
    (is_extent one && is_counted other && not (bytes_eq one other)) || (is_cut one && is_extent other)

-- ---- options that need another

-- an option is there without the one that it needs
pub data LacksOther (line : LineParts) (one other : List ℕ) : Type 0 where
  no_answers : one ≡ codes "--ask" → other ≡ codes "--answers" → has line (codes "--ask") ≡ true → has line (codes "--answers") ≡ false
      → LacksOther line one other
  no_questions : one ≡ codes "--answers" → other ≡ codes "--ask" → has line (codes "--answers") ≡ true → has line (codes "--ask") ≡ false
      → LacksOther line one other
  no_list : one ≡ codes "--keep-open" → other ≡ codes "--list" → has line (codes "--keep-open") ≡ true → has line (codes "--list") ≡ false
      → LacksOther line one other
  no_boundary : one ≡ codes "a depth" → other ≡ codes "--shallow" → has_history line ≡ true → has line (codes "--shallow") ≡ false
      → LacksOther line one other
  no_report : one ≡ codes "standard output as TO" → other ≡ codes "--report or --quiet" → (to : List ℕ) → mixes_report line to ≡ true
      → LacksOther line one other

-- ---- a refusal

-- whether the operands are of a list (two files), or of a fetch (two files, a pack, and a refspec or more)
abbrev pub fits_usage : (lists : Bool) → List (List ℕ) → Bool
fits_usage lists (from ∷ to ∷ []) = lists
fits_usage lists (from ∷ to ∷ pack ∷ spec ∷ specs) = not lists
fits_usage lists _ = false

-- why a parsed command line is refused: a value that an option can't have, two options that are there and can't be
-- used together, one without the one that it needs, operands that fit neither usage, or a failed allocation
abbrev pub RefusesOptions : LineParts → OptionError → Type 0
RefusesOptions line (BadLine e) = ⊥
RefusesOptions line (BadValue name word) = HasBadValue line name.now word.now
RefusesOptions line (Conflict one other) = (has_conflict line ≡ true) × (has line one.now ≡ true) × (has line other.now ≡ true)
    × (excludes_other one.now other.now ≡ true)
RefusesOptions line (Needs one other) = LacksOther line one.now other.now
RefusesOptions line Operands = fits_usage (has line (codes "--list")) line.operands ≡ false
RefusesOptions line Memory = ⊤

-- the refusal of a line that can't be parsed
abbrev pub IsLineRefusal : LineFault → OptionError → Type 0
IsLineRefusal fault (BadLine e) = IsLineFault fault e
IsLineRefusal fault Memory = ⊤
IsLineRefusal fault _ = ⊥

-- a call that reads a command line
abbrev pub ReadsOptions : Result LineParts LineFault → Result ProgramOptions OptionError → Type 0
ReadsOptions (Ok line) (Ok options) = AsksOptions line options
ReadsOptions (Ok line) (Err e) = RefusesOptions line e
ReadsOptions (Err fault) (Ok options) = ⊥
ReadsOptions (Err fault) (Err e) = IsLineRefusal fault e
