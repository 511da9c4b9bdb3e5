-- The numbers of a progress line, such as `45%`, `9` and `20` of `Counting objects: 45% (9/20)`.
use Rattle.std.specs.Prelude.{ℕ, ◌+◌, ◌-◌, ◌*◌, nat_eq, nat_le, nat_lt, Bool, not, ◌&&◌, if◌then◌else◌, List, [], ◌∷◌, drop, codes, Option, Some, None}
use Rattle.std.specs.List.{before_first, position_or_len, starts_with}
use Rattle.gixp_progress.specs.declared.numbers.Numbers.{Numbers}

abbrev pub is_digit : ℕ → Bool
is_digit b = nat_le 48 b && nat_le b 57

abbrev pub is_other : ℕ → Bool
is_other b = not (is_digit b)

-- the text from its first digit on
abbrev pub from_digit : List ℕ → List ℕ
from_digit text = drop (position_or_len is_digit text) text

-- the first run of digits, in full
abbrev pub first_run : List ℕ → List ℕ
first_run text = before_first is_other (from_digit text)

abbrev pub after_run : List ℕ → List ℕ
after_run text = drop (position_or_len is_other (from_digit text)) (from_digit text)

-- the number that these digits write after those of n
abbrev pub number_after : ℕ → List ℕ → ℕ
number_after n [] = n
number_after n (d ∷ ds) = number_after (n * 10 + (d - 48)) ds

-- a number, unless it exceeds 64 bits
abbrev pub fit : ℕ → Option ℕ
fit n = if nat_lt n 18446744073709551616 then Some n else None

abbrev pub with_digit : ℕ → ℕ → Option ℕ
with_digit n d = fit (n * 10 + (d - 48))

-- the number that digits write, unless it exceeds 64 bits
unfoldable pub fit_number : List ℕ → Option ℕ
fit_number run = fit (number_after 0 run)

-- the number of a run, unless the run is empty or exceeds 64 bits
abbrev pub number_in : List ℕ → Option ℕ
number_in [] = None
number_in (d ∷ ds) = fit_number (d ∷ ds)

-- a number, unless it exceeds 32 bits
abbrev pub small : Option ℕ → Option ℕ
small None = None
small (Some n) = if nat_lt n 4294967296 then Some n else None

-- a percent sign follows
abbrev pub is_percentage : List ℕ → Bool
is_percentage rest = starts_with nat_eq rest (codes "%")

-- the first run of this text is the step, the next one the maximum
abbrev pub dealt_after : Option ℕ → List ℕ → Numbers
dealt_after percent text = record { percent = percent; step = number_in (first_run text); max = number_in (first_run (after_run text)) }

-- the first run is the percentage if a percent sign follows; a first run that exceeds 64 bits is skipped
abbrev pub dealt_by : Option ℕ → List ℕ → Numbers
dealt_by None text = dealt_after None (after_run text)
dealt_by (Some n) text =
    if is_percentage (after_run text) then dealt_after (small (number_in (first_run text))) (after_run text)
    else dealt_after None text

-- the numbers of the text after the colon
abbrev pub dealt : List ℕ → Numbers
dealt text = dealt_by (fit_number (first_run text)) text
