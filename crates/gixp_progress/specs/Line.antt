-- A line of progress (gitprotocol-pack, "Packfile Data", band 2).
use Rattle.std.specs.Prelude.{ℕ, ◌==◌, Bool, ◌||◌, if◌then◌else◌, List, [], ◌∷◌, Option, Some, None, is_some}
use Rattle.std.specs.List.{before_first, after_first}
use Rattle.bstr.specs.BStr.{bstr_bytes}
use Rattle.gixp_progress.specs.declared.numbers.Numbers.{Numbers}
use Rattle.gixp_progress.specs.declared.remote_progress.RemoteProgress.{RemoteProgress}
use Rattle.gixp_progress.specs.Numbers.{dealt}

-- the action, the percentage, the steps done, and the number of steps
pub record LineValue : Type 0 where
  pub action : List ℕ
  pub percent : Option ℕ
  pub step : Option ℕ
  pub max : Option ℕ

abbrev pub line_value : RemoteProgress → LineValue
line_value p = record { action = bstr_bytes p.action; percent = p.percent; step = p.step; max = p.max }

abbrev pub is_colon : ℕ → Bool
is_colon b = b == 58

-- whether one of the numbers is present
abbrev pub has_numbers : Numbers → Bool
has_numbers n = is_some n.percent || is_some n.step || is_some n.max

abbrev pub with_numbers : List ℕ → Numbers → Option LineValue
with_numbers action n = if has_numbers n then Some (record { action = action; percent = n.percent; step = n.step; max = n.max }) else None

-- a line without an action is not a progress line
abbrev pub for_action : List ℕ → List ℕ → Option LineValue
for_action [] rest = None
for_action (b ∷ action) rest = with_numbers (b ∷ action) (dealt rest)

-- a progress line: the text before the first colon is the action, the numbers follow it
abbrev pub progress_line : List ℕ → Option LineValue
progress_line line = for_action (before_first is_colon line) (after_first is_colon line)
