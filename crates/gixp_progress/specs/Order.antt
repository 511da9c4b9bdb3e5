-- The order of progress lines.
use Rattle.std.specs.Prelude.{ℕ, Option}
use Rattle.std.specs.declared.cmp.Ordering.{Ordering}
use Rattle.std.specs.Ordering.{nat_cmp, ordering_then}
use Rattle.std.specs.Option.{option_cmp}
use Rattle.std.specs.Cmp.Lexicographic.{slice_cmp}
use Rattle.gixp_progress.specs.Line.{LineValue}

-- an absent number precedes each number
abbrev pub number_cmp : Option ℕ → Option ℕ → Ordering
number_cmp = option_cmp nat_cmp

-- by the action, then by the percentage, the step and the maximum
abbrev pub progress_line_cmp : LineValue → LineValue → Ordering
progress_line_cmp a b =
    ordering_then (slice_cmp nat_cmp a.action b.action)
    (ordering_then (number_cmp a.percent b.percent) (ordering_then (number_cmp a.step b.step) (number_cmp a.max b.max)))
