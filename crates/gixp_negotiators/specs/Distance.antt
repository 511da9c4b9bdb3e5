-- How many commits are skipped between two haves (git-config, `fetch.negotiationAlgorithm`).
use Rattle.std.specs.Prelude.{ℕ, ◌+◌, ◌-◌, ◌/◌, ◌^◌, min}
use Rattle.gixp_negotiators.specs.declared.skipping.Skip.{Skip}

-- the next distance: half as long again, plus one, at most the greatest number of its type
abbrev pub distance_after : ℕ → ℕ
distance_after whole = min (whole / 2 + whole + 1) (2 ^ 32 - 1)

-- a distance with how many are left to skip
abbrev pub skip_of : ℕ → ℕ → Skip
skip_of whole left = record { whole = whole; left = left }
