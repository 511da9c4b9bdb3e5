-- The offset of a byte, or the end of the list.
use Rattle.std.proofs.Common.{◌≡◌, ℕ, ◌≤◌, Bool, List, length, nat_lt, Some, None, cond, inl, inr, refl, arith}
use Rattle.std.specs.Prelude.{unwrap_or}
use Rattle.std.specs.List.{position, position_or_len}
use Rattle.std.proofs.lemmas.Bool.{cases_lt, lt-ltb, le-ltb}
use Rattle.std.proofs.lemmas.List.Sums.{prefix_len-le-length}

-- an offset in the list, or its end
at_or_end : (n len : ℕ) → n ≤ len → unwrap_or (cond (nat_lt n len) (Some n) None) len ≡ n
at_or_end n len h = elim (cases_lt n len) [ inl l ↦ rw (lt-ltb n len l) refl | inr g ↦ rw (le-ltb n len g) (omega arith) ]

-- the first offset that passes the test, or the end
pub unwrap_or-position : (p : ℕ → Bool) (xs : List ℕ) → unwrap_or (position p xs) (length xs) ≡ position_or_len p xs
unwrap_or-position p xs = at_or_end (position_or_len p xs) (length xs) (prefix_len-le-length _ xs)
