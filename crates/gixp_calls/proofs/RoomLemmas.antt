-- The room of a caller's buffer.
use Rattle.std.proofs.Common.{◌≡◌, ◌<◌, List, [], ◌∷◌, length, Bool, true, false, arith}
use Rattle.std.specs.Prelude.{◌==◌}

no_both : {X : Type 0} (b : Bool) → b ≡ true → b ≡ false → X
no_both b h e = absurd (cc)

-- a list that isn't empty
pub filled : {A : Type 0} (xs : List A) (b : Bool) → b ≡ (length xs == 0) → b ≡ false → 0 < length xs
filled [] b e f = no_both b e f
filled (x ∷ xs) b e f = omega arith
