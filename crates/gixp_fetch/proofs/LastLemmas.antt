-- All rounds but the last.
use Rattle.std.proofs.Common.{◌≡◌, List, [], ◌∷◌, ◌++◌, length, refl, ap, arith}
use Rattle.gixp_negotiate.specs.declared.negotiate.Round.{Round}
use Rattle.gixp_fetch.specs.Bound.{but_last}

pub but_last_more : (rs : List Round) (r : Round) → but_last (rs ++ r ∷ []) ≡ rs
but_last_more [] r = refl
but_last_more (s ∷ []) r = refl
but_last_more (s ∷ t ∷ rs) r = ap (λ x. s ∷ x) (but_last_more (t ∷ rs) r)

pub but_last_length : (r : Round) (rs : List Round) → length (but_last (r ∷ rs)) ≡ length rs
but_last_length r [] = refl
but_last_length r (s ∷ rs) = let h = but_last_length s rs in omega arith
