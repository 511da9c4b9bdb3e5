-- Two tests that decide the same fact.
use Rattle.std.proofs.Common.{◌≡◌, refl, Bool, true, false}
use Rattle.std.specs.Prelude.{IsTrue, ◌↔◌}
use Rattle.std.specs.Bool.{Decides}

-- they are equal
pub same_test : (a b : Bool) (P : Type 0) → IsTrue a ↔ P → Decides b P → a ≡ b
same_test true true P h k = refl
same_test false false P h k = refl
same_test true false P h k = absurd (let e = k.1 (h.0 refl) in cc)
same_test false true P h k = absurd (let e = h.1 (k.0 refl) in cc)
