use Rattle.std.proofs.Common.{◌≡◌, length, true}
use Rattle.gixp_hash.specs.Digits.{AreValuesBelow}
use Rattle.gixp_hash.proofs.digits.values_of.Given as goal

abbrev pub invariant-loop-i : goal.invariant-loop-i
invariant-loop-i l = (length l.values ≡ 40) × (l.all ≡ true → AreValuesBelow l.i l.digits l.values)
