use Rattle.std.proofs.Common.{◌≡◌, ◌*◌, ◌++◌, length, take, drop}
use Rattle.hex.specs.Hex.{encode_lower}
use Rattle.gixp_hash.proofs.digits.encode.Given as goal

abbrev pub invariant-loop-i : goal.invariant-loop-i
invariant-loop-i l = (length l.digits ≡ 40) × (take (2 * l.i) l.digits ++ encode_lower (drop l.i l.bytes) ≡ encode_lower l.bytes)
