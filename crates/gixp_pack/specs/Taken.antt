-- The state of a pack that is checked piece by piece.
use Rattle.std.specs.Prelude.{◌≡◌, ℕ, ◌-◌, ◌^◌, min, List, length, take, drop}
use Rattle.sha1.specs.Sha1.{Holds}
use Rattle.gixp_pack.specs.declared.check.PackCheck.{PackCheck}

-- these bytes were taken so far
pub record HasTaken (c : PackCheck) (m : List ℕ) : Type 0 where
  pub hashed : Holds c.hasher (take (length m - 20) m)
  pub header : c.header.items ≡ take 12 m
  pub last : c.last.items ≡ drop (length m - 20) m
  pub bytes : c.bytes ≡ min (length m) (2 ^ 64 - 1)
