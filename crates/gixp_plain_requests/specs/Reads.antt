-- Reads into part of a buffer.
use Rattle.std.specs.Prelude.{◌≡◌, ℕ, ◌+◌, ◌≤◌, List, take, drop, Option, Result, Ok, Err}
use Rattle.std.specs.Io.KnownBytes.{Keeps, Consumes, IsAtEnd}

-- a read into this space: no more bytes than fit, and none only at the end
abbrev pub ReadsSpace : {E : Type 0} → Option (List ℕ) → Option (List ℕ) → (end limit : ℕ) → List ℕ → Result ℕ E → Type 0
ReadsSpace old new end limit room (Ok n) = (end + n ≤ limit) × Consumes old new (take n (drop end room)) × (n ≡ 0 → IsAtEnd new)
ReadsSpace old new end limit room (Err e) = Keeps old new
