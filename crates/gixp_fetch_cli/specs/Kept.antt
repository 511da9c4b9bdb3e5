-- A held pack that is to be kept.
use Rattle.std.specs.Prelude.{ℕ, List, Option, Result, Ok, Err}
use Rattle.std.specs.declared.io.ErrorKind.{ErrorKind}
use Rattle.gixp_pack.specs.declared.check.PackSummary.{PackSummary}
use Rattle.gixp_fetch_common.specs.Failures.{FailureIsFile}
use Rattle.gixp_fetch_common.specs.Received.{KeepsHeld, DropsHeld}
use Rattle.gixp_fetch_common.specs.declared.failure.Failure.{Failure}
use Rattle.gixp_fetch_common.specs.declared.receive.Whole.{Whole}

-- the pack is kept, or it is removed and the failure is that of its file
abbrev pub KeepsOrDrops : {P W : Type 0} → (P → W → P → Type 0) → (P → W → P → Type 0) → List ℕ → Option (Whole W) → P
    → Result (Option PackSummary) Failure → P → Type 0
KeepsOrDrops keeps gives_up path whole p (Ok summary) q = KeepsHeld keeps whole p summary q
KeepsOrDrops keeps gives_up path whole p (Err f) q = DropsHeld gives_up whole p q × ((kind : ErrorKind) × FailureIsFile path kind f)
