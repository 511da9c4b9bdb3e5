-- The outcome of several calls that read lines.
use Rattle.std.specs.Prelude.{◌≡◌, ℕ, List, Some, IfSome}
use Rattle.gixp_packetline.specs.Pieces.{Pieces}
use Rattle.gixp_packetline.specs.Lines.{before}
use Rattle.gixp_packetline.specs.Reading.{Reading, lines_ahead}

-- these lines were read so far, and nothing else happened
pub record SoFar (old now : Reading) (texts : List (List ℕ)) : Type 0 where
  pub next : IfSome old.to_come (λ p. (q : Pieces) × (now.to_come ≡ Some q) × (lines_ahead old p ≡ before texts (lines_ahead now q)))
  pub stopped : now.stopped ≡ old.stopped
  pub version : now.version ≡ old.version
  pub failures : now.failures ≡ old.failures
  pub held : now.held ≡ old.held
