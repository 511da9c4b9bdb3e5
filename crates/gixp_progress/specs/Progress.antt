-- The calls of a progress reporter. git's progress lines become such calls (gitprotocol-pack, "Packfile Data", band 2).
use Rattle.std.specs.Prelude.{ℕ, List, [], ◌∷◌, Option, ◌≡◌}

-- a call with its arguments
pub data ProgressCall : Type 0 where
  init : Option ℕ → List ℕ → ProgressCall
  step : ProgressCall
  set : ℕ → ProgressCall
  set_name : List ℕ → ProgressCall
  fail : List ℕ → ProgressCall

-- exactly these calls were made, in this order
abbrev pub ReportedCalls : {P : Type 0} → (P → ProgressCall → P → Type 0) → P → List ProgressCall → P → Type 0
ReportedCalls reported old [] new = new ≡ old
ReportedCalls {P} reported old (c ∷ cs) new = (now : P) × reported old c now × ReportedCalls reported now cs new
