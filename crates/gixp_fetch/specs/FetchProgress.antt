-- The calls of a progress reporter during a fetch, in order: for each round, and for the pack.
use Rattle.std.specs.Prelude.{◌≡◌, ⊤, ℕ, zero, suc, Bool, true, false, not, List, [], ◌∷◌, ◌++◌, length, codes, Option, Some, None, Result, Ok, Err}
use Rattle.std.specs.Fmt.{decimal}
use Rattle.gixp_progress.specs.Progress.{ProgressCall, step, set_name, ReportedCalls}
use Rattle.gixp_sidebands.specs.Bands.{Side}
use Rattle.gixp_fetch.specs.declared.options.Outcome.{Outcome}

-- the calls before the round with this number, counted from 1
abbrev pub round_calls : ℕ → List ProgressCall
round_calls k = step ∷ set_name (codes "negotiate (round " ++ decimal k ++ codes ")") ∷ []

-- the calls before the pack
abbrev pub pack_calls : List ProgressCall
pack_calls = step ∷ set_name (codes "receiving pack") ∷ []

module _ {P Q : Type 0} (reported : P → ProgressCall → P → Type 0) (adds : P → List ℕ → List ℕ → Q → P → Type 0) where
  -- a part for the server's messages is added, if there is to be one
  abbrev pub AddsRemote : Bool → P → P → Type 0
  AddsRemote false old new = new ≡ old
  AddsRemote true old new = (part : Q) × adds old (codes "remote") (codes "FERP") part new

  -- one round: its calls, then with `sideband-all` its part
  abbrev pub ReportsRound : Bool → ℕ → P → P → Type 0
  ReportsRound banded k old new = (named : P) × ReportedCalls reported old (round_calls k) named × AddsRemote banded named new

  -- so many rounds, from the first on
  abbrev pub ReportsRounds : Bool → ℕ → P → P → Type 0
  ReportsRounds banded zero old new = new ≡ old
  ReportsRounds banded (suc k) old new = (met : P) × ReportsRounds banded k old met × ReportsRound banded (suc k) met new

  module _ {C X : Type 0} (consumes : C → Side → P → Result Bool X → C → Side → P → Type 0) (c : C) where
    -- a part for the messages of the pack was added, if there was to be one, and the consumer got the progress and
    -- took the pack
    pub record LendsProgress (needed : Bool) (old : P) (d : C) (new : P) : Type 0 where
      pub lent : P
      pub added : AddsRemote needed old lent
      pub start : Side
      pub finished : Bool
      pub end : Side
      pub took : consumes c start lent (Ok finished) d end new

    -- a fetch with a pack reported each round, then the pack, and then the consumer had the progress; a fetch with
    -- nothing to do reported nothing
    abbrev pub ReportsFetch : {E : Type 0} → Bool → P → Result (Option Outcome) E → C → P → Type 0
    ReportsFetch banded old (Ok (Some outcome)) d new =
        (met : P) × (named : P) × ReportsRounds banded (length outcome.negotiate.rounds.items) old met × ReportedCalls reported met pack_calls named
        × LendsProgress (not banded) named d new
    ReportsFetch banded old (Ok None) d new = new ≡ old
    ReportsFetch banded old (Err e) d new = ⊤
