-- The progress of a fetch, round by round.
use Rattle.std.proofs.Common.{◌≡◌, ℕ, ◌+◌, suc, Bool, List, [], ◌∷◌, ◌++◌, length, length-append, sym, ap, subst, ◌∙◌, add-one}
use Rattle.gixp_progress.specs.Progress.{ProgressCall, ReportedCalls}
use Rattle.gixp_negotiate.specs.declared.negotiate.Round.{Round}
use Rattle.gixp_fetch.specs.FetchProgress.{round_calls, AddsRemote, ReportsRounds}

module _ {P : Type 0} (reported : P → ProgressCall → P → Type 0) where
  -- the calls of a round, by an equal list of rounds
  pub named_as : (rounds same : List Round) (old new : P) → rounds ≡ same → ReportedCalls reported old (round_calls (length rounds + 1)) new
      → ReportedCalls reported old (round_calls (length same + 1)) new
  named_as rounds same old new e h = subst (λ (rs : List Round). ReportedCalls reported old (round_calls (length rs + 1)) new) e h

module _ {P Q : Type 0} (reported : P → ProgressCall → P → Type 0) (adds : P → List ℕ → List ℕ → Q → P → Type 0) where
  -- one more round was reported, and then got its part
  pub tells_more : (banded given : Bool) (rounds after : List Round) (round : Round) (start old named new : P) → given ≡ banded
      → after ≡ rounds ++ round ∷ [] → ReportsRounds reported adds banded (length rounds) start old
      → ReportedCalls reported old (round_calls (length rounds + 1)) named → AddsRemote reported adds given named new
      → ReportsRounds reported adds banded (length after) start new
  tells_more banded given rounds after round start old named new b e h c a =
      let k : length rounds + 1 ≡ suc (length rounds) = add-one (length rounds) in
      let n : length after ≡ suc (length rounds) = ap length e ∙ length-append rounds (round ∷ []) ∙ k in
      subst (λ n. ReportsRounds reported adds banded n start new) (sym n) (
        old,
        h,
        (named, subst (λ n. ReportedCalls reported old (round_calls n) named) k c, subst (λ b. AddsRemote reported adds b named new) b a),
      )
