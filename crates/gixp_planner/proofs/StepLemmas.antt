-- The steps that refusals name, told apart by their third letters.
use Rattle.std.proofs.Common.{◌≡◌, ◌⊎◌, ℕ, List, ◌∷◌, codes, inl, inr, sym, ap, ◌∙◌, arith}
use Rattle.gixp_planner.specs.declared.error.PlanError.{PlanError}
use Rattle.gixp_planner.specs.Refusal.{PlanRefusal, refusal_of, IsPlanMemory, IsUnwritten}
use Rattle.gixp_planner.specs.Specs.{RefusesSpecs}

abbrev pub letter : List ℕ → ℕ
letter (a ∷ b ∷ c ∷ cs) = c
letter _ = 0

-- those of `handshake`, `refs`, `file` and `spec` are no t, and the last three no n, nor is that of `fetch`
pub n-not-t : ◌≡◌ {A = ℕ} 110 116 → ⊥
n-not-t e = omega (arith, e)

pub f-not-t : ◌≡◌ {A = ℕ} 102 116 → ⊥
f-not-t e = omega (arith, e)

pub l-not-t : ◌≡◌ {A = ℕ} 108 116 → ⊥
l-not-t e = omega (arith, e)

pub e-not-t : ◌≡◌ {A = ℕ} 101 116 → ⊥
e-not-t e = omega (arith, e)

pub f-not-n : ◌≡◌ {A = ℕ} 102 110 → ⊥
f-not-n e = omega (arith, e)

pub l-not-n : ◌≡◌ {A = ℕ} 108 110 → ⊥
l-not-n e = omega (arith, e)

pub e-not-n : ◌≡◌ {A = ℕ} 101 110 → ⊥
e-not-n e = omega (arith, e)

pub t-not-n : ◌≡◌ {A = ℕ} 116 110 → ⊥
t-not-n e = omega (arith, e)

-- a refusal names one step
pub other-step : (name step : List ℕ) (e : PlanRefusal) → e.step ≡ name → e.step ≡ step → (letter step ≡ letter name → ⊥) → ⊥
other-step name step e q k apart = apart (ap letter (sym k ∙ q))

module _ (name : List ℕ) (e : PlanError) (q : e.step.now ≡ name) (no-file : letter (codes "file") ≡ letter name → ⊥) where
  -- that isn't a failed write
  pub not-unwritten : IsUnwritten e → ⊥
  not-unwritten (inl k) = other-step name (codes "file") (refusal_of e) q (ap (λ (r : PlanRefusal). r.step) k) no-file
  not-unwritten (inr k) = other-step name (codes "file") (refusal_of e) q (ap (λ (r : PlanRefusal). r.step) k) no-file

  -- nor what is refused before there is a session
  pub not-begun : (specs : List (List ℕ)) → (letter (codes "spec") ≡ letter name → ⊥) → RefusesSpecs specs e
      ⊎ IsPlanMemory (codes "file") e → ⊥
  not-begun specs no-spec (inl (inl k)) = other-step name (codes "spec") (refusal_of e) q (ap (λ (r : PlanRefusal). r.step) k.2) no-spec
  not-begun specs no-spec (inl (inr k)) = other-step name (codes "spec") (refusal_of e) q (ap (λ (r : PlanRefusal). r.step) k) no-spec
  not-begun specs no-spec (inr k) = other-step name (codes "file") (refusal_of e) q (ap (λ (r : PlanRefusal). r.step) k) no-file
