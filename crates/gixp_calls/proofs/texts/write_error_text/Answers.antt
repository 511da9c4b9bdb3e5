use Rattle.std.proofs.Common.{◌≡◌, ◌⊎◌, ◌<◌, ◌≤◌, ◌++◌, ℕ, List, length, drop, inl, inr, sym, arith}
use Rattle.gixp_calls.specs.Exports.{WritesText}
use Rattle.gixp_calls.proofs.texts.write_error_text.Goals as goal

copied_there : (text old : List ℕ) (code : ℕ) (new : List ℕ) (now : ℕ) → WritesText text old code new now → code ≡ 0
    → (t : List ℕ) × (length t ≡ now) × (new ≡ t ++ drop (length t) old)
copied_there text old code new now (e, inl p) h = (text, sym e, p.1.1)
copied_there text old code new now (e, inr p) h = let k = p.0 in absurd (omega (arith, h, k))

no_room : (text old : List ℕ) (code : ℕ) (new : List ℕ) (now : ℕ) → WritesText text old code new now → code ≡ 2
    → (new ≡ old) × (length old < now)
no_room text old code new now (e, inl p) h = let k = p.0 in absurd (omega (arith, h, k))
no_room text old code new now (e, inr p) h = (p.1.1, omega (arith, e, p.1.0))

numbered : (text old : List ℕ) (code : ℕ) (new : List ℕ) (now : ℕ) → WritesText text old code new now
    → ((code ≡ 0) × (now ≤ length old)) ⊎ ((code ≡ 2) × (length old < now))
numbered text old code new now (e, inl p) = let k = p.1.0 in inl (p.0, omega (arith, e, k))
numbered text old code new now (e, inr p) = let k = p.1.0 in inr (p.0, omega (arith, e, k))

pub returns-clause-number : goal.returns-clause-number
returns-clause-number c = numbered _ _ _ _ _ c.write_text.ensures

pub returns-clause-input_record : goal.returns-clause-input_record
returns-clause-input_record c = copied_there _ _ _ _ _ c.write_text.ensures

pub returns-clause-no_room : goal.returns-clause-no_room
returns-clause-no_room c = no_room _ _ _ _ _ c.write_text.ensures
