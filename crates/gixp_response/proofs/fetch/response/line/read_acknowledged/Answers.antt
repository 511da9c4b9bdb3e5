use Rattle.std.proofs.Common.{◌≡◌, ℕ, ◌<◌, List, length, take, refl, arith, Some, None, length-take}
use Rattle.std.specs.Prelude.{false, ◌==◌}
use Rattle.std.proofs.lemmas.Bool.{false_from_ne_true}
use Rattle.std.proofs.Common.{eqb-true}
use Rattle.gixp_response.specs.AnswerLine.{acknowledged}
use Rattle.gixp_response.proofs.fetch.response.line.read_acknowledged.Goals as goal

-- fewer than 40 digits are not an id
too_short : (text : List ℕ) → length text < 40 → None ≡ acknowledged (Some text)
too_short text h =
    let few : (length (take 40 text) == 40) ≡ false =
    false_from_ne_true _ (λ t. let n = eqb-true _ _ t in absurd (omega (arith, length-take 40 text))) in
    rw few refl

pub returns-then-text-lt40 : goal.returns-then-text-lt40
returns-then-text-lt40 c = too_short c.args.text.now (omega arith)
