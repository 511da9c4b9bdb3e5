-- Where none is found, no refspec is positive, or two are.
use Rattle.std.proofs.Common.{◌≡◌, ◌+◌, true, ℕ, Option, sym, subst, drop, arith}
use Rattle.std.specs.List.{list_any}
use Rattle.std.proofs.lemmas.Grind.{common_steps}
use Rattle.gixp_matching.specs.Only.{is_positive, IsPlaceOfOnly}
use Rattle.gixp_matching.proofs.SingleLemmas.{none_positive, two_positive}
use Rattle.gixp_matching.proofs.match_group.single.only_positive.Goals as goal

pub returns-in_err-first : goal.returns-in_err-first
returns-in_err-first c =
    let P : Option ℕ → Type 0 = IsPlaceOfOnly c.args.specs.now in
    subst P (sym c.from_residual.ensures) (λ s. none_positive c.args.specs.now s (sym c.in_err-first.ensures.place))

pub returns-then-has_positive : goal.returns-then-has_positive
returns-then-has_positive c s =
    let another : list_any is_positive (drop (c.in_ok-first.first + 1) c.args.specs.now) ≡ true = grind (arith, common_steps) in
    two_positive c.args.specs.now s s c.in_ok-first.first (sym c.in_ok-first.ensures.place) another
