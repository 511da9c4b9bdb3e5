use Rattle.std.proofs.Common.{◌∷◌, []}
use Rattle.gixp_negotiators.proofs.FromLemmas.{owes_same, owes_push}
use Rattle.gixp_negotiators.specs.Spread.{is_there}
use Rattle.gixp_negotiators.proofs.SpreadLemmas.{stays_there, kept_grown, kept_settled}
use Rattle.gixp_negotiators.proofs.LookedLemmas.{looked_ok, looked_from, looked_out}
use Rattle.gixp_negotiators.proofs.consecutive.Consecutive.reach.Goals as goal

pub returns-clause-spreads : goal.returns-clause-spreads
returns-clause-spreads g c =
    kept_settled is_there stays_there _ _ c.args.id.now _ _ c.make_common.ensures.looks.grows
    c.make_common.ensures.marks_common_only c.in_ok-push.ensures.items

pub returns-then-not-branch-clause-spreads : goal.returns-then-not-branch-clause-spreads
returns-then-not-branch-clause-spreads g c =
    kept_grown is_there stays_there _ _ _ c.make_common.ensures.looks.grows (c.in_ok-make_common.ensures.kept c.if-not-branch.true)

pub returns-then-not-branch-clause-owes : goal.returns-then-not-branch-clause-owes
returns-then-not-branch-clause-owes g c = owes_same (c.args.id.now ∷ []) c.args.due.now.items

pub returns-clause-owes : goal.returns-clause-owes
returns-clause-owes g c = owes_push _ _ c.args.id.now c.in_ok-push.ensures.items

pub returns-then-not-branch-clause-looks : goal.returns-then-not-branch-clause-looks
returns-then-not-branch-clause-looks g c = looked_ok c.in_ok-make_common.ensures.looks

pub returns-clause-looks : goal.returns-clause-looks
returns-clause-looks g c = looked_ok c.in_ok-make_common.ensures.looks

pub returns-in_err-make_common-clause-looks : goal.returns-in_err-make_common-clause-looks
returns-in_err-make_common-clause-looks g c = looked_from _ c.from_residual.ensures.1 c.in_err-make_common.ensures.looks

pub returns-in_err-push-clause-looks : goal.returns-in_err-push-clause-looks
returns-in_err-push-clause-looks g c = looked_out _ c.from_residual-in_err-push.ensures.1 c.in_ok-make_common.ensures.looks
