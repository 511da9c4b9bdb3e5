use Rattle.gixp_negotiators.proofs.FromLemmas.{rises_none, rises_settled}
use Rattle.gixp_negotiators.proofs.InTurnLemmas.{steps_on}
use Rattle.gixp_negotiators.specs.Spread.{is_there}
use Rattle.gixp_negotiators.proofs.SpreadLemmas.{stays_there, stays_grown, stays_settled}
use Rattle.std.proofs.lemmas.Bool.{or_right}
use Rattle.gixp_negotiators.specs.Marks.{COMMON, SEEN, has_mark}
use Rattle.gixp_negotiators.proofs.SeeLemmas.{sees_same, sees_on}
use Rattle.gixp_negotiators.proofs.LookedLemmas.{looked_on, looked_ok, looked_from}
use Rattle.gixp_negotiators.proofs.consecutive.Consecutive.mark_common.Goals as goal

pub returns-clause-steps : goal.returns-clause-steps
returns-clause-steps g c =
    steps_on c.make_common.ensures.looks.grows c.in_ok-make_common.ensures.steps c.in_ok-spread_all.ensures.steps

pub returns-clause-common : goal.returns-clause-common
returns-clause-common g c s = c.spread_all.ensures.looks.grows.marks COMMON c.args.id.now (c.in_ok-make_common.ensures.marked s)

pub returns-clause-spreads : goal.returns-clause-spreads
returns-clause-spreads g c =
    stays_settled is_there stays_there c.args.id.now _ _ _ c.make_common.ensures.looks.grows c.make_common.ensures.marks_common_only
    c.in_ok-spread_all.ensures.spreads

pub returns-then-not-branch-clause-spreads : goal.returns-then-not-branch-clause-spreads
returns-then-not-branch-clause-spreads g c =
    stays_grown is_there stays_there _ _ c.make_common.ensures.looks.grows (c.in_ok-make_common.ensures.kept c.if-not-branch.true)

pub returns-then-not-branch-clause-finds : goal.returns-then-not-branch-clause-finds
returns-then-not-branch-clause-finds g c = sees_same _ _ c.make_common.ensures.sees

pub returns-clause-finds : goal.returns-clause-finds
returns-clause-finds g c = sees_on _ _ _ c.spread_all.ensures.looks.grows (sees_same _ _ c.make_common.ensures.sees)
    (c.in_ok-spread_all.ensures.finds (λ s. or_right (has_mark SEEN c.make_common.new.graph.graph.held c.args.id.now)
    (has_mark COMMON c.make_common.new.graph.graph.held c.args.id.now) (c.in_ok-make_common.ensures.settled c.if-not-branch.false)))

pub returns-then-not-branch-clause-only : goal.returns-then-not-branch-clause-only
returns-then-not-branch-clause-only g c =
    rises_none _ c.args.graph.now.graph c.make_common.new.graph.graph (c.in_ok-make_common.ensures.kept c.if-not-branch.true)

pub returns-clause-only : goal.returns-clause-only
returns-clause-only g c = rises_settled c.args.id.now c.args.graph.now.graph c.make_common.new.graph.graph c.spread_all.new.graph.graph
    c.make_common.ensures.marks_common_only c.in_ok-spread_all.ensures.only

pub returns-clause-looks : goal.returns-clause-looks
returns-clause-looks g c = looked_on _ c.in_ok-make_common.ensures.looks c.in_ok-spread_all.ensures.looks

pub returns-in_err-spread_all-clause-looks : goal.returns-in_err-spread_all-clause-looks
returns-in_err-spread_all-clause-looks g c = looked_from _ c.from_residual-in_err-spread_all.ensures.1
    (looked_on _ c.in_ok-make_common.ensures.looks c.in_err-spread_all.ensures.looks)

pub returns-then-not-branch-clause-looks : goal.returns-then-not-branch-clause-looks
returns-then-not-branch-clause-looks g c = looked_ok c.in_ok-make_common.ensures.looks

pub returns-in_err-make_common-clause-looks : goal.returns-in_err-make_common-clause-looks
returns-in_err-make_common-clause-looks g c = looked_from _ c.from_residual.ensures.1 c.in_err-make_common.ensures.looks
