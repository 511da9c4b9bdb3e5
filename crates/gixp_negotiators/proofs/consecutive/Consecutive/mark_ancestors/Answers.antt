use Rattle.gixp_negotiators.proofs.FromLemmas.{rises_none, rises_after}
use Rattle.std.proofs.Common.{subst}
use Rattle.std.specs.Prelude.{IsSome}
use Rattle.gixp_graph.specs.Object.{Objects, commit_at}
use Rattle.gixp_negotiators.proofs.InTurnLemmas.{steps_unmarked, steps_on}
use Rattle.gixp_negotiators.specs.Spread.{is_there}
use Rattle.gixp_negotiators.proofs.SpreadLemmas.{stays_there, common_since, stays_grown, stays_through}
use Rattle.gixp_negotiators.proofs.SeeLemmas.{sees_same, sees_on, near_on}
use Rattle.gixp_negotiators.specs.Marks.{SEEN}
use Rattle.gixp_negotiators.proofs.LookedLemmas.{looked_on, looked_ok, looked_from}
use Rattle.gixp_negotiators.proofs.consecutive.Consecutive.mark_ancestors.Goals as goal

pub returns-in_default-clause-steps : goal.returns-in_default-clause-steps
returns-in_default-clause-steps g c =
    steps_unmarked c.look.ensures.looks.grows c.look.ensures.sees c.look.ensures.settles c.look.ensures.lists c.look.ensures.pops

pub returns-clause-steps : goal.returns-clause-steps
returns-clause-steps g c =
    steps_on c.look.ensures.looks.grows (steps_unmarked c.look.ensures.looks.grows c.look.ensures.sees c.look.ensures.settles
    c.look.ensures.lists c.look.ensures.pops) c.in_ok-spread_all.ensures.steps

pub returns-then-has-clause-steps : goal.returns-then-has-clause-steps
returns-then-has-clause-steps g c =
    steps_unmarked c.look.ensures.looks.grows c.look.ensures.sees c.look.ensures.settles c.look.ensures.lists c.look.ensures.pops

pub returns-in_default-clause-spreads : goal.returns-in_default-clause-spreads
returns-in_default-clause-spreads g c = stays_grown is_there stays_there _ _ c.look.ensures.looks.grows c.look.ensures.settles

pub returns-then-has-clause-spreads : goal.returns-then-has-clause-spreads
returns-then-has-clause-spreads g c = stays_grown is_there stays_there _ _ c.look.ensures.looks.grows c.look.ensures.settles

pub returns-clause-spreads : goal.returns-clause-spreads
returns-clause-spreads g c =
    stays_through is_there stays_there c.args.id.now _ _ _ c.look.ensures.looks.grows c.look.ensures.settles
    c.in_ok-spread_all.ensures.spreads

pub returns-in_default-clause-finds : goal.returns-in_default-clause-finds
returns-in_default-clause-finds g c near = sees_same _ _ c.look.ensures.sees

pub returns-then-has-clause-finds : goal.returns-then-has-clause-finds
returns-then-has-clause-finds g c near = sees_same _ _ c.look.ensures.sees

pub returns-clause-finds : goal.returns-clause-finds
returns-clause-finds g c near = sees_on _ _ _ c.spread_all.ensures.looks.grows (sees_same _ _ c.look.ensures.sees)
    (c.in_ok-spread_all.ensures.finds (λ s. near_on c.args.graph.now.graph c.look.new.graph.graph c.args.id.now c.look.ensures.looks.grows
    (near (subst (λ (o : Objects). IsSome (commit_at o c.args.id.now)) c.look.ensures.looks.grows.objects s))))

pub returns-clause-ancestors : goal.returns-clause-ancestors
returns-clause-ancestors g c seen lacks =
    common_since is_there stays_there c.args.graph.now.graph c.look.new.graph.graph c.spread_all.new.graph.graph c.args.id.now
    c.look.ensures.looks.grows (c.in_ok-spread_all.ensures.ancestors (c.look.ensures.looks.grows.marks SEEN c.args.id.now seen))

pub returns-in_default-clause-only : goal.returns-in_default-clause-only
returns-in_default-clause-only g c = rises_none _ c.args.graph.now.graph c.look.new.graph.graph c.look.ensures.settles

pub returns-then-has-clause-only : goal.returns-then-has-clause-only
returns-then-has-clause-only g c = rises_none _ c.args.graph.now.graph c.look.new.graph.graph c.look.ensures.settles

pub returns-clause-only : goal.returns-clause-only
returns-clause-only g c = rises_after c.args.id.now c.args.graph.now.graph c.look.new.graph.graph c.spread_all.new.graph.graph
    c.look.ensures.settles c.in_ok-spread_all.ensures.only

pub returns-clause-looks : goal.returns-clause-looks
returns-clause-looks g c = looked_on _ c.in_ok-flags.ensures.looks c.in_ok-spread_all.ensures.looks

pub returns-in_err-spread_all-clause-looks : goal.returns-in_err-spread_all-clause-looks
returns-in_err-spread_all-clause-looks g c = looked_from _ c.from_residual-in_err-spread_all.ensures.1
    (looked_on _ c.in_ok-flags.ensures.looks c.in_err-spread_all.ensures.looks)

pub returns-in_default-clause-looks : goal.returns-in_default-clause-looks
returns-in_default-clause-looks g c = looked_ok c.in_ok-flags.ensures.looks

pub returns-then-has-clause-looks : goal.returns-then-has-clause-looks
returns-then-has-clause-looks g c = looked_ok c.in_ok-flags.ensures.looks

pub returns-in_err-flags-clause-looks : goal.returns-in_err-flags-clause-looks
returns-in_err-flags-clause-looks g c = looked_from _ c.from_residual.ensures.1 c.in_err-flags.ensures.looks
