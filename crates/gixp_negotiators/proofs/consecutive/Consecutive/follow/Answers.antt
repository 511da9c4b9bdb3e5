use Rattle.std.proofs.Common.{refl, subst}
use Rattle.std.specs.Prelude.{IsSome}
use Rattle.std.proofs.lemmas.Bool.{or_left}
use Rattle.gixp_graph.specs.Object.{Objects, commit_at}
use Rattle.gixp_negotiators.specs.Marks.{COMMON, SEEN, has_mark}
use Rattle.gixp_negotiators.proofs.InTurnLemmas.{steps_on}
use Rattle.gixp_negotiators.specs.Spread.{is_there}
use Rattle.gixp_negotiators.proofs.SpreadLemmas.{stays_there, stays_on}
use Rattle.gixp_negotiators.proofs.SeeLemmas.{sees_on}
use Rattle.gixp_negotiators.proofs.LookedLemmas.{looked_on, looked_from}
use Rattle.gixp_negotiators.proofs.consecutive.Consecutive.follow.Goals as goal

pub returns-then-is_common-clause-steps : goal.returns-then-is_common-clause-steps
returns-then-is_common-clause-steps g c =
    steps_on c.push.ensures.looks.grows
    record { keeps = c.in_ok-push.ensures.keeps; lists = c.in_ok-push.ensures.lists refl; pops = c.in_ok-push.ensures.pops }
    c.in_ok-mark_ancestors.ensures.steps

pub returns-then-is_common-clause-spreads : goal.returns-then-is_common-clause-spreads
returns-then-is_common-clause-spreads g c =
    stays_on is_there stays_there _ _ _ c.push.ensures.looks.grows c.in_ok-push.ensures.spreads c.in_ok-mark_ancestors.ensures.spreads

pub returns-then-is_common-clause-finds : goal.returns-then-is_common-clause-finds
returns-then-is_common-clause-finds g c t = sees_on _ _ _ c.mark_ancestors.ensures.looks.grows (c.in_ok-push.ensures.finds refl)
    (c.in_ok-mark_ancestors.ensures.finds (λ s. or_left (has_mark SEEN c.push.new.graph.graph.held c.args.parent.now)
    (has_mark COMMON c.push.new.graph.graph.held c.args.parent.now)
    (c.in_ok-push.ensures.waits (subst (λ (o : Objects). IsSome (commit_at o c.args.parent.now)) c.push.ensures.looks.grows.objects s))))

pub returns-then-is_common-clause-looks : goal.returns-then-is_common-clause-looks
returns-then-is_common-clause-looks g c = looked_on _ c.in_ok-push.ensures.looks c.in_ok-mark_ancestors.ensures.looks

pub returns-in_err-mark_ancestors-clause-looks : goal.returns-in_err-mark_ancestors-clause-looks
returns-in_err-mark_ancestors-clause-looks g c = looked_from _ c.from_residual-in_err-mark_ancestors.ensures.1
    (looked_on _ c.in_ok-push.ensures.looks c.in_err-mark_ancestors.ensures.looks)
