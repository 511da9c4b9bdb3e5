use Rattle.std.proofs.Common.{arith}
use Rattle.std.proofs.lemmas.List.Elements.{All-nil}
use Rattle.gixp_negotiators.proofs.InTurnLemmas.{steps_none, steps_on}
use Rattle.gixp_negotiators.proofs.StepLemmas.{marked_more}
use Rattle.gixp_negotiators.specs.Spread.{is_there}
use Rattle.gixp_negotiators.proofs.SpreadLemmas.{stays_there, stays_none, stays_on}
use Rattle.gixp_negotiators.proofs.SeeLemmas.{sees_same, sees_on, among_none, among_one, among_on}
use Rattle.gixp_negotiators.proofs.LookedLemmas.{looked_none, looked_on, looked_ok, looked_from}
use Rattle.gixp_negotiators.proofs.consecutive.Consecutive.follow_all.Goals as goal

pub loop-parent-init : goal.loop-parent-init
loop-parent-init g c =
    record {
      steps = steps_none _ _;
      spreads = stays_none is_there stays_there _;
      room = omega arith;
      waits = All-nil _;
      finds = λ t. sees_same _ _ (λ id s. s);
      others = λ f. among_none _ _ _ (sees_same _ _ (λ id s. s));
      settles = λ f q m. m;
      looks = looked_none _;
    }

pub loop-parent-preserved : goal.loop-parent-preserved
loop-parent-preserved g c = record {
  steps = steps_on c.loop-parent.invariant.looks.grows c.loop-parent.invariant.steps c.in_ok-follow.ensures.steps;
  room = omega (arith, c.loop-parent.invariant.room, c.in_ok-follow.ensures.room);
  spreads =
      stays_on is_there stays_there _ _ _ c.loop-parent.invariant.looks.grows c.loop-parent.invariant.spreads c.in_ok-follow.ensures.spreads;
  waits =
      marked_more c.args.graph.now.graph c.loop-parent.graph.graph c.follow.new.graph.graph c.args.parents.now
      c.loop-parent.parent-index _ c.loop-parent-test.true c.loop-parent.invariant.looks.grows c.follow.ensures.looks.grows
      c.loop-parent.invariant.waits c.in_ok-follow.ensures.waits;
  finds = λ t. sees_on _ _ _ c.follow.ensures.looks.grows (c.loop-parent.invariant.finds t) (c.in_ok-follow.ensures.finds t);
  others = λ f. among_on _ _ _ _ c.follow.ensures.looks.grows (c.loop-parent.invariant.others f)
      (among_one c.args.parents.now c.loop-parent.parent-index _ _ _ c.loop-parent-test.true (c.in_ok-follow.ensures.others f));
  settles = λ f q m. c.loop-parent.invariant.settles f q (c.in_ok-follow.ensures.settles f q m);
  looks = looked_ok (looked_on _ c.loop-parent.invariant.looks c.in_ok-follow.ensures.looks);
}

pub returns-in_err-follow-clause-looks : goal.returns-in_err-follow-clause-looks
returns-in_err-follow-clause-looks g c = looked_from _ c.from_residual.ensures.1
    (looked_on _ c.loop-parent.invariant.looks c.in_err-follow.ensures.looks)
