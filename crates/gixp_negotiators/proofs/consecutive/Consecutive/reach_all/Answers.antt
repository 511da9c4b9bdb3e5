use Rattle.gixp_negotiators.proofs.FromLemmas.{within_none, within_step, owes_same, owes_step}
use Rattle.std.proofs.Common.{◌∙◌, arith, refl}
use Rattle.std.proofs.lemmas.List.Elements.{All-nil}
use Rattle.gixp_negotiators.proofs.InTurnLemmas.{steps_none, steps_on}
use Rattle.gixp_negotiators.specs.Spread.{is_there}
use Rattle.gixp_negotiators.proofs.SpreadLemmas.{stays_there, common_more, kept_none, kept_on}
use Rattle.gixp_negotiators.proofs.LookedLemmas.{looked_none, looked_on, looked_ok, looked_from}
use Rattle.gixp_negotiators.proofs.consecutive.Consecutive.reach_all.Goals as goal

pub loop-id-init : goal.loop-id-init
loop-id-init g c = record {
  steps = steps_none _ _;
  spreads = kept_none is_there stays_there _ _;
  marked = All-nil _;
  sees =
      λ id s. s;
  common = λ all. all;
  less = omega arith;
  queue = refl;
  among = within_none c.args.ids.now c.args.graph.now.graph c.args.graph.now.graph (λ q m. m);
  owes = owes_same c.args.ids.now c.args.due.now.items;
  looks = looked_none _;
}

pub loop-id-preserved : goal.loop-id-preserved
loop-id-preserved g c = record {
  steps = steps_on c.loop-id.invariant.looks.grows c.loop-id.invariant.steps c.in_ok-reach.ensures.steps;
  spreads = kept_on is_there stays_there _ _ _ _ _ _ c.loop-id.invariant.looks.grows c.loop-id.invariant.spreads c.in_ok-reach.ensures.spreads;
  marked =
      common_more is_there stays_there c.args.graph.now.graph c.loop-id.graph.graph c.reach.new.graph.graph c.args.ids.now
      c.loop-id.id-index _ c.loop-id-test.true c.loop-id.invariant.looks.grows c.reach.ensures.looks.grows c.loop-id.invariant.marked
      c.in_ok-reach.ensures.marked;
  less = omega (arith, c.loop-id.invariant.less, c.in_ok-reach.ensures.less);
  queue = c.reach.ensures.queue ∙ c.loop-id.invariant.queue;
  sees = λ id s. c.loop-id.invariant.sees id (c.in_ok-reach.ensures.sees id s);
  common = λ all. c.in_ok-reach.ensures.common (c.loop-id.invariant.common all);
  among =
      within_step c.args.ids.now c.loop-id.id-index _ c.args.graph.now.graph c.loop-id.graph.graph c.reach.new.graph.graph
      c.loop-id-test.true c.loop-id.invariant.among c.reach.ensures.marks_common_only;
  owes = owes_step c.args.ids.now c.loop-id.id-index _ c.args.due.now.items c.loop-id.due.items c.reach.new.due.items
      c.loop-id-test.true c.loop-id.invariant.owes c.in_ok-reach.ensures.owes;
  looks = looked_ok (looked_on _ c.loop-id.invariant.looks c.in_ok-reach.ensures.looks);
}

pub returns-in_err-reach-clause-looks : goal.returns-in_err-reach-clause-looks
returns-in_err-reach-clause-looks g c = looked_from _ c.from_residual.ensures.1
    (looked_on _ c.loop-id.invariant.looks c.in_err-reach.ensures.looks)
