use Rattle.std.proofs.Common.{arith}
use Rattle.std.proofs.lemmas.List.Elements.{All-nil}
use Rattle.gixp_negotiators.specs.Spread.{was_seen}
use Rattle.gixp_negotiators.proofs.SpreadLemmas.{stays_seen, common_more, kept_none, kept_on}
use Rattle.gixp_negotiators.proofs.GrowLemmas.{grows_on, only_common_on}
use Rattle.gixp_negotiators.proofs.UnreadLemmas.{among_same, among_step}
use Rattle.gixp_negotiators.proofs.LookedLemmas.{looked_none, looked_on, looked_ok, looked_from}
use Rattle.gixp_negotiators.proofs.skipping.reach_all.Goals as goal

pub loop-id-init : goal.loop-id-init
loop-id-init g c = record {
  fits = λ lost u ws f. f;
  among = among_same c.args.ids.now c.args.graph.now.graph;
  marks = record { sees = λ q m. m; lists = λ q m. m; pops = λ q m. m };
  spreads = kept_none was_seen stays_seen _ _;
  newly = λ f v all. all;
  common = All-nil _;
  less = omega arith;
  looks = looked_none _;
}

pub loop-id-preserved : goal.loop-id-preserved
loop-id-preserved g c = record {
  fits = λ lost u ws f. c.in_ok-reach.ensures.fits lost u ws (c.loop-id.invariant.fits lost u ws f);
  among = among_step c.args.ids.now c.loop-id.id-index _ c.args.graph.now.graph c.loop-id.graph.graph c.reach.new.graph.graph
      c.loop-id-test.true c.loop-id.invariant.marks.sees c.loop-id.invariant.among
      c.in_ok-reach.ensures.among;
  marks = only_common_on _ _ _ c.loop-id.invariant.marks c.in_ok-reach.ensures.marks;
  spreads = kept_on was_seen stays_seen _ _ _ _ _ _ c.loop-id.invariant.looks.grows c.loop-id.invariant.spreads c.in_ok-reach.ensures.spreads;
  newly = λ f v all. c.in_ok-reach.ensures.newly f (grows_on _ _ _ v c.loop-id.invariant.looks.grows) (c.loop-id.invariant.newly f v all);
  common =
      common_more was_seen stays_seen c.args.graph.now.graph c.loop-id.graph.graph c.reach.new.graph.graph c.args.ids.now
      c.loop-id.id-index _ c.loop-id-test.true c.loop-id.invariant.looks.grows c.reach.ensures.looks.grows c.loop-id.invariant.common
      c.in_ok-reach.ensures.common;
  less = omega (arith, c.loop-id.invariant.less, c.in_ok-reach.ensures.less);
  looks = looked_ok (looked_on _ c.loop-id.invariant.looks c.in_ok-reach.ensures.looks);
}

pub returns-in_err-reach-clause-looks : goal.returns-in_err-reach-clause-looks
returns-in_err-reach-clause-looks g c = looked_from _ c.from_residual.ensures.1
    (looked_on _ c.loop-id.invariant.looks c.in_err-reach.ensures.looks)
