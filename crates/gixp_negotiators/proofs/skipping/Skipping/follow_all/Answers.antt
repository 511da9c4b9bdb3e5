use Rattle.std.proofs.Common.{arith, refl, sym, true≢false}
use Rattle.gixp_negotiators.specs.NewlyCommon.{AllHeld}
use Rattle.gixp_negotiators.proofs.UnreadLemmas.{unread_same, unread_on, held_first, held_then}
use Rattle.std.proofs.lemmas.List.Elements.{All-nil}
use Rattle.gixp_negotiators.proofs.FitLemmas.{counts_all, counts_on, queues_same, queues_on}
use Rattle.gixp_negotiators.proofs.PassingLemmas.{hands_none, hands_step, hands_all, neither_left, neither_right, taken_more, taken_all, shares_more, shares_all, left_more, left_all}
use Rattle.gixp_negotiators.proofs.StepLemmas.{marked_more}
use Rattle.gixp_negotiators.proofs.LookedLemmas.{looked_none, looked_on, looked_ok, looked_from}
use Rattle.gixp_negotiators.proofs.skipping.Skipping.follow_all.Goals as goal

pub loop-parent-init : goal.loop-parent-init
loop-parent-init g c =
    record {
      fits = counts_all _ _ _ _ _ _ _ (λ lost f. f);
      settles = λ e q m. m;
      common = λ e all. all;
      shares = λ e. All-nil _;
      lists = λ q m. m;
      pops = λ q m. m;
      unread = unread_same _ _ _ _ refl (λ q m. m);
      leaves = λ e. absurd (true≢false (sym e));
      queues = queues_same _ _ _ refl;
      room = omega arith;
      waits = All-nil _;
      taken = λ e. All-nil _;
      hands =
          hands_none c.args.legacy c.args.graph.now.graph c.args.self.now.skips.entries;
      looks = looked_none _;
    }

pub loop-parent-preserved : goal.loop-parent-preserved
loop-parent-preserved g c = record {
  fits =
      counts_on (AllHeld c.args.self.now.unread c.args.graph.now.graph c.follow.new.graph.graph)
      (AllHeld c.args.self.now.unread c.args.graph.now.graph c.loop-parent.graph.graph)
      (AllHeld c.loop-parent.self.unread c.loop-parent.graph.graph c.follow.new.graph.graph) _ _ _ _ _ _ _ _ _
      (held_first c.args.self.now.unread c.args.graph.now.graph c.loop-parent.graph.graph c.follow.new.graph.graph c.follow.ensures.looks.grows)
      (held_then c.args.self.now.unread c.loop-parent.self.unread c.args.graph.now.graph c.loop-parent.graph.graph
      c.follow.new.graph.graph c.loop-parent.invariant.looks.grows c.loop-parent.invariant.unread)
      c.loop-parent.invariant.fits c.in_ok-waits.ensures.fits;
  settles = λ e q m. c.loop-parent.invariant.settles e q (c.in_ok-waits.ensures.settles e q m);
  common = λ e all. c.in_ok-waits.ensures.common e (c.loop-parent.invariant.common e all);
  shares = λ e. shares_more c.args.parents.now c.loop-parent.parent-index _ c.loop-parent.graph.graph c.follow.new.graph.graph
      c.loop-parent-test.true c.follow.ensures.looks.grows (c.loop-parent.invariant.shares e) (c.in_ok-waits.ensures.shares e);
  lists = λ q m. c.loop-parent.invariant.lists q (c.in_ok-waits.ensures.lists q m);
  pops = λ q m. c.loop-parent.invariant.pops q (c.in_ok-waits.ensures.pops q m);
  unread =
      unread_on _ _ _ _ _ _ c.loop-parent.invariant.looks.grows c.follow.ensures.looks.grows c.loop-parent.invariant.unread
      c.in_ok-waits.ensures.unread;
  leaves = λ e. left_more c.args.parents.now c.loop-parent.parent-index _ c.loop-parent.graph.graph c.follow.new.graph.graph
      c.loop-parent.any c.in_ok-waits.waits c.loop-parent-test.true c.in_ok-waits.ensures.pops c.loop-parent.invariant.leaves
      c.in_ok-waits.ensures.left e;
  room = omega (arith, c.loop-parent.invariant.room, c.in_ok-waits.ensures.room);
  waits =
      marked_more c.args.graph.now.graph c.loop-parent.graph.graph c.follow.new.graph.graph c.args.parents.now
      c.loop-parent.parent-index _ c.loop-parent-test.true c.loop-parent.invariant.looks.grows c.follow.ensures.looks.grows
      c.loop-parent.invariant.waits c.in_ok-waits.ensures.waits;
  queues = queues_on _ _ _ _ _ c.loop-parent.invariant.looks.grows c.loop-parent.invariant.queues c.in_ok-waits.ensures.queues;
  taken =
      λ e. taken_more c.args.parents.now c.loop-parent.parent-index _ c.loop-parent.graph.graph c.follow.new.graph.graph
      c.loop-parent-test.true c.follow.ensures.looks.grows
      (c.loop-parent.invariant.taken (neither_left c.loop-parent.any c.in_ok-waits.waits e))
      (c.in_ok-waits.ensures.taken (neither_right c.loop-parent.any c.in_ok-waits.waits e));
  hands =
      hands_step c.args.legacy c.args.parents.now c.loop-parent.parent-index _ c.loop-parent.graph.graph c.follow.new.graph.graph
      c.args.self.now.skips.entries c.loop-parent.self.skips.entries c.follow.new.self.skips.entries
      c.loop-parent-test.true c.follow.ensures.looks.grows c.loop-parent.invariant.hands c.in_ok-waits.ensures.hands;
  looks = looked_ok (looked_on _ c.loop-parent.invariant.looks c.in_ok-waits.ensures.looks);
}

pub returns-clause-hands : goal.returns-clause-hands
returns-clause-hands g c =
    hands_all c.args.legacy c.args.parents.now c.loop-parent.parent-index c.loop-parent.graph.graph c.args.self.now.skips.entries
    c.loop-parent.self.skips.entries c.loop-parent-test.false c.loop-parent.invariant.hands

pub returns-clause-taken : goal.returns-clause-taken
returns-clause-taken g c e = taken_all c.args.parents.now c.loop-parent.parent-index c.loop-parent.graph.graph c.loop-parent-test.false
    (c.loop-parent.invariant.taken e)

pub returns-clause-shares : goal.returns-clause-shares
returns-clause-shares g c e = shares_all c.args.parents.now c.loop-parent.parent-index c.loop-parent.graph.graph c.loop-parent-test.false
    (c.loop-parent.invariant.shares e)

pub returns-clause-left : goal.returns-clause-left
returns-clause-left g c e = left_all c.args.parents.now c.loop-parent.parent-index c.loop-parent.graph.graph c.loop-parent-test.false
    (c.loop-parent.invariant.leaves e)

pub returns-in_err-waits-clause-looks : goal.returns-in_err-waits-clause-looks
returns-in_err-waits-clause-looks g c = looked_from _ c.from_residual.ensures.1
    (looked_on _ c.loop-parent.invariant.looks c.in_err-waits.ensures.looks)

pub returns-clause-looks : goal.returns-clause-looks
returns-clause-looks g c = looked_ok c.loop-parent.invariant.looks
