use Rattle.std.proofs.Common.{◌≡◌, ◌∙◌, ◌<◌, ℕ, ⊎_elim, Some, None, ap, arith, refl, subst}
use Rattle.gixp_negotiators.specs.Queued.{Fits}
use Rattle.std.specs.BinaryHeap.{heap_items}
use Rattle.gixp_negotiators.proofs.GrowLemmas.{grows_none}
use Rattle.gixp_negotiators.proofs.StepLemmas.{offered_since}
use Rattle.gixp_negotiators.proofs.FitLemmas.{timed_none, timed_on, timed_popped, newest_at, none_open, none_waits, none_counted}
use Rattle.gixp_negotiators.specs.Spread.{is_there}
use Rattle.gixp_negotiators.proofs.SpreadLemmas.{stays_there, stays_none, stays_on}
use Rattle.gixp_negotiators.proofs.SeeLemmas.{sees_same, sees_on}
use Rattle.gixp_negotiators.proofs.TakeLemmas.{takes_none, takes_offered, takes_on}
use Rattle.gixp_negotiators.proofs.LookedLemmas.{looked_none, looked_on, looked_ok, looked_from}
use Rattle.gixp_negotiators.proofs.consecutive.Consecutive.next.Goals as goal

goes_on : (n : ℕ) → n ≡ 0 → 0 < n → ⊥
goes_on n e l = omega (arith, e, l)

pub loop-first-init : goal.loop-first-init
loop-first-init g c = record {
  keeps = timed_none _ _ _;
  spreads = stays_none is_there stays_there _;
  finds = sees_same _ _ (λ id s. s);
  lists = λ q m. m;
  takes = takes_none c.args.graph.now.graph c.args.graph.now.graph (λ q m. m);
  rests = λ e. (refl, refl);
  looks = looked_none _;
}

pub loop-first-preserved : goal.loop-first-preserved
loop-first-preserved g c = record {
  keeps = timed_on _ _ _ _ _ _ _ _ _ c.loop-first.invariant.looks.grows c.loop-first.invariant.keeps
      (timed_on _ _ _ _ _ _ _ _ _ (grows_none _) (timed_popped c.loop-first.self.uncommon _ _ _ c.in-Some.first c.in-Some.ensures.taken)
      c.in_ok-take.ensures.keeps);
  spreads = stays_on is_there stays_there _ _ _ c.loop-first.invariant.looks.grows c.loop-first.invariant.spreads c.in_ok-take.ensures.spreads;
  finds = sees_on _ _ _ c.take.ensures.looks.grows c.loop-first.invariant.finds (c.in_ok-take.ensures.passes c.if-branch.false);
  lists = λ q m. c.loop-first.invariant.lists q (c.in_ok-take.ensures.lists q m);
  takes = takes_on c.args.graph.now.graph c.loop-first.graph.graph c.take.new.graph.graph None c.take.ensures.looks.grows
      c.loop-first.invariant.takes (c.in_ok-take.ensures.takes c.if-branch.false);
  rests = λ e. absurd (goes_on c.loop-first.self.uncommon (ap (λ n. n.uncommon) (c.loop-first.invariant.rests e).0 ∙ e)
      c.in-Some.ensures.open);
  looks = looked_ok (looked_on _ c.loop-first.invariant.looks c.in_ok-take.ensures.looks);
}

pub returns-then-branch-clause-offered : goal.returns-then-branch-clause-offered
returns-then-branch-clause-offered g c =
    offered_since c.args.graph.now.graph c.loop-first.graph.graph c.take.new.graph.graph c.in-Some.first.id c.loop-first.invariant.looks.grows
    (c.in_ok-take.ensures.offered c.if-branch.true)

pub returns-then-branch-clause-keeps : goal.returns-then-branch-clause-keeps
returns-then-branch-clause-keeps g c = timed_on _ _ _ _ _ _ _ _ _ c.loop-first.invariant.looks.grows c.loop-first.invariant.keeps
    (timed_on _ _ _ _ _ _ _ _ _ (grows_none _) (timed_popped c.loop-first.self.uncommon _ _ _ c.in-Some.first c.in-Some.ensures.taken)
    c.in_ok-take.ensures.keeps)

pub returns-then-branch-clause-newest : goal.returns-then-branch-clause-newest
returns-then-branch-clause-newest g c timed =
    newest_at c.args.graph.now.graph c.loop-first.graph.graph _ _ _ c.in-Some.first c.loop-first.invariant.looks.grows
    (c.loop-first.invariant.keeps.timed timed) c.in-Some.ensures.taken c.in-Some.ensures.newest c.in_ok-take.ensures.keeps.keeps.order

pub returns-clause-none : goal.returns-clause-none
returns-clause-none g c f = ⊎_elim
    (λ e. none_open 0 (heap_items c.loop-first.self.queue.waiting) c.loop-first.graph.graph (subst (λ u.
    Fits 0 u (heap_items c.loop-first.self.queue.waiting) c.loop-first.graph.graph) e (c.loop-first.invariant.keeps.keeps.fits f)))
    (λ e. none_waits 0 _ _ _ e (c.loop-first.invariant.keeps.keeps.fits f))
    (rw c.in_default.is at c.pop_unless_all_common.ensures.none)

pub returns-clause-keeps : goal.returns-clause-keeps
returns-clause-keeps g c = rw (rw c.in_default.is at c.pop_unless_all_common.ensures.stays) c.loop-first.invariant.keeps

pub returns-then-branch-clause-spreads : goal.returns-then-branch-clause-spreads
returns-then-branch-clause-spreads g c =
    stays_on is_there stays_there _ _ _ c.loop-first.invariant.looks.grows c.loop-first.invariant.spreads c.in_ok-take.ensures.spreads

pub returns-then-branch-clause-finds : goal.returns-then-branch-clause-finds
returns-then-branch-clause-finds g c = (
  c.loop-first.graph.graph,
  (c.loop-first.invariant.looks.grows, (c.loop-first.invariant.finds, c.in_ok-take.ensures.opens c.if-branch.true)),
)

pub returns-then-branch-clause-lists : goal.returns-then-branch-clause-lists
returns-then-branch-clause-lists g c q m = c.loop-first.invariant.lists q (c.in_ok-take.ensures.lists q m)

pub returns-then-branch-clause-ends : goal.returns-then-branch-clause-ends
returns-then-branch-clause-ends g c f all = absurd (goes_on c.loop-first.self.uncommon
    (ap (λ n. n.uncommon) (c.loop-first.invariant.rests (none_counted _ _ _ f all)).0 ∙ none_counted _ _ _ f all) c.in-Some.ensures.open)

pub returns-clause-ends : goal.returns-clause-ends
returns-clause-ends g c f all =
    let none = none_counted _ _ _ f all in
    let stays = c.loop-first.invariant.rests none in (
      refl,
      ap (λ q. record c.loop-first.self { queue = q })
          (c.pop_unless_all_common.ensures.same (ap (λ n. n.uncommon) stays.0 ∙ none)) ∙ stays.0,
      stays.1,
    )

pub returns-then-branch-clause-takes : goal.returns-then-branch-clause-takes
returns-then-branch-clause-takes g c = takes_on c.args.graph.now.graph c.loop-first.graph.graph c.take.new.graph.graph
    (Some c.in-Some.first.id) c.take.ensures.looks.grows c.loop-first.invariant.takes
    (takes_offered c.in-Some.first.id c.loop-first.graph.graph c.take.new.graph.graph c.in_ok-take.ensures.pops)

pub returns-clause-takes : goal.returns-clause-takes
returns-clause-takes g c = c.loop-first.invariant.takes

pub returns-in_err-take-clause-looks : goal.returns-in_err-take-clause-looks
returns-in_err-take-clause-looks g c = looked_from _ c.from_residual.ensures.1
    (looked_on _ c.loop-first.invariant.looks c.in_err-take.ensures.looks)

pub returns-then-branch-clause-looks : goal.returns-then-branch-clause-looks
returns-then-branch-clause-looks g c = looked_ok (looked_on _ c.loop-first.invariant.looks c.in_ok-take.ensures.looks)

pub returns-clause-looks : goal.returns-clause-looks
returns-clause-looks g c = looked_ok c.loop-first.invariant.looks
