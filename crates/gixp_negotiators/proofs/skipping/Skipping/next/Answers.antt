use Rattle.std.proofs.Common.{◌≡◌, ◌∙◌, ◌<◌, ℕ, ⊎_elim, ◌+◌, ap, arith, refl, subst, sym, true≢false}
use Rattle.gixp_negotiators.specs.NewlyCommon.{AllHeld}
use Rattle.gixp_negotiators.proofs.UnreadLemmas.{unread_same, unread_on, held_first, held_then}
use Rattle.gixp_negotiators.specs.Passing.{TakesUnoffered}
use Rattle.gixp_negotiators.proofs.PassingLemmas.{taken_popped}
use Rattle.std.specs.BinaryHeap.{heap_items}
use Rattle.gixp_negotiators.specs.Queued.{Fits}
use Rattle.gixp_negotiators.proofs.GrowLemmas.{grows_none}
use Rattle.gixp_negotiators.proofs.StepLemmas.{offered_since}
use Rattle.gixp_negotiators.proofs.FitLemmas.{queues_same, queues_on, queues_taken, newest_in, seen_popped, counts_all, counts_on, none_open, none_waits, none_counted}
use Rattle.gixp_negotiators.proofs.TakeLemmas.{first_common}
use Rattle.gixp_negotiators.proofs.LookedLemmas.{looked_none, looked_on, looked_ok, looked_from}
use Rattle.gixp_negotiators.proofs.skipping.Skipping.next.Goals as goal

goes_on : (n : ℕ) → n ≡ 0 → 0 < n → ⊥
goes_on n e l = omega (arith, e, l)

pub loop-first-init : goal.loop-first-init
loop-first-init g c = record {
  fits = counts_all _ _ _ _ _ _ _ (λ lost f. f);
  rests = λ e. (refl, refl);
  common = λ lost f all. all;
  lists = λ q m. m;
  unread = unread_same _ _ _ _ refl (λ q m. m);
  queues = queues_same _ _ _ refl;
  passes = TakesUnoffered.none;
  looks = looked_none _;
}

pub loop-first-preserved : goal.loop-first-preserved
loop-first-preserved g c = record {
  fits =
      counts_on (AllHeld c.args.self.now.unread c.args.graph.now.graph c.take.new.graph.graph)
      (AllHeld c.args.self.now.unread c.args.graph.now.graph c.loop-first.graph.graph)
      (AllHeld c.loop-first.self.unread c.loop-first.graph.graph c.take.new.graph.graph) _ _ _ _ _ _ _ _ _
      (held_first c.args.self.now.unread c.args.graph.now.graph c.loop-first.graph.graph c.take.new.graph.graph c.take.ensures.looks.grows)
      (held_then c.args.self.now.unread c.loop-first.self.unread c.args.graph.now.graph c.loop-first.graph.graph
      c.take.new.graph.graph c.loop-first.invariant.looks.grows c.loop-first.invariant.unread)
      c.loop-first.invariant.fits
      (counts_on (AllHeld c.loop-first.self.unread c.loop-first.graph.graph c.take.new.graph.graph)
      (AllHeld c.loop-first.self.unread c.loop-first.graph.graph c.take.new.graph.graph)
      (AllHeld c.loop-first.self.unread c.loop-first.graph.graph c.take.new.graph.graph) _ _ _ _ _ _ _ _ _ (λ e. e) (λ e. e)
      (counts_all _ _ _ _ _ _ _ (λ lost f. seen_popped lost _ _ _ _ c.in-Some.first c.in-Some.ensures.taken f))
      c.in_ok-take.ensures.fits);
  rests = λ e. absurd (goes_on c.loop-first.self.uncommon (ap (λ n. n.uncommon) (c.loop-first.invariant.rests e).0 ∙ e)
      c.in-Some.ensures.open);
  common = λ lost f all. let x = c.loop-first.invariant.fits lost f in let now = c.loop-first.invariant.common lost f all in
      c.in_ok-take.ensures.common
      (first_common (lost + x.0) _ _ _ c.loop-first.graph.graph c.in-Some.first c.in-Some.ensures.taken x.1.1 now) now;
  lists = λ q m. c.loop-first.invariant.lists q (c.in_ok-take.ensures.lists q m);
  unread =
      unread_on _ _ _ _ _ _ c.loop-first.invariant.looks.grows c.take.ensures.looks.grows c.loop-first.invariant.unread
      c.in_ok-take.ensures.unread;
  queues = queues_on _ _ _ _ _ c.loop-first.invariant.looks.grows c.loop-first.invariant.queues
      (queues_on _ _ _ _ _ (grows_none _) (queues_taken _ _ _ c.in-Some.first c.in-Some.ensures.taken) c.in_ok-take.ensures.queues);
  passes = TakesUnoffered.one c.loop-first.invariant.passes
      (taken_popped _ _ _ _ _ _ _ refl c.if-branch.false c.in_ok-take.ensures.takes);
  looks = looked_ok (looked_on _ c.loop-first.invariant.looks c.in_ok-take.ensures.looks);
}

pub returns-then-branch-clause-offered : goal.returns-then-branch-clause-offered
returns-then-branch-clause-offered g c =
    offered_since c.args.graph.now.graph c.loop-first.graph.graph c.take.new.graph.graph c.in-Some.first.id c.loop-first.invariant.looks.grows
    (c.in_ok-take.ensures.offered c.if-branch.true)

pub returns-then-branch-clause-fits : goal.returns-then-branch-clause-fits
returns-then-branch-clause-fits g c =
    counts_on (AllHeld c.args.self.now.unread c.args.graph.now.graph c.take.new.graph.graph)
    (AllHeld c.args.self.now.unread c.args.graph.now.graph c.loop-first.graph.graph)
    (AllHeld c.loop-first.self.unread c.loop-first.graph.graph c.take.new.graph.graph) _ _ _ _ _ _ _ _ _
    (held_first c.args.self.now.unread c.args.graph.now.graph c.loop-first.graph.graph c.take.new.graph.graph c.take.ensures.looks.grows)
    (held_then c.args.self.now.unread c.loop-first.self.unread c.args.graph.now.graph c.loop-first.graph.graph
    c.take.new.graph.graph c.loop-first.invariant.looks.grows c.loop-first.invariant.unread)
    c.loop-first.invariant.fits
    (counts_on (AllHeld c.loop-first.self.unread c.loop-first.graph.graph c.take.new.graph.graph)
    (AllHeld c.loop-first.self.unread c.loop-first.graph.graph c.take.new.graph.graph)
    (AllHeld c.loop-first.self.unread c.loop-first.graph.graph c.take.new.graph.graph) _ _ _ _ _ _ _ _ _ (λ e. e) (λ e. e)
    (counts_all _ _ _ _ _ _ _ (λ lost f. seen_popped lost _ _ _ _ c.in-Some.first c.in-Some.ensures.taken f))
    c.in_ok-take.ensures.fits)

pub returns-then-branch-clause-lists : goal.returns-then-branch-clause-lists
returns-then-branch-clause-lists g c q m = c.loop-first.invariant.lists q (c.in_ok-take.ensures.lists q m)

pub returns-then-branch-clause-unread : goal.returns-then-branch-clause-unread
returns-then-branch-clause-unread g c =
    unread_on _ _ _ _ _ _ c.loop-first.invariant.looks.grows c.take.ensures.looks.grows c.loop-first.invariant.unread
    c.in_ok-take.ensures.unread

pub returns-clause-unread : goal.returns-clause-unread
returns-clause-unread g c = c.loop-first.invariant.unread

pub returns-clause-none : goal.returns-clause-none
returns-clause-none g c lost f =
    let x = c.loop-first.invariant.fits lost f in
    ⊎_elim
    (λ e. none_open (lost + x.0) (heap_items c.loop-first.self.queue.waiting) c.loop-first.graph.graph
    (subst (λ u. Fits (lost + x.0) u (heap_items c.loop-first.self.queue.waiting) c.loop-first.graph.graph) e x.1.1.fits))
    (λ e. none_waits (lost + x.0) _ _ _ e x.1.1.fits)
    (rw c.in_default.is at c.pop_unless_all_common.ensures.none)

pub returns-then-branch-clause-ends : goal.returns-then-branch-clause-ends
returns-then-branch-clause-ends g c f all = absurd (goes_on c.loop-first.self.uncommon
    (ap (λ n. n.uncommon) (c.loop-first.invariant.rests (none_counted _ _ _ f all)).0 ∙ none_counted _ _ _ f all) c.in-Some.ensures.open)

pub returns-clause-ends : goal.returns-clause-ends
returns-clause-ends g c f all =
    let none = none_counted _ _ _ f all in
    let stays = c.loop-first.invariant.rests none in (
      refl,
      ap (λ q. record c.loop-first.self { queue = q })
          (c.pop_unless_all_common.ensures.same (ap (λ n. n.uncommon) stays.0 ∙ none)) ∙ stays.0,
      stays.1,
    )

pub returns-then-branch-clause-offers_none : goal.returns-then-branch-clause-offers_none
returns-then-branch-clause-offers_none g c lost f all =
    let x = c.loop-first.invariant.fits lost f in
    absurd (true≢false (sym (first_common (lost + x.0) _ _ _ c.loop-first.graph.graph c.in-Some.first c.in-Some.ensures.taken x.1.1
    (c.loop-first.invariant.common lost f all)) ∙ (c.in_ok-take.ensures.offered c.if-branch.true).uncommon))

pub returns-clause-offers_none : goal.returns-clause-offers_none
returns-clause-offers_none g c lost f all = refl

pub returns-clause-fits : goal.returns-clause-fits
returns-clause-fits g c = rw (rw c.in_default.is at c.pop_unless_all_common.ensures.stays) c.loop-first.invariant.fits

pub returns-then-branch-clause-newest : goal.returns-then-branch-clause-newest
returns-then-branch-clause-newest g c =
    newest_in _ _ _ _ _ _ c.in-Some.first c.loop-first.invariant.looks.grows c.loop-first.invariant.queues c.in-Some.ensures.taken
    c.in-Some.ensures.newest c.in_ok-take.ensures.queues

pub returns-then-branch-clause-queues : goal.returns-then-branch-clause-queues
returns-then-branch-clause-queues g c = queues_on _ _ _ _ _ c.loop-first.invariant.looks.grows c.loop-first.invariant.queues
    (queues_on _ _ _ _ _ (grows_none _) (queues_taken _ _ _ c.in-Some.first c.in-Some.ensures.taken) c.in_ok-take.ensures.queues)

pub returns-clause-queues : goal.returns-clause-queues
returns-clause-queues g c = rw (rw c.in_default.is at c.pop_unless_all_common.ensures.stays) c.loop-first.invariant.queues

pub returns-then-branch-clause-distances : goal.returns-then-branch-clause-distances
returns-then-branch-clause-distances g c = (
  c.loop-first.self.skips.entries,
  c.loop-first.graph.graph,
  c.loop-first.invariant.passes,
  taken_popped _ _ _ _ _ _ _ refl c.if-branch.true c.in_ok-take.ensures.takes,
)

pub returns-clause-distances : goal.returns-clause-distances
returns-clause-distances g c = c.loop-first.invariant.passes

pub returns-in_err-take-clause-looks : goal.returns-in_err-take-clause-looks
returns-in_err-take-clause-looks g c = looked_from _ c.from_residual.ensures.1
    (looked_on _ c.loop-first.invariant.looks c.in_err-take.ensures.looks)

pub returns-then-branch-clause-looks : goal.returns-then-branch-clause-looks
returns-then-branch-clause-looks g c = looked_ok (looked_on _ c.loop-first.invariant.looks c.in_ok-take.ensures.looks)

pub returns-clause-looks : goal.returns-clause-looks
returns-clause-looks g c = looked_ok c.loop-first.invariant.looks
