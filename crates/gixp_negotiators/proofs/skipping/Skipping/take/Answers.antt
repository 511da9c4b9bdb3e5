use Rattle.gixp_negotiators.proofs.PassingLemmas.{takes_none, takes_some, legacy_apart}
use Rattle.gixp_negotiators.specs.Passing.{Skipped, Hands}
use Rattle.std.proofs.Common.{ap, subst}
use Rattle.std.proofs.Common.{◌≡◌, ◌∙◌, ◌-◌, sym, refl, false}
use Rattle.gixp_negotiators.specs.NewlyCommon.{AllHeld}
use Rattle.gixp_negotiators.proofs.UnreadLemmas.{unread_same, unread_on, unread_taken, held_then}
use Rattle.gixp_negotiators.specs.Marks.{COMMON, POPPED, has_all}
use Rattle.gixp_negotiators.specs.CommitMarks.{Claims}
use Rattle.gixp_negotiators.specs.Queued.{open_one}
use Rattle.gixp_negotiators.proofs.StepLemmas.{offered, parents_marked}
use Rattle.gixp_negotiators.proofs.FitLemmas.{seen_taken, seen_spent, released, was_mark, counts_all, counts_on, queues_on, queues_same}
use Rattle.gixp_negotiators.proofs.TakeLemmas.{common_kept}
use Rattle.gixp_negotiators.proofs.LookedLemmas.{looked_on, looked_ok, looked_from, looked_failed}
use Rattle.gixp_negotiators.proofs.skipping.Skipping.take.Goals as goal

pub returns-in_default-clause-fits : goal.returns-in_default-clause-fits
returns-in_default-clause-fits g c = counts_all _ _ _ _ _ _ _ (λ lost f. seen_spent lost _ _ _ _ _ c.args.first.now c.claim.ensures.looks.grows
    (rw c.in_default.is at c.in_ok-flags.ensures.unpopped) (rw c.in_default.is at c.in_ok-flags.ensures.absent).1 f)

pub returns-in_default-clause-unread : goal.returns-in_default-clause-unread
returns-in_default-clause-unread g c = unread_same _ _ _ _ refl (rw c.in_default.is at c.in_ok-flags.ensures.unpopped)

pub returns-clause-unread : goal.returns-clause-unread
returns-clause-unread g c =
    let k : Claims POPPED c.args.graph.now.graph c.claim.new.graph.graph c.args.first.now.id c.in-Some.flags =
    rw c.in-Some.is at c.in_ok-flags.ensures.claimed in
    unread_on _ c.remove.new.self _ _ _ _ c.claim.ensures.looks.grows c.follow_all.ensures.looks.grows
    (unread_taken _ c.remove.new.self _ _ c.args.first.now.id c.remove.ensures.updates.0 c.claim.ensures.pops_only k.after)
    (rw c.discount.ensures.unread at c.in_ok-any.ensures.unread)

pub returns-clause-lists : goal.returns-clause-lists
returns-clause-lists g c q m = c.claim.ensures.lists refl q (c.in_ok-any.ensures.lists q m)

pub returns-clause-fits : goal.returns-clause-fits
returns-clause-fits g c =
    let k : Claims POPPED c.args.graph.now.graph c.claim.new.graph.graph c.args.first.now.id c.in-Some.flags =
    rw c.in-Some.is at c.in_ok-flags.ensures.claimed in
    let is : c.discount.new.self.uncommon ≡ c.args.self.now.uncommon - open_one c.args.graph.now.graph.held c.args.first.now.id =
    released _ _ _ _ c.has-is_common.result (was_mark POPPED 2 _ c.claim.new.graph.graph _ _ k refl ∙ sym c.has-is_common.ensures)
    c.discount.ensures.taken c.discount.ensures.waits in
    counts_on (AllHeld c.args.self.now.unread c.args.graph.now.graph c.follow_all.new.graph.graph)
    (AllHeld c.args.self.now.unread c.args.graph.now.graph c.follow_all.new.graph.graph)
    (AllHeld c.remove.new.self c.claim.new.graph.graph c.follow_all.new.graph.graph) _ _ _ _ _ _ _ _ _ (λ e. e)
    (held_then c.args.self.now.unread c.remove.new.self c.args.graph.now.graph c.claim.new.graph.graph c.follow_all.new.graph.graph
    c.claim.ensures.looks.grows
    (unread_taken _ c.remove.new.self _ _ c.args.first.now.id c.remove.ensures.updates.0 c.claim.ensures.pops_only k.after))
    (counts_all _ _ _ _ _ _ _ (λ lost f. seen_taken lost _ _ _ _ _ c.args.first.now c.claim.ensures.looks.grows (c.claim.ensures.sees refl)
    (c.claim.ensures.settles refl) c.claim.ensures.pops_only k.after is f))
    (rw (c.discount.ensures.queue, c.discount.ensures.unread) at c.in_ok-any.ensures.fits)

pub returns-clause-offered : goal.returns-clause-offered
returns-clause-offered g c t =
    let k : Claims POPPED c.args.graph.now.graph c.claim.new.graph.graph c.args.first.now.id c.in-Some.flags =
    rw c.in-Some.is at c.in_ok-flags.ensures.claimed in
    let lacks : has_all COMMON c.in-Some.flags.0 ≡ false = sym c.has-is_common.ensures ∙ c.is_offered.ensures.common t in
    offered c.args.graph.now.graph c.claim.new.graph.graph c.follow_all.new.graph.graph c.args.first.now.id c.in-Some.flags k lacks
    c.follow_all.ensures.looks.grows (c.claim.ensures.settles refl)
    (λ four. c.in_ok-any.ensures.settles (legacy_apart c.legacy_of.result c.skip_of-skip.result (c.legacy_of.ensures.passes lacks four)
    (c.legacy_of.ensures.grows lacks four)))
    (parents_marked c.args.graph.now.graph c.claim.new.graph.graph c.follow_all.new.graph.graph c.args.first.now.id c.deref.result.now
    c.claim.ensures.looks.grows c.follow_all.ensures.looks.grows k.held
    (c.deref.ensures.value ∙ c.in_ok-parents.ensures.parents) c.in_ok-any.ensures.waits)

pub returns-clause-queues : goal.returns-clause-queues
returns-clause-queues g c =
    queues_on _ _ _ _ _ c.claim.ensures.looks.grows (queues_same _ _ _ refl) (rw c.discount.ensures.queue at c.in_ok-any.ensures.queues)

pub returns-in_default-clause-takes : goal.returns-in_default-clause-takes
returns-in_default-clause-takes g c =
    takes_none c.args.self.now.skips.entries c.args.graph.now.graph c.claim.new.graph.graph c.args.first.now.id
    (rw c.in_default.is at (c.in_ok-flags.ensures.spent refl)) (rw c.in_default.is at c.in_ok-flags.ensures.kept)
    c.claim.ensures.looks.grows (rw c.in_default.is at c.in_ok-flags.ensures.unpopped)

pub returns-clause-takes : goal.returns-clause-takes
returns-clause-takes g c =
    let k : Claims POPPED c.args.graph.now.graph c.claim.new.graph.graph c.args.first.now.id c.in-Some.flags =
    rw c.in-Some.is at c.in_ok-flags.ensures.claimed in
    takes_some c.args.self.now.skips.entries c.follow_all.new.self.skips.entries c.args.graph.now.graph c.claim.new.graph.graph
    c.follow_all.new.graph.graph c.args.first.now.id c.in-Some.flags c.legacy_of.result c.deref.result.now c.skip_of-skip.result
    c.has-is_common.result c.is_offered.result
    k c.follow_all.ensures.looks.grows (c.deref.ensures.value ∙ c.in_ok-parents.ensures.parents) c.skip_of-skip.ensures
    (subst (λ (s : Skipped). Hands c.legacy_of.result c.deref.result.now c.follow_all.new.graph.graph s
    c.follow_all.new.self.skips.entries) (ap (λ m. m.entries) c.discount.ensures.skips) c.in_ok-any.ensures.hands)
    c.has-is_common.ensures c.legacy_of.ensures.passes c.legacy_of.ensures.grows c.is_offered.ensures.reached c.in_ok-any.any
    c.is_offered.ensures.passed c.in_ok-any.ensures.taken c.is_offered.ensures.last c.in_ok-any.ensures.left
    (c.claim.ensures.settles refl) c.in_ok-any.ensures.settles c.claim.ensures.pops_only c.in_ok-any.ensures.pops
    c.legacy_of.ensures.common c.legacy_of.ensures.listed c.in_ok-any.ensures.shares

pub returns-in_default-clause-common : goal.returns-in_default-clause-common
returns-in_default-clause-common g c e all = common_kept c.args.graph.now.graph c.claim.new.graph.graph c.claim.ensures.looks.grows
    (rw c.in_default.is at c.in_ok-flags.ensures.absent).0 all

pub returns-clause-common : goal.returns-clause-common
returns-clause-common g c e all =
    let k : Claims POPPED c.args.graph.now.graph c.claim.new.graph.graph c.args.first.now.id c.in-Some.flags =
    rw c.in-Some.is at c.in_ok-flags.ensures.claimed in
    c.in_ok-any.ensures.common
    (c.legacy_of.ensures.common (sym (was_mark POPPED 2 _ c.claim.new.graph.graph _ _ k refl) ∙ e))
    (common_kept c.args.graph.now.graph c.claim.new.graph.graph c.claim.ensures.looks.grows (c.claim.ensures.sees refl) all)

pub returns-clause-looks : goal.returns-clause-looks
returns-clause-looks g c = looked_ok (looked_on _ c.in_ok-flags.ensures.looks c.in_ok-any.ensures.looks)

pub returns-in_err-any-clause-looks : goal.returns-in_err-any-clause-looks
returns-in_err-any-clause-looks g c = looked_from _ c.from_residual-in_err-any.ensures.1
    (looked_on _ c.in_ok-flags.ensures.looks c.in_err-any.ensures.looks)

pub returns-in_default-clause-looks : goal.returns-in_default-clause-looks
returns-in_default-clause-looks g c = looked_ok c.in_ok-flags.ensures.looks

pub returns-in_err-flags-clause-looks : goal.returns-in_err-flags-clause-looks
returns-in_err-flags-clause-looks g c = looked_from _ c.from_residual.ensures.1 c.in_err-flags.ensures.looks

pub returns-in_err-parents-clause-looks : goal.returns-in_err-parents-clause-looks
returns-in_err-parents-clause-looks g c = looked_failed _ _ c.from_residual-in_err-parents.ensures.1 c.in_err-parents.ensures.failed
    c.in_ok-flags.ensures.looks
