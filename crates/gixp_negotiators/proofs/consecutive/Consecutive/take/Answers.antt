use Rattle.std.proofs.Common.{◌≡◌, ◌∙◌, ◌-◌, ◌||◌, Bool, ap, sym, refl, true, false, true≢false}
use Rattle.std.specs.Prelude.{not}
use Rattle.gixp_negotiators.specs.Marks.{COMMON, COMMON_REF, POPPED, has_all}
use Rattle.gixp_negotiators.specs.CommitMarks.{Claims}
use Rattle.gixp_negotiators.specs.MarkLaws.{not_true}
use Rattle.gixp_negotiators.specs.Queued.{open_one}
use Rattle.gixp_negotiators.proofs.StepLemmas.{offered, parents_marked}
use Rattle.gixp_negotiators.proofs.FitLemmas.{timed_on, timed_taken, fits_taken, fits_spent, released, was_mark}
use Rattle.gixp_negotiators.specs.Spread.{is_there}
use Rattle.gixp_negotiators.proofs.SpreadLemmas.{stays_there, stays_grown, stays_on}
use Rattle.gixp_negotiators.proofs.SeeLemmas.{sees_same, sees_on, opens_taken, shared_common}
use Rattle.gixp_negotiators.proofs.TakeLemmas.{pops_none, pops_on, takes_none, takes_one}
use Rattle.gixp_negotiators.proofs.LookedLemmas.{looked_on, looked_ok, looked_from, looked_failed}
use Rattle.gixp_negotiators.proofs.consecutive.Consecutive.take.Goals as goal

is_true : (b : Bool) → not b ≡ false → b ≡ true
is_true true e = refl
is_true false e = absurd (true≢false e)

pub returns-in_default-clause-keeps : goal.returns-in_default-clause-keeps
returns-in_default-clause-keeps g c =
    timed_taken _ _ _ _ _ c.args.first.now c.claim.ensures.looks.grows
    (fits_spent 0 _ _ _ _ _ c.args.first.now c.claim.ensures.looks.grows (rw c.in_default.is at c.in_ok-flags.ensures.unpopped)
    (rw c.in_default.is at c.in_ok-flags.ensures.absent).1)

pub returns-clause-keeps : goal.returns-clause-keeps
returns-clause-keeps g c =
    let k : Claims POPPED c.args.graph.now.graph c.claim.new.graph.graph c.args.first.now.id c.in-Some.flags =
    rw c.in-Some.is at c.in_ok-flags.ensures.claimed in
    let is : c.release.new.self.uncommon ≡ c.args.self.now.uncommon - open_one c.args.graph.now.graph.held c.args.first.now.id =
    released _ _ _ _ c.has-is_common.result (was_mark POPPED 2 _ c.claim.new.graph.graph _ _ k refl ∙ sym c.has-is_common.ensures)
    c.release.ensures.common c.release.ensures.open in
    timed_on _ _ _ _ _ _ _ _ _ c.claim.ensures.looks.grows (timed_taken _ _ _ _ _ c.args.first.now c.claim.ensures.looks.grows
    (fits_taken 0 _ _ _ _ _ c.args.first.now c.claim.ensures.looks.grows (c.claim.ensures.sees refl) (c.claim.ensures.settles refl)
    c.claim.ensures.pops_only k.after is)) (rw c.release.ensures.queue at c.in_ok-follow_all.ensures.steps.keeps)

pub returns-clause-offered : goal.returns-clause-offered
returns-clause-offered g c t =
    let k : Claims POPPED c.args.graph.now.graph c.claim.new.graph.graph c.args.first.now.id c.in-Some.flags =
    rw c.in-Some.is at c.in_ok-flags.ensures.claimed in
    let lacks : has_all COMMON c.in-Some.flags.0 ≡ false = sym c.has-is_common.ensures ∙ not_true c.has-is_common.result t in
    offered c.args.graph.now.graph c.claim.new.graph.graph c.follow_all.new.graph.graph c.args.first.now.id c.in-Some.flags k lacks
    c.follow_all.ensures.looks.grows (c.claim.ensures.settles refl)
    (λ four. c.in_ok-follow_all.ensures.settles (c.is_shared-spreads.ensures
    ∙ ap (λ b. b || has_all COMMON_REF c.in-Some.flags.0) lacks ∙ four))
    (parents_marked c.args.graph.now.graph c.claim.new.graph.graph c.follow_all.new.graph.graph c.args.first.now.id c.deref.result.now
    c.claim.ensures.looks.grows c.follow_all.ensures.looks.grows k.held
    (c.deref.ensures.value ∙ c.in_ok-parents.ensures.parents) c.in_ok-follow_all.ensures.waits)

pub returns-in_default-clause-spreads : goal.returns-in_default-clause-spreads
returns-in_default-clause-spreads g c =
    stays_grown is_there stays_there _ _ c.claim.ensures.looks.grows (rw c.in_default.is at c.in_ok-flags.ensures.kept)

pub returns-clause-spreads : goal.returns-clause-spreads
returns-clause-spreads g c = stays_on is_there stays_there _ _ _ c.claim.ensures.looks.grows
    (stays_grown is_there stays_there _ _ c.claim.ensures.looks.grows (c.claim.ensures.settles refl)) c.in_ok-follow_all.ensures.spreads

pub returns-in_default-clause-passes : goal.returns-in_default-clause-passes
returns-in_default-clause-passes g c f = sees_same _ _ (rw c.in_default.is at c.in_ok-flags.ensures.absent).0

pub returns-clause-passes : goal.returns-clause-passes
returns-clause-passes g c f = sees_on _ _ _ c.follow_all.ensures.looks.grows (sees_same _ _ (c.claim.ensures.sees refl))
    (c.in_ok-follow_all.ensures.finds (c.is_shared-spreads.ensures
    ∙ shared_common c.has-is_common.result (has_all COMMON c.in-Some.flags.0) (has_all COMMON_REF c.in-Some.flags.0)
    c.has-is_common.ensures f))

pub returns-clause-opens : goal.returns-clause-opens
returns-clause-opens g c t =
    let k : Claims POPPED c.args.graph.now.graph c.claim.new.graph.graph c.args.first.now.id c.in-Some.flags =
    rw c.in-Some.is at c.in_ok-flags.ensures.claimed in
    let lacks : has_all COMMON c.in-Some.flags.0 ≡ false = sym c.has-is_common.ensures ∙ not_true c.has-is_common.result t in
    let four : c.is_shared-spreads.result ≡ has_all COMMON_REF c.in-Some.flags.0 =
    c.is_shared-spreads.ensures ∙ ap (λ b. b || has_all COMMON_REF c.in-Some.flags.0) lacks in
    opens_taken c.args.graph.now.graph c.claim.new.graph.graph c.follow_all.new.graph.graph c.args.first.now.id c.deref.result.now
    c.is_shared-spreads.result c.follow_all.ensures.looks.grows (c.claim.ensures.sees refl) (c.claim.ensures.settles refl)
    (was_mark POPPED 4 _ c.claim.new.graph.graph _ _ k refl ∙ sym four)
    (c.deref.ensures.value ∙ c.in_ok-parents.ensures.parents ∙ sym (c.follow_all.ensures.looks.grows.parents c.args.first.now.id k.held))
    c.in_ok-follow_all.ensures.finds c.in_ok-follow_all.ensures.settles c.in_ok-follow_all.ensures.others

pub returns-in_default-clause-pops : goal.returns-in_default-clause-pops
returns-in_default-clause-pops g c = pops_none c.args.first.now.id c.args.graph.now.graph c.claim.new.graph.graph
    (rw c.in_default.is at c.in_ok-flags.ensures.unpopped)

pub returns-clause-pops : goal.returns-clause-pops
returns-clause-pops g c = pops_on c.args.first.now.id c.args.graph.now.graph c.claim.new.graph.graph c.follow_all.new.graph.graph
    c.claim.ensures.pops_only c.in_ok-follow_all.ensures.steps.pops

pub returns-in_default-clause-takes : goal.returns-in_default-clause-takes
returns-in_default-clause-takes g c f = takes_none c.args.graph.now.graph c.claim.new.graph.graph
    (rw c.in_default.is at c.in_ok-flags.ensures.unpopped)

pub returns-clause-takes : goal.returns-clause-takes
returns-clause-takes g c f =
    let k : Claims POPPED c.args.graph.now.graph c.claim.new.graph.graph c.args.first.now.id c.in-Some.flags =
    rw c.in-Some.is at c.in_ok-flags.ensures.claimed in
    takes_one c.args.first.now.id c.args.graph.now.graph c.follow_all.new.graph.graph
    (pops_on c.args.first.now.id c.args.graph.now.graph c.claim.new.graph.graph c.follow_all.new.graph.graph
    c.claim.ensures.pops_only c.in_ok-follow_all.ensures.steps.pops)
    (c.follow_all.ensures.looks.grows.marks COMMON c.args.first.now.id (k.had COMMON
    (sym c.has-is_common.ensures ∙ is_true c.has-is_common.result f)))

pub returns-clause-lists : goal.returns-clause-lists
returns-clause-lists g c q m = c.claim.ensures.lists refl q (c.in_ok-follow_all.ensures.steps.lists q m)

pub returns-clause-looks : goal.returns-clause-looks
returns-clause-looks g c = looked_ok (looked_on _ c.in_ok-flags.ensures.looks c.in_ok-follow_all.ensures.looks)

pub returns-in_err-follow_all-clause-looks : goal.returns-in_err-follow_all-clause-looks
returns-in_err-follow_all-clause-looks g c = looked_from _ c.from_residual-in_err-follow_all.ensures.1
    (looked_on _ c.in_ok-flags.ensures.looks c.in_err-follow_all.ensures.looks)

pub returns-in_default-clause-looks : goal.returns-in_default-clause-looks
returns-in_default-clause-looks g c = looked_ok c.in_ok-flags.ensures.looks

pub returns-in_err-flags-clause-looks : goal.returns-in_err-flags-clause-looks
returns-in_err-flags-clause-looks g c = looked_from _ c.from_residual.ensures.1 c.in_err-flags.ensures.looks

pub returns-in_err-parents-clause-looks : goal.returns-in_err-parents-clause-looks
returns-in_err-parents-clause-looks g c = looked_failed _ _ c.from_residual-in_err-parents.ensures.1 c.in_err-parents.ensures.failed
    c.in_ok-flags.ensures.looks
