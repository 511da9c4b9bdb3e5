use Rattle.std.proofs.Common.{◌∙◌, refl, sym, ap, subst, true≢false}
use Rattle.std.specs.Prelude.{IsSome}
use Rattle.gixp_graph.specs.Object.{commit_at}
use Rattle.gixp_negotiators.specs.Marks.{POPPED, has_mark}
use Rattle.gixp_negotiators.specs.NewlyCommon.{AllRead, AllHeld}
use Rattle.gixp_negotiators.proofs.FitLemmas.{lacked, counts_all, counts_on}
use Rattle.gixp_negotiators.proofs.UnreadLemmas.{unread_same, unread_on, read_then}
use Rattle.gixp_negotiators.specs.Passing.{Skipped, HandsOne}
use Rattle.gixp_negotiators.proofs.PassingLemmas.{hands_one, hands_taken}
use Rattle.gixp_negotiators.proofs.GrowLemmas.{grows_none}
use Rattle.gixp_negotiators.proofs.TakeLemmas.{common_seen}
use Rattle.gixp_negotiators.proofs.LookedLemmas.{looked_on, looked_ok, looked_from}
use Rattle.gixp_negotiators.proofs.skipping.Skipping.follow.Goals as goal

pub returns-then-is_marked-clause-hands : goal.returns-then-is_marked-clause-hands
returns-then-is_marked-clause-hands g c =
    hands_taken c.args.legacy c.args.parent.now c.push.new.graph.graph c.args.self.now.skips.entries c.push.new.self.skips.entries
    (sym c.is_marked.ensures.value ∙ c.if-is_marked.true) (ap (λ m. m.entries) c.in_ok-push.ensures.skips)

pub returns-clause-hands : goal.returns-clause-hands
returns-clause-hands g c =
    hands_one c.args.legacy c.args.parent.now c.pass.new.graph.graph c.args.self.now.skips.entries c.pass.new.self.skips.entries
    (subst (λ (s : Skipped). HandsOne c.args.legacy c.args.parent.now s c.pass.new.self.skips.entries)
    (ap (λ m. m.entries) c.in_ok-push.ensures.skips) c.in_ok-pass.ensures.hands)

pub returns-then-is_marked-clause-fits : goal.returns-then-is_marked-clause-fits
returns-then-is_marked-clause-fits g c = counts_all _ _ _ _ _ _ _ c.in_ok-push.ensures.fits

pub returns-clause-fits : goal.returns-clause-fits
returns-clause-fits g c =
    counts_on (AllHeld c.args.self.now.unread c.args.graph.now.graph c.pass.new.graph.graph)
    (AllHeld c.args.self.now.unread c.args.graph.now.graph c.pass.new.graph.graph)
    (AllRead c.push.new.self.unread c.push.new.graph.graph c.pass.new.graph.graph) _ _ _ _ _ _ _ _ _ (λ e. e)
    (read_then c.args.self.now.unread c.push.new.self.unread c.args.graph.now.graph c.push.new.graph.graph c.pass.new.graph.graph
    c.push.ensures.looks.grows c.in_ok-push.ensures.unread)
    (counts_all _ _ _ _ _ _ _ c.in_ok-push.ensures.fits) c.in_ok-pass.ensures.fits

pub returns-clause-left : goal.returns-clause-left
returns-clause-left g c w = lacked (has_mark POPPED c.pass.new.graph.graph.held c.args.parent.now)
    (has_mark POPPED c.push.new.graph.graph.held c.args.parent.now) (c.in_ok-pass.ensures.marks.pops c.args.parent.now)
    (sym c.is_marked.ensures.value ∙ c.if-is_marked.false)

pub returns-clause-settles : goal.returns-clause-settles
returns-clause-settles g c apart q m = c.push.ensures.settles q (c.in_ok-pass.ensures.settles apart q m)

pub returns-then-is_marked-clause-common : goal.returns-then-is_marked-clause-common
returns-then-is_marked-clause-common g c is all =
    common_seen c.args.graph.now.graph c.push.new.graph.graph c.push.new.graph.graph c.args.parent.now c.push.ensures.looks.grows
    (grows_none _) c.push.ensures.sees (λ q m. m)
    (λ seen left. absurd (true≢false (sym (sym c.is_marked.ensures.value ∙ c.if-is_marked.true) ∙ left))) all

pub returns-clause-common : goal.returns-clause-common
returns-clause-common g c is all =
    common_seen c.args.graph.now.graph c.push.new.graph.graph c.pass.new.graph.graph c.args.parent.now c.push.ensures.looks.grows
    c.pass.ensures.looks.grows c.push.ensures.sees c.in_ok-pass.ensures.marks.sees
    (λ seen left. c.in_ok-pass.ensures.common is seen) all

pub returns-then-is_marked-clause-shares : goal.returns-then-is_marked-clause-shares
returns-then-is_marked-clause-shares g c is there left =
    absurd (true≢false (sym (sym c.is_marked.ensures.value ∙ c.if-is_marked.true) ∙ left))

pub returns-clause-shares : goal.returns-clause-shares
returns-clause-shares g c is there left = c.in_ok-pass.ensures.common is
    (c.in_ok-push.ensures.waits (subst (λ o. IsSome (commit_at o c.args.parent.now))
    (c.pass.ensures.looks.grows.objects ∙ c.push.ensures.looks.grows.objects) there))

pub returns-then-is_marked-clause-lists : goal.returns-then-is_marked-clause-lists
returns-then-is_marked-clause-lists g c = c.in_ok-push.ensures.lists refl

pub returns-clause-lists : goal.returns-clause-lists
returns-clause-lists g c q m = c.in_ok-push.ensures.lists refl q (c.in_ok-pass.ensures.marks.lists q m)

pub returns-clause-pops : goal.returns-clause-pops
returns-clause-pops g c q m = c.in_ok-push.ensures.pops q (c.in_ok-pass.ensures.marks.pops q m)

pub returns-clause-unread : goal.returns-clause-unread
returns-clause-unread g c =
    unread_on _ _ _ _ _ _ c.push.ensures.looks.grows c.pass.ensures.looks.grows c.in_ok-push.ensures.unread
    (unread_same _ _ _ _ c.pass.ensures.unread c.in_ok-pass.ensures.marks.pops)

pub returns-clause-looks : goal.returns-clause-looks
returns-clause-looks g c = looked_ok (looked_on _ c.in_ok-push.ensures.looks c.in_ok-pass.ensures.looks)

pub returns-in_err-pass-clause-looks : goal.returns-in_err-pass-clause-looks
returns-in_err-pass-clause-looks g c = looked_from _ c.from_residual-in_err-pass.ensures.1
    (looked_on _ c.in_ok-push.ensures.looks c.in_err-pass.ensures.looks)

pub returns-then-is_marked-clause-looks : goal.returns-then-is_marked-clause-looks
returns-then-is_marked-clause-looks g c = looked_ok c.in_ok-push.ensures.looks

pub returns-in_err-push-clause-looks : goal.returns-in_err-push-clause-looks
returns-in_err-push-clause-looks g c = looked_from _ c.from_residual.ensures.1 c.in_err-push.ensures.looks
