use Rattle.gixp_negotiators.proofs.FromLemmas.{rises_none, rises_after}
use Rattle.std.proofs.Common.{◌≡◌, ◌∙◌, ◌∷◌, [], arith, true, true≢false, refl, subst, sym}
use Rattle.std.proofs.lemmas.Bool.{or_left}
use Rattle.std.proofs.lemmas.List.Elements.{All-weaker}
use Rattle.std.specs.Prelude.{IsSome, is_some}
use Rattle.gixp_graph.specs.Object.{Objects, commit_at}
use Rattle.gixp_negotiators.proofs.FitLemmas.{timed_grown, timed_on}
use Rattle.gixp_negotiators.proofs.GrowLemmas.{has_part, none_only, only_none, only_any}
use Rattle.gixp_negotiators.specs.Marks.{COMMON, COMMON_REF, SEEN, has_mark}
use Rattle.gixp_negotiators.specs.CommitMarks.{IsFoundWith}
use Rattle.gixp_negotiators.specs.MarkLaws.{held_marked}
use Rattle.gixp_negotiators.proofs.SeeLemmas.{sees_same, among_none, among_one, among_on}
use Rattle.gixp_negotiators.specs.Spread.{is_there, BecomesCommon}
use Rattle.gixp_negotiators.proofs.SpreadLemmas.{stays_there, stays_grown, stays_on}
use Rattle.gixp_negotiators.proofs.PassingLemmas.{still_lacks}
use Rattle.gixp_negotiators.proofs.StepLemmas.{none_seen}
use Rattle.gixp_negotiators.proofs.LookedLemmas.{looked_on, looked_ok, looked_from}
use Rattle.gixp_negotiators.proofs.consecutive.Consecutive.know.Goals as goal

pub returns-in_default-clause-keeps : goal.returns-in_default-clause-keeps
returns-in_default-clause-keeps g c = timed_grown _ _ _ _ c.look.ensures.looks.grows c.look.ensures.sees c.look.ensures.settles
    c.look.ensures.pops

pub returns-clause-keeps : goal.returns-clause-keeps
returns-clause-keeps g c = timed_on _ _ _ _ _ _ _ _ _ c.look.ensures.looks.grows (timed_grown _ _ _ _ c.look.ensures.looks.grows c.look.ensures.sees
    c.look.ensures.settles c.look.ensures.pops)
    (timed_on _ _ _ _ _ _ _ _ _ c.push.ensures.looks.grows c.in_ok-push.ensures.keeps c.in_ok-mark_ancestors.ensures.steps.keeps)

pub returns-clause-waits : goal.returns-clause-waits
returns-clause-waits g c s = c.mark_ancestors.ensures.looks.grows.marks SEEN c.args.id.now
    (c.in_ok-push.ensures.waits (subst (λ (o : Objects). IsSome (commit_at o c.args.id.now)) (sym c.look.ensures.looks.grows.objects) s))

pub returns-then-has-clause-keeps : goal.returns-then-has-clause-keeps
returns-then-has-clause-keeps g c = timed_grown _ _ _ _ c.look.ensures.looks.grows c.look.ensures.sees c.look.ensures.settles c.look.ensures.pops

pub returns-in_default-clause-spreads : goal.returns-in_default-clause-spreads
returns-in_default-clause-spreads g c = stays_grown is_there stays_there _ _ c.look.ensures.looks.grows c.look.ensures.settles

pub returns-then-has-clause-spreads : goal.returns-then-has-clause-spreads
returns-then-has-clause-spreads g c = stays_grown is_there stays_there _ _ c.look.ensures.looks.grows c.look.ensures.settles

pub returns-clause-spreads : goal.returns-clause-spreads
returns-clause-spreads g c =
    stays_on is_there stays_there _ _ _ c.look.ensures.looks.grows
    (stays_grown is_there stays_there _ _ c.look.ensures.looks.grows c.look.ensures.settles)
    (stays_on is_there stays_there _ _ _ c.push.ensures.looks.grows c.in_ok-push.ensures.spreads c.in_ok-mark_ancestors.ensures.spreads)

pub returns-clause-listed : goal.returns-clause-listed
returns-clause-listed g c s unseen =
    c.mark_ancestors.ensures.looks.grows.marks COMMON_REF c.args.id.now (has_part 12 4 c.push.new.graph.graph.held c.args.id.now refl
    (c.in_ok-push.ensures.marked (subst (λ (o : Objects). IsSome (commit_at o c.args.id.now)) (sym c.look.ensures.looks.grows.objects) s)
    (none_seen c.args.graph.now.graph c.look.new.graph.graph c.args.id.now c.look.ensures.sees unseen)))

pub returns-clause-ancestors : goal.returns-clause-ancestors
returns-clause-ancestors g c there unseen lacks =
    let objects : c.push.new.graph.graph.objects ≡ c.args.graph.now.graph.objects = c.push.ensures.looks.grows.objects
    ∙ c.look.ensures.looks.grows.objects in
    let seen = c.in_ok-push.ensures.waits (subst (λ (o : Objects). IsSome (commit_at o c.args.id.now))
    (sym c.look.ensures.looks.grows.objects) there) in
    let open_then = still_lacks COMMON c.look.new.graph.graph c.push.new.graph.graph c.args.id.now (c.push.ensures.settles refl)
    (still_lacks COMMON c.args.graph.now.graph c.look.new.graph.graph c.args.id.now c.look.ensures.settles lacks) in
    All-weaker (BecomesCommon is_there c.push.new.graph.graph c.mark_ancestors.new.graph.graph)
    (BecomesCommon is_there c.args.graph.now.graph c.mark_ancestors.new.graph.graph)
    (λ q m k. m (subst (λ (o : Objects). is_some (commit_at o q) ≡ true) (sym objects) k)) _
    (c.in_ok-mark_ancestors.ensures.ancestors seen open_then)

pub returns-in_default-clause-lists : goal.returns-in_default-clause-lists
returns-in_default-clause-lists g c = only_any COMMON_REF c.args.id.now c.args.graph.now.graph c.look.new.graph.graph c.look.ensures.lists

pub returns-then-has-clause-lists : goal.returns-then-has-clause-lists
returns-then-has-clause-lists g c = only_any COMMON_REF c.args.id.now c.args.graph.now.graph c.look.new.graph.graph c.look.ensures.lists

pub returns-clause-lists : goal.returns-clause-lists
returns-clause-lists g c =
    only_none COMMON_REF c.args.id.now c.args.graph.now.graph c.push.new.graph.graph c.mark_ancestors.new.graph.graph
    (none_only COMMON_REF c.args.id.now c.args.graph.now.graph c.look.new.graph.graph c.push.new.graph.graph c.look.ensures.lists
    c.in_ok-push.ensures.lists_only) c.in_ok-mark_ancestors.ensures.steps.lists

pub returns-clause-pops : goal.returns-clause-pops
returns-clause-pops g c q m = c.look.ensures.pops q (c.in_ok-push.ensures.pops q (c.in_ok-mark_ancestors.ensures.steps.pops q m))

pub returns-in_default-clause-finds : goal.returns-in_default-clause-finds
returns-in_default-clause-finds g c = among_none _ _ _ (sees_same _ _ c.look.ensures.sees)

pub returns-then-has-clause-finds : goal.returns-then-has-clause-finds
returns-then-has-clause-finds g c = among_none _ _ _ (sees_same _ _ c.look.ensures.sees)

pub returns-clause-finds : goal.returns-clause-finds
returns-clause-finds g c =
    among_on (c.args.id.now ∷ []) _ _ _ c.mark_ancestors.ensures.looks.grows
    (among_on (c.args.id.now ∷ []) _ _ _ c.push.ensures.looks.grows (among_none _ _ _ (sees_same _ _ c.look.ensures.sees))
    (among_one (c.args.id.now ∷ []) 0 c.args.id.now _ _ (omega arith) c.push.ensures.sees_only))
    (among_none _ _ _ (c.in_ok-mark_ancestors.ensures.finds (λ s. or_left (has_mark SEEN c.push.new.graph.graph.held c.args.id.now)
    (has_mark COMMON c.push.new.graph.graph.held c.args.id.now)
    (c.in_ok-push.ensures.waits (subst (λ (o : Objects). IsSome (commit_at o c.args.id.now)) c.push.ensures.looks.grows.objects s)))))

pub returns-in_default-clause-again : goal.returns-in_default-clause-again
returns-in_default-clause-again g c seen = (refl, c.look.ensures.held (held_marked c.args.graph.now.graph c.args.id.now SEEN seen))

pub returns-then-has-clause-again : goal.returns-then-has-clause-again
returns-then-has-clause-again g c seen = (refl, c.look.ensures.held (held_marked c.args.graph.now.graph c.args.id.now SEEN seen))

pub returns-clause-again : goal.returns-clause-again
returns-clause-again g c seen =
    let f : IsFoundWith c.look.new.graph.graph c.args.id.now c.in-Some.flags = rw c.in-Some.is at c.in_ok-flags.ensures.found in
    absurd (true≢false (sym (c.look.ensures.looks.grows.marks SEEN c.args.id.now seen) ∙ f.marks SEEN ∙ sym c.has.ensures ∙ c.if-has.false))

pub returns-in_default-clause-only : goal.returns-in_default-clause-only
returns-in_default-clause-only g c = rises_none _ c.args.graph.now.graph c.look.new.graph.graph c.look.ensures.settles

pub returns-then-has-clause-only : goal.returns-then-has-clause-only
returns-then-has-clause-only g c = rises_none _ c.args.graph.now.graph c.look.new.graph.graph c.look.ensures.settles

pub returns-clause-only : goal.returns-clause-only
returns-clause-only g c =
    rises_after c.args.id.now c.args.graph.now.graph c.push.new.graph.graph c.mark_ancestors.new.graph.graph
    (λ q m. c.look.ensures.settles q (c.push.ensures.settles refl q m)) c.in_ok-mark_ancestors.ensures.only

pub returns-clause-looks : goal.returns-clause-looks
returns-clause-looks g c = looked_on _ c.in_ok-flags.ensures.looks (looked_on _ c.in_ok-push.ensures.looks c.in_ok-mark_ancestors.ensures.looks)

pub returns-in_err-push-clause-looks : goal.returns-in_err-push-clause-looks
returns-in_err-push-clause-looks g c = looked_from _ c.from_residual-in_err-push.ensures.1
    (looked_on _ c.in_ok-flags.ensures.looks c.in_err-push.ensures.looks)

pub returns-in_err-mark_ancestors-clause-looks : goal.returns-in_err-mark_ancestors-clause-looks
returns-in_err-mark_ancestors-clause-looks g c = looked_from _ c.from_residual-in_err-mark_ancestors.ensures.1
    (looked_on _ c.in_ok-flags.ensures.looks (looked_on _ c.in_ok-push.ensures.looks c.in_err-mark_ancestors.ensures.looks))

pub returns-in_default-clause-looks : goal.returns-in_default-clause-looks
returns-in_default-clause-looks g c = looked_ok c.in_ok-flags.ensures.looks

pub returns-then-has-clause-looks : goal.returns-then-has-clause-looks
returns-then-has-clause-looks g c = looked_ok c.in_ok-flags.ensures.looks

pub returns-in_err-flags-clause-looks : goal.returns-in_err-flags-clause-looks
returns-in_err-flags-clause-looks g c = looked_from _ c.from_residual.ensures.1 c.in_err-flags.ensures.looks
