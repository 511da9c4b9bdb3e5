use Rattle.gixp_graph.specs.GraphData.{parents_in}
use Rattle.gixp_negotiators.proofs.FromLemmas.{within_none, within_after, owes_same}
use Rattle.std.proofs.Common.{◌≡◌, ◌∙◌, refl, subst, sym, false}
use Rattle.std.specs.Prelude.{IsSome}
use Rattle.std.proofs.lemmas.Bool.{or_right}
use Rattle.gixp_graph.specs.Object.{Objects, commit_at}
use Rattle.gixp_negotiators.specs.Marks.{COMMON, SEEN, has_mark}
use Rattle.gixp_negotiators.specs.CommitMarks.{IsFoundWith}
use Rattle.gixp_negotiators.proofs.InTurnLemmas.{steps_unmarked, steps_on}
use Rattle.gixp_negotiators.specs.Spread.{is_there}
use Rattle.gixp_negotiators.specs.NewlyCommon.{MarksCommonWithin, OwesAmong}
use Rattle.gixp_negotiators.proofs.SpreadLemmas.{stays_there, parents_common, common_since, from_unseen, from_pushed, from_parents}
use Rattle.gixp_negotiators.proofs.SeeLemmas.{sees_same, sees_on, sees_one, near_unseen}
use Rattle.gixp_negotiators.proofs.LookedLemmas.{looked_on, looked_ok, looked_from, looked_failed}
use Rattle.gixp_negotiators.proofs.consecutive.Consecutive.spread.Goals as goal

pub returns-in_default-clause-steps : goal.returns-in_default-clause-steps
returns-in_default-clause-steps g c =
    steps_unmarked c.look.ensures.looks.grows c.look.ensures.sees c.look.ensures.settles c.look.ensures.lists c.look.ensures.pops

pub returns-clause-steps : goal.returns-clause-steps
returns-clause-steps g c =
    steps_on c.look.ensures.looks.grows (steps_unmarked c.look.ensures.looks.grows c.look.ensures.sees c.look.ensures.settles
    c.look.ensures.lists c.look.ensures.pops) c.in_ok-reach_all.ensures.steps

pub returns-then-not-has-clause-steps : goal.returns-then-not-has-clause-steps
returns-then-not-has-clause-steps g c =
    steps_on c.look.ensures.looks.grows (steps_unmarked c.look.ensures.looks.grows c.look.ensures.sees c.look.ensures.settles
    c.look.ensures.lists c.look.ensures.pops)
    record { keeps = c.in_ok-push.ensures.keeps; lists = c.in_ok-push.ensures.lists refl; pops = c.in_ok-push.ensures.pops }

pub returns-in_default-clause-spreads : goal.returns-in_default-clause-spreads
returns-in_default-clause-spreads g c = from_unseen is_there stays_there c.args.id.now _ _ _ c.look.ensures.looks.grows c.look.ensures.settles
    (rw c.in_default.is at c.in_ok-flags.ensures.absent)

pub returns-in_default-clause-finds : goal.returns-in_default-clause-finds
returns-in_default-clause-finds g c near = sees_same _ _ c.look.ensures.sees

pub returns-clause-finds : goal.returns-clause-finds
returns-clause-finds g c near = sees_on _ _ _ c.reach_all.ensures.looks.grows (sees_same _ _ c.look.ensures.sees)
    (sees_same _ _ c.in_ok-reach_all.ensures.sees)

pub returns-clause-spreads : goal.returns-clause-spreads
returns-clause-spreads g c = from_parents is_there stays_there c.args.id.now _ _ _ _ _ c.look.ensures.looks.grows c.look.ensures.settles
    (λ seen. parents_common is_there stays_there _ _ c.args.id.now c.deref.result.now c.reach_all.ensures.looks.grows seen
    (c.deref.ensures.value ∙ c.in_ok-parents.ensures.parents) c.in_ok-reach_all.ensures.marked)
    c.in_ok-reach_all.ensures.spreads

pub returns-clause-ancestors : goal.returns-clause-ancestors
returns-clause-ancestors g c seen =
    common_since is_there stays_there c.args.graph.now.graph c.look.new.graph.graph c.reach_all.new.graph.graph c.args.id.now
    c.look.ensures.looks.grows
    (parents_common is_there stays_there _ _ c.args.id.now c.deref.result.now c.reach_all.ensures.looks.grows
    (c.look.ensures.looks.grows.marks SEEN c.args.id.now seen)
    (c.deref.ensures.value ∙ c.in_ok-parents.ensures.parents) c.in_ok-reach_all.ensures.marked)

pub returns-then-not-has-clause-spreads : goal.returns-then-not-has-clause-spreads
returns-then-not-has-clause-spreads g c =
    let f : IsFoundWith c.look.new.graph.graph c.args.id.now c.in-Some.flags = rw c.in-Some.is at c.in_ok-flags.ensures.found in
    from_pushed is_there stays_there c.args.id.now _ _ _ _ c.look.ensures.looks.grows c.look.ensures.settles c.push.ensures.looks.grows
    (c.push.ensures.settles refl) (f.marks SEEN ∙ sym c.has.ensures ∙ c.if-not-has.true)

pub returns-then-not-has-clause-finds : goal.returns-then-not-has-clause-finds
returns-then-not-has-clause-finds g c near =
    let f : IsFoundWith c.look.new.graph.graph c.args.id.now c.in-Some.flags = rw c.in-Some.is at c.in_ok-flags.ensures.found in
    let unseen : has_mark SEEN c.look.new.graph.graph.held c.args.id.now ≡ false = f.marks SEEN ∙ sym c.has.ensures ∙ c.if-not-has.true in
    sees_on _ _ _ c.push.ensures.looks.grows (sees_same _ _ c.look.ensures.sees) (sees_one _ _ c.args.id.now c.push.ensures.sees_only
    (or_right (has_mark SEEN c.look.new.graph.graph.held c.args.id.now) (has_mark COMMON c.push.new.graph.graph.held c.args.id.now)
    (c.push.ensures.looks.grows.marks COMMON c.args.id.now
    (near_unseen c.args.graph.now.graph c.look.new.graph.graph c.args.id.now c.look.ensures.looks.grows unseen
    (near (subst (λ (o : Objects). IsSome (commit_at o c.args.id.now)) c.look.ensures.looks.grows.objects f.read))))))

pub returns-in_default-clause-among : goal.returns-in_default-clause-among
returns-in_default-clause-among g c = within_none _ c.args.graph.now.graph c.look.new.graph.graph c.look.ensures.settles

pub returns-then-not-has-clause-among : goal.returns-then-not-has-clause-among
returns-then-not-has-clause-among g c = within_none _ c.args.graph.now.graph c.push.new.graph.graph
    (λ q m. c.look.ensures.settles q (c.push.ensures.settles refl q m))

pub returns-clause-among : goal.returns-clause-among
returns-clause-among g c =
    let f : IsFoundWith c.look.new.graph.graph c.args.id.now c.in-Some.flags = rw c.in-Some.is at c.in_ok-flags.ensures.found in
    within_after (parents_in c.reach_all.new.graph.graph.held c.args.id.now) c.args.graph.now.graph c.look.new.graph.graph
    c.reach_all.new.graph.graph c.look.ensures.settles
    (subst (λ ids. MarksCommonWithin ids c.look.new.graph.graph c.reach_all.new.graph.graph) (c.deref.ensures.value
    ∙ c.in_ok-parents.ensures.parents ∙ sym (c.reach_all.ensures.looks.grows.parents c.args.id.now f.held)) c.in_ok-reach_all.ensures.among)

pub returns-in_default-clause-owes : goal.returns-in_default-clause-owes
returns-in_default-clause-owes g c = owes_same _ c.args.due.now.items

pub returns-then-not-has-clause-owes : goal.returns-then-not-has-clause-owes
returns-then-not-has-clause-owes g c = owes_same _ c.args.due.now.items

pub returns-clause-owes : goal.returns-clause-owes
returns-clause-owes g c =
    let f : IsFoundWith c.look.new.graph.graph c.args.id.now c.in-Some.flags = rw c.in-Some.is at c.in_ok-flags.ensures.found in
    subst (λ ids. OwesAmong ids c.args.due.now.items c.reach_all.new.due.items) (c.deref.ensures.value
    ∙ c.in_ok-parents.ensures.parents ∙ sym (c.reach_all.ensures.looks.grows.parents c.args.id.now f.held)) c.in_ok-reach_all.ensures.owes

pub returns-then-not-has-clause-looks : goal.returns-then-not-has-clause-looks
returns-then-not-has-clause-looks g c = looked_on _ c.in_ok-flags.ensures.looks c.in_ok-push.ensures.looks

pub returns-clause-looks : goal.returns-clause-looks
returns-clause-looks g c = looked_on _ c.in_ok-flags.ensures.looks c.in_ok-reach_all.ensures.looks

pub returns-in_err-reach_all-clause-looks : goal.returns-in_err-reach_all-clause-looks
returns-in_err-reach_all-clause-looks g c = looked_from _ c.from_residual-in_err-reach_all.ensures.1
    (looked_on _ c.in_ok-flags.ensures.looks c.in_err-reach_all.ensures.looks)

pub returns-in_default-clause-looks : goal.returns-in_default-clause-looks
returns-in_default-clause-looks g c = looked_ok c.in_ok-flags.ensures.looks

pub returns-in_err-flags-clause-looks : goal.returns-in_err-flags-clause-looks
returns-in_err-flags-clause-looks g c = looked_from _ c.from_residual.ensures.1 c.in_err-flags.ensures.looks

pub returns-in_err-push-clause-looks : goal.returns-in_err-push-clause-looks
returns-in_err-push-clause-looks g c = looked_from _ c.from_residual-in_err-push.ensures.1
    (looked_on _ c.in_ok-flags.ensures.looks c.in_err-push.ensures.looks)

pub returns-in_err-parents-clause-looks : goal.returns-in_err-parents-clause-looks
returns-in_err-parents-clause-looks g c = looked_failed _ _ c.from_residual-in_err-parents.ensures.1 c.in_err-parents.ensures.failed
    c.in_ok-flags.ensures.looks
