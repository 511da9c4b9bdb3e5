use Rattle.std.proofs.Common.{◌≡◌, ◌∙◌, ap, sym, refl, rules, true, false, not}
use Rattle.std.proofs.lemmas.Int.{to_z-of_z}
use mir.Val.{SFits}
use mir.Syntax.{w64}
use Rattle.gixp_graph.specs.Table.{id_at}
use Rattle.gixp_graph.specs.Visited.{has, is_visited}
use Rattle.gixp_graph.specs.Walk.{Walk, walk_of, Visits}
use Rattle.gixp_graph.proofs.AskedLemmas.{asks_unread}
use Rattle.gixp_graph.proofs.MarkLemmas.{none_timed, some_timed}
use Rattle.gixp_graph.proofs.VisitedLemmas.{visited_at, visited_here, visited_more, visited_again}
use Rattle.gixp_graph.proofs.WaitingLemmas.{queues_none, queues_one, named_one}
use Rattle.gixp_graph.proofs.walk.visit.Goals as goal

pub returns-in-Ok-false-clause-visits : goal.returns-in-Ok-false-clause-visits
returns-in-Ok-false-clause-visits g c =
    let ids = c.args.commits.now.ids in
    let here : has c.args.visited.now c.args.number ≡ true = c.in-Ok-false.ensures.new ∙ ap not c.in-Ok-false.field-0-test in
    let seen : is_visited ids c.args.visited.now (id_at ids c.args.number) ≡ true =
    visited_at ids c.args.visited.now c.args.number c.requires.named here in
    Visits.again seen refl
    (λ q. visited_more ids ids (λ n l. (
      l,
      refl,
    )) c.args.visited.now c.requires.visited_named c.insert.new.self c.args.number c.requires.named c.in-Ok-false.ensures.ok q
    ∙ visited_again (is_visited ids c.args.visited.now) (id_at ids c.args.number) q seen)
    refl

pub returns-in_default-clause-visits : goal.returns-in_default-clause-visits
returns-in_default-clause-visits g c =
    let ids = c.args.commits.now.ids in
    let new = c.mark_found.new.commits.ids in
    let here : has c.args.visited.now c.args.number ≡ false = c.in-Ok-true.ensures.new ∙ ap not c.in-Ok-true.field-0-test in
    Visits.first
    (visited_here ids c.args.visited.now c.args.number false c.requires.visited_named c.mark_found.ensures.once c.requires.named here)
    c.in_ok-time.ensures.ok
    (visited_more ids new c.mark_found.ensures.kept c.args.visited.now c.requires.visited_named c.insert.new.self c.args.number
    c.requires.named c.in-Ok-true.ensures.ok)
    (queues_none ids new c.mark_found.ensures.kept _ c.args.number c.args.queue.now
    (none_timed _ (sym c.in_default.is ∙ c.in_ok-time.ensures.time)) c.requires.queue_named)

pub returns-in-Ok-clause-visits : goal.returns-in-Ok-clause-visits
returns-in-Ok-clause-visits g c =
    let ids = c.args.commits.now.ids in
    let new = c.mark_found.new.commits.ids in
    let here : has c.args.visited.now c.args.number ≡ false = c.in-Ok-true.ensures.new ∙ ap not c.in-Ok-true.field-0-test in
    let found = some_timed _ _ (sym c.in-Some.is ∙ c.in_ok-time.ensures.time) in
    let fits : SFits w64 c.in-Some.time = search rules in
    Visits.first
    (visited_here ids c.args.visited.now c.args.number false c.requires.visited_named c.mark_found.ensures.once c.requires.named here)
    c.in_ok-time.ensures.ok
    (visited_more ids new c.mark_found.ensures.kept c.args.visited.now c.requires.visited_named c.insert.new.self c.args.number
    c.requires.named c.in-Ok-true.ensures.ok)
    (queues_one ids new c.mark_found.ensures.kept _ found.0 _ c.args.number c.args.queue.now c.push.new.self found.1 found.2
    c.requires.named c.requires.queue_named (rw (to_z-of_z w64 c.in-Some.time fits) at c.in-Ok.ensures))

pub returns-in-Ok-clause-queue_named : goal.returns-in-Ok-clause-queue_named
returns-in-Ok-clause-queue_named g c =
    named_one c.args.commits.now.ids c.mark_found.new.commits.ids c.mark_found.ensures.kept _ c.args.number c.args.queue.now
    c.push.new.self c.requires.named c.requires.queue_named c.in-Ok.ensures

-- ---- which ids were read

pub returns-in_err-time-clause-asked : goal.returns-in_err-time-clause-asked
returns-in_err-time-clause-asked g c =
    let ids = c.args.commits.now.ids in
    let w : Walk = walk_of c.args.commits.now c.args.visited.now c.args.queue.now in
    let here : has c.args.visited.now c.args.number ≡ false = c.in-Ok-true.ensures.new ∙ ap not c.in-Ok-true.field-0-test in
    asks_unread w (id_at ids c.args.number) _ _
    (visited_here ids c.args.visited.now c.args.number false c.requires.visited_named c.mark_found.ensures.once c.requires.named
    here) c.mark_found.ensures.asked

pub returns-in_default-clause-asked : goal.returns-in_default-clause-asked
returns-in_default-clause-asked g c =
    let ids = c.args.commits.now.ids in
    let w : Walk = walk_of c.args.commits.now c.args.visited.now c.args.queue.now in
    let here : has c.args.visited.now c.args.number ≡ false = c.in-Ok-true.ensures.new ∙ ap not c.in-Ok-true.field-0-test in
    asks_unread w (id_at ids c.args.number) _ _
    (visited_here ids c.args.visited.now c.args.number false c.requires.visited_named c.mark_found.ensures.once c.requires.named
    here) c.mark_found.ensures.asked

pub returns-in-Ok-clause-asked : goal.returns-in-Ok-clause-asked
returns-in-Ok-clause-asked g c =
    let ids = c.args.commits.now.ids in
    let w : Walk = walk_of c.args.commits.now c.args.visited.now c.args.queue.now in
    let here : has c.args.visited.now c.args.number ≡ false = c.in-Ok-true.ensures.new ∙ ap not c.in-Ok-true.field-0-test in
    asks_unread w (id_at ids c.args.number) _ _
    (visited_here ids c.args.visited.now c.args.number false c.requires.visited_named c.mark_found.ensures.once c.requires.named
    here) c.mark_found.ensures.asked

pub returns-in-Err-push-clause-asked : goal.returns-in-Err-push-clause-asked
returns-in-Err-push-clause-asked g c =
    let ids = c.args.commits.now.ids in
    let w : Walk = walk_of c.args.commits.now c.args.visited.now c.args.queue.now in
    let here : has c.args.visited.now c.args.number ≡ false = c.in-Ok-true.ensures.new ∙ ap not c.in-Ok-true.field-0-test in
    asks_unread w (id_at ids c.args.number) _ _
    (visited_here ids c.args.visited.now c.args.number false c.requires.visited_named c.mark_found.ensures.once c.requires.named
    here) c.mark_found.ensures.asked
