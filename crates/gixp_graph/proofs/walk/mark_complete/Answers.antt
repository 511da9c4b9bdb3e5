-- The walk marks exactly the complete commits.
use Rattle.std.proofs.Common.{refl, [], ◌≡◌, ◌∙◌, ap, sym, subst, Some, arith, rules}
use Rattle.std.specs.Prelude.{ℤ, ◌≤ℤ◌}
use lib.Signed.{◌<ℤ◌}
use mir.Val.{SFits, to_z, of_z}
use mir.Syntax.{w64}
use Rattle.std.proofs.lemmas.Int.{ints, to_z-of_z}
use Rattle.gixp_graph.specs.declared.queue.Entry.{Entry}
use Rattle.gixp_graph.specs.GraphData.{GraphData, graph_of, parents_in}
use Rattle.gixp_graph.specs.Table.{id_at, ids_at}
use Rattle.gixp_graph.specs.Visited.{is_visited}
use Rattle.gixp_graph.specs.Walk.{Walk, walk_of, IsWalk, AreDue, AllVisited}
use Rattle.gixp_graph.proofs.WalkLemmas.{complete_marked, expanded_never, expanded_older}
use Rattle.gixp_graph.proofs.WaitingLemmas.{older_all, older_waiting, named_rest, named_taken}
use Rattle.gixp_graph.proofs.NewestLemmas.{tips_marking, tips_walk, newest_due, newest_walk, newest_left, still_visited, tips_asked, tips_asked_some}
use Rattle.gixp_graph.proofs.AskedLemmas.{asks_none, asked_due}
use Rattle.gixp_graph.proofs.walk.mark_complete.Goals as goal

pub returns-in_err-visit_each-clause-only_marks : goal.returns-in_err-visit_each-clause-only_marks
returns-in_err-visit_each-clause-only_marks g c =
    let start : GraphData = graph_of (g.O.Objects.contents c.args.objects.now) c.args.commits.now.held in
    (tips_marking start c.args.ids.now c.args.cutoff _ refl _ (ap (ids_at c.numbers.new.self.ids) c.as_slice.ensures.value
    ∙ c.in-Ok.ensures.named.1) c.numbers.new.self.held _ c.numbers.ensures.held c.visit_each.ensures.some).only_marks

pub returns-in_err-visit_each-clause-sound : goal.returns-in_err-visit_each-clause-sound
returns-in_err-visit_each-clause-sound g c =
    let start : GraphData = graph_of (g.O.Objects.contents c.args.objects.now) c.args.commits.now.held in
    (tips_marking start c.args.ids.now c.args.cutoff _ refl _ (ap (ids_at c.numbers.new.self.ids) c.as_slice.ensures.value
    ∙ c.in-Ok.ensures.named.1) c.numbers.new.self.held _ c.numbers.ensures.held c.visit_each.ensures.some).sound

pub returns-in_default-cutoff-clause-only_marks : goal.returns-in_default-cutoff-clause-only_marks
returns-in_default-cutoff-clause-only_marks g c =
    let start : GraphData = graph_of (g.O.Objects.contents c.args.objects.now) c.args.commits.now.held in
    (tips_marking start c.args.ids.now c.args.cutoff _ refl _ (ap (ids_at c.numbers.new.self.ids) c.as_slice.ensures.value
    ∙ c.in-Ok.ensures.named.1) c.numbers.new.self.held _ c.numbers.ensures.held c.visit_each.ensures.some).only_marks

pub returns-in_default-cutoff-clause-sound : goal.returns-in_default-cutoff-clause-sound
returns-in_default-cutoff-clause-sound g c =
    let start : GraphData = graph_of (g.O.Objects.contents c.args.objects.now) c.args.commits.now.held in
    (tips_marking start c.args.ids.now c.args.cutoff _ refl _ (ap (ids_at c.numbers.new.self.ids) c.as_slice.ensures.value
    ∙ c.in-Ok.ensures.named.1) c.numbers.new.self.held _ c.numbers.ensures.held c.visit_each.ensures.some).sound

pub returns-in_default-cutoff-clause-complete : goal.returns-in_default-cutoff-clause-complete
returns-in_default-cutoff-clause-complete g c =
    let start : GraphData = graph_of (g.O.Objects.contents c.args.objects.now) c.args.commits.now.held in
    let are = ap (ids_at c.numbers.new.self.ids) c.as_slice.ensures.value ∙ c.in-Ok.ensures.named.1 in
    let new : Walk = walk_of c.visit_each.new.commits c.visit_each.new.visited c.visit_each.new.queue in
    complete_marked start c.args.ids.now c.args.cutoff new.held new.visited new.waiting
    (tips_walk start c.args.ids.now c.args.cutoff _ refl _ are c.numbers.new.self _ _ new c.numbers.ensures.held c.new-visited.ensures
    c.new-queue.ensures c.in_ok-visit_each.ensures.each)
    (expanded_never start c.args.cutoff new.visited new.waiting c.in_default-cutoff.is)
    (subst (AllVisited new.visited) are c.in_ok-visit_each.ensures.each.visited)

pub loop-newest-init : goal.loop-newest-init
loop-newest-init g c =
    let start : GraphData = graph_of (g.O.Objects.contents c.args.objects.now) c.args.commits.now.held in
    let are = ap (ids_at c.numbers.new.self.ids) c.as_slice.ensures.value ∙ c.in-Ok.ensures.named.1 in
    let new : Walk = walk_of c.visit_each.new.commits c.visit_each.new.visited c.visit_each.new.queue in
    let fits : SFits w64 c.in-Some.cutoff = search rules in
    record {
      same = c.visit_each.ensures.contents;
      refusals = c.in_ok-visit_each.ensures.unrefused;
      failures = c.visit_each.ensures.failures;
      cut = c.in-Some.is ∙ ap (λ (z : ℤ). Some z) (sym (to_z-of_z w64 c.in-Some.cutoff fits));
      visited_named = c.in_ok-visit_each.ensures.visited_named;
      queue_named = c.in_ok-visit_each.ensures.queue_named;
      walk =
          tips_walk start c.args.ids.now c.args.cutoff _ refl _ are c.numbers.new.self _ _ new c.numbers.ensures.held
          c.new-visited.ensures c.new-queue.ensures c.in_ok-visit_each.ensures.each;
      asked =
          tips_asked start c.args.ids.now c.args.cutoff _ refl _ are c.numbers.new.self c.new-visited.result new c.numbers.ensures.held
          _ _ c.in_ok-visit_each.ensures.asked;
      tips = subst (AllVisited new.visited) are c.in_ok-visit_each.ensures.each.visited;
    }

pub returns-then-newest-cutoff-clause-complete : goal.returns-then-newest-cutoff-clause-complete
returns-then-newest-cutoff-clause-complete g c =
    let start : GraphData = graph_of (g.O.Objects.contents c.args.objects.now) c.args.commits.now.held in
    let v = c.loop-newest.invariant in
    let p = c.in-Some-pop_newest.ensures in
    let newest : Entry = c.in-Some-pop_newest.newest in
    let at : Walk = walk_of c.loop-newest.commits c.loop-newest.visited c.loop-newest.queue in
    let fits : SFits w64 newest.time = search rules in
    let before : newest.time <ℤ to_z w64 (of_z w64 c.in-Some.cutoff) = grind (arith, ints, c.if-newest-cutoff.true) in
    complete_marked start c.args.ids.now c.args.cutoff at.held at.visited at.waiting v.walk
    (expanded_older start c.args.ids.now c.args.cutoff at.held at.visited newest.time _ v.cut before at.waiting
    (older_waiting c.loop-newest.commits.ids newest.time c.loop-newest.queue
    (older_all newest c.loop-newest.queue c.pop_newest.new.self p.taken p.newest)) v.walk.queued)
    v.tips

pub parent_numbers-requires : goal.parent_numbers-requires
parent_numbers-requires g c =
    named_taken c.loop-newest.commits.ids c.in-Some-pop_newest.newest c.loop-newest.queue c.pop_newest.new.self
    c.in-Some-pop_newest.ensures.taken c.loop-newest.invariant.queue_named

pub visit_each-requires-in-Some-pop_newest-clause-queue_named :
    goal.visit_each-requires-in-Some-pop_newest-clause-queue_named
visit_each-requires-in-Some-pop_newest-clause-queue_named g c =
    named_rest c.loop-newest.commits.ids c.in-Some-pop_newest.newest c.loop-newest.queue c.pop_newest.new.self
    c.in-Some-pop_newest.ensures.taken c.loop-newest.invariant.queue_named

pub returns-in_err-visit_each-2-clause-only_marks :
    goal.returns-in_err-visit_each-2-clause-only_marks
returns-in_err-visit_each-2-clause-only_marks g c =
    let start : GraphData = graph_of (g.O.Objects.contents c.args.objects.now) c.args.commits.now.held in
    let v = c.loop-newest.invariant in
    let newest : Entry = c.in-Some-pop_newest.newest in
    let ids = c.loop-newest.commits.ids in
    let held = c.loop-newest.commits.held in
    let fits : SFits w64 newest.time = search rules in
    let late : to_z w64 (of_z w64 c.in-Some.cutoff) ≤ℤ newest.time = grind (arith, ints, c.if-newest-cutoff.false) in
    let are : ids_at ids c.as_slice-in-Some-pop_newest.result.now ≡ parents_in held (id_at ids newest.number) =
    ap (ids_at ids) c.as_slice-in-Some-pop_newest.ensures.value ∙ c.in-Ok-parent_numbers.ensures.parents in
    let due : AreDue start c.args.ids.now c.args.cutoff (ids_at ids c.as_slice-in-Some-pop_newest.result.now) =
    subst (AreDue start c.args.ids.now c.args.cutoff) (sym are)
    (newest_due start c.args.ids.now c.args.cutoff held
    (is_visited ids c.loop-newest.visited) ids newest c.loop-newest.queue c.pop_newest.new.self c.in-Some-pop_newest.ensures.taken
    v.walk _ v.cut late) in
    (c.visit_each-in-Some-pop_newest.ensures.some start c.args.ids.now c.args.cutoff v.same due v.walk.marking).only_marks

pub returns-in_err-visit_each-2-clause-sound : goal.returns-in_err-visit_each-2-clause-sound
returns-in_err-visit_each-2-clause-sound g c =
    let start : GraphData = graph_of (g.O.Objects.contents c.args.objects.now) c.args.commits.now.held in
    let v = c.loop-newest.invariant in
    let newest : Entry = c.in-Some-pop_newest.newest in
    let ids = c.loop-newest.commits.ids in
    let held = c.loop-newest.commits.held in
    let fits : SFits w64 newest.time = search rules in
    let late : to_z w64 (of_z w64 c.in-Some.cutoff) ≤ℤ newest.time = grind (arith, ints, c.if-newest-cutoff.false) in
    let are : ids_at ids c.as_slice-in-Some-pop_newest.result.now ≡ parents_in held (id_at ids newest.number) =
    ap (ids_at ids) c.as_slice-in-Some-pop_newest.ensures.value ∙ c.in-Ok-parent_numbers.ensures.parents in
    let due : AreDue start c.args.ids.now c.args.cutoff (ids_at ids c.as_slice-in-Some-pop_newest.result.now) =
    subst (AreDue start c.args.ids.now c.args.cutoff) (sym are)
    (newest_due start c.args.ids.now c.args.cutoff held
    (is_visited ids c.loop-newest.visited) ids newest c.loop-newest.queue c.pop_newest.new.self c.in-Some-pop_newest.ensures.taken
    v.walk _ v.cut late) in
    (c.visit_each-in-Some-pop_newest.ensures.some start c.args.ids.now c.args.cutoff v.same due v.walk.marking).sound

pub loop-newest-smaller : goal.loop-newest-smaller
loop-newest-smaller g c =
    let start : GraphData = graph_of (g.O.Objects.contents c.args.objects.now) c.args.commits.now.held in
    let v = c.loop-newest.invariant in
    let ids = c.loop-newest.commits.ids in
    let held = c.loop-newest.commits.held in
    let newest : Entry = c.in-Some-pop_newest.newest in
    let new : Walk =
    walk_of c.visit_each-in-Some-pop_newest.new.commits c.visit_each-in-Some-pop_newest.new.visited
    c.visit_each-in-Some-pop_newest.new.queue in
    let are : ids_at ids c.as_slice-in-Some-pop_newest.result.now ≡ parents_in held (id_at ids newest.number) =
    ap (ids_at ids) c.as_slice-in-Some-pop_newest.ensures.value ∙ c.in-Ok-parent_numbers.ensures.parents in
    let less =
    newest_left start c.args.ids.now c.args.cutoff held
    (is_visited ids c.loop-newest.visited) ids newest c.loop-newest.queue c.pop_newest.new.self
    c.in-Some-pop_newest.ensures.taken v.walk _ v.same _ are
    new c.in_ok-visit_each-2.ensures.each c.visit_each-in-Some-pop_newest.new.queue c.visit_each-in-Some-pop_newest.new.commits.ids refl in
    omega (arith, less)

pub loop-newest-preserved : goal.loop-newest-preserved
loop-newest-preserved g c =
    let start : GraphData = graph_of (g.O.Objects.contents c.args.objects.now) c.args.commits.now.held in
    let v = c.loop-newest.invariant in
    let newest : Entry = c.in-Some-pop_newest.newest in
    let ids = c.loop-newest.commits.ids in
    let held = c.loop-newest.commits.held in
    let visited = is_visited ids c.loop-newest.visited in
    let new : Walk =
    walk_of c.visit_each-in-Some-pop_newest.new.commits c.visit_each-in-Some-pop_newest.new.visited
    c.visit_each-in-Some-pop_newest.new.queue in
    let fits : SFits w64 newest.time = search rules in
    let late : to_z w64 (of_z w64 c.in-Some.cutoff) ≤ℤ newest.time = grind (arith, ints, c.if-newest-cutoff.false) in
    let are : ids_at ids c.as_slice-in-Some-pop_newest.result.now ≡ parents_in held (id_at ids newest.number) =
    ap (ids_at ids) c.as_slice-in-Some-pop_newest.ensures.value ∙ c.in-Ok-parent_numbers.ensures.parents in
    let due : AreDue start c.args.ids.now c.args.cutoff (ids_at ids c.as_slice-in-Some-pop_newest.result.now) =
    subst (AreDue start c.args.ids.now c.args.cutoff) (sym are)
    (newest_due start c.args.ids.now c.args.cutoff held visited ids newest c.loop-newest.queue c.pop_newest.new.self
    c.in-Some-pop_newest.ensures.taken v.walk _ v.cut late) in
    let e = c.visit_each-in-Some-pop_newest.ensures in
    let each = c.in_ok-visit_each-2.ensures.each in
    record {
      same = e.contents ∙ v.same;
      refusals = c.in_ok-visit_each-2.ensures.unrefused ∙ v.refusals;
      failures = omega arith;
      cut = v.cut;
      visited_named = c.in_ok-visit_each-2.ensures.visited_named;
      queue_named = c.in_ok-visit_each-2.ensures.queue_named;
      walk =
          newest_walk start c.args.ids.now c.args.cutoff held visited ids newest c.loop-newest.queue c.pop_newest.new.self
          c.in-Some-pop_newest.ensures.taken v.walk _ v.same _ are new each due;
      asked = c.in_ok-visit_each-2.ensures.asked start c.args.ids.now c.args.cutoff _ v.same due v.walk.marking.only_marks v.asked;
      tips = still_visited _ _ c.args.ids.now _ new each v.tips;
    }

pub returns-clause-complete : goal.returns-clause-complete
returns-clause-complete g c =
    let start : GraphData = graph_of (g.O.Objects.contents c.args.objects.now) c.args.commits.now.held in
    let v = c.loop-newest.invariant in
    complete_marked start c.args.ids.now c.args.cutoff c.loop-newest.commits.held
    (is_visited c.loop-newest.commits.ids c.loop-newest.visited) []
    (subst (λ q. IsWalk start c.args.ids.now c.args.cutoff
    (walk_of c.loop-newest.commits c.loop-newest.visited q)) c.in_default-pop_newest.ensures.none v.walk)
    (λ k d l. absurd (omega arith)) v.tips

-- ---- which ids were read

pub returns-in_default-clause-asked : goal.returns-in_default-clause-asked
returns-in_default-clause-asked g c = asks_none _ _

pub returns-in_err-visit_each-clause-asked : goal.returns-in_err-visit_each-clause-asked
returns-in_err-visit_each-clause-asked g c =
    let start : GraphData = graph_of (g.O.Objects.contents c.args.objects.now) c.args.commits.now.held in
    tips_asked_some start c.args.ids.now c.args.cutoff _ refl _ (ap (ids_at c.numbers.new.self.ids) c.as_slice.ensures.value
    ∙ c.in-Ok.ensures.named.1) c.numbers.new.self c.new-visited.result c.numbers.ensures.held _ _
    c.in_err-visit_each.ensures.asked_some

pub returns-in_default-cutoff-clause-asked : goal.returns-in_default-cutoff-clause-asked
returns-in_default-cutoff-clause-asked g c =
    let start : GraphData = graph_of (g.O.Objects.contents c.args.objects.now) c.args.commits.now.held in
    let are = ap (ids_at c.numbers.new.self.ids) c.as_slice.ensures.value ∙ c.in-Ok.ensures.named.1 in
    let new : Walk = walk_of c.visit_each.new.commits c.visit_each.new.visited c.visit_each.new.queue in
    asked_due start c.args.ids.now c.args.cutoff _ new.visited _
    (tips_asked start c.args.ids.now c.args.cutoff _ refl _ are c.numbers.new.self c.new-visited.result new c.numbers.ensures.held _
    _ c.in_ok-visit_each.ensures.asked)

pub returns-then-newest-cutoff-clause-asked : goal.returns-then-newest-cutoff-clause-asked
returns-then-newest-cutoff-clause-asked g c = asked_due _ _ _ _ _ _ c.loop-newest.invariant.asked

pub returns-in_default-parent_numbers-clause-asked :
    goal.returns-in_default-parent_numbers-clause-asked
returns-in_default-parent_numbers-clause-asked g c = asked_due _ _ _ _ _ _ c.loop-newest.invariant.asked

pub returns-in_err-visit_each-2-clause-asked : goal.returns-in_err-visit_each-2-clause-asked
returns-in_err-visit_each-2-clause-asked g c =
    let start : GraphData = graph_of (g.O.Objects.contents c.args.objects.now) c.args.commits.now.held in
    let v = c.loop-newest.invariant in
    let newest : Entry = c.in-Some-pop_newest.newest in
    let ids = c.loop-newest.commits.ids in
    let held = c.loop-newest.commits.held in
    let fits : SFits w64 newest.time = search rules in
    let late : to_z w64 (of_z w64 c.in-Some.cutoff) ≤ℤ newest.time = grind (arith, ints, c.if-newest-cutoff.false) in
    let are : ids_at ids c.as_slice-in-Some-pop_newest.result.now ≡ parents_in held (id_at ids newest.number) =
    ap (ids_at ids) c.as_slice-in-Some-pop_newest.ensures.value ∙ c.in-Ok-parent_numbers.ensures.parents in
    let due : AreDue start c.args.ids.now c.args.cutoff (ids_at ids c.as_slice-in-Some-pop_newest.result.now) =
    subst (AreDue start c.args.ids.now c.args.cutoff) (sym are)
    (newest_due start c.args.ids.now c.args.cutoff held
    (is_visited ids c.loop-newest.visited) ids newest c.loop-newest.queue c.pop_newest.new.self c.in-Some-pop_newest.ensures.taken
    v.walk _ v.cut late) in
    c.in_err-visit_each-2.ensures.asked_some start c.args.ids.now c.args.cutoff _ v.same due v.walk.marking.only_marks v.asked

pub returns-clause-asked : goal.returns-clause-asked
returns-clause-asked g c = asked_due _ _ _ _ _ _ c.loop-newest.invariant.asked
