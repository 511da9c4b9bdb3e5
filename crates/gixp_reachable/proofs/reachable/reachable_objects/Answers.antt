use Rattle.std.proofs.Common.{◌≡◌, ◌∙◌, length, refl, arith}
use Rattle.gixp_hash.specs.declared.object_id.ObjectId.{ObjectId}
use Rattle.gixp_graph.specs.Object.{Objects}
use Rattle.gixp_graph.proofs.AskedLemmas.{asks_none}
use Rattle.gixp_reachable.specs.Traversal.{Traversed, traversed, VisitsObject}
use Rattle.gixp_reachable.proofs.TraversalLemmas.{traversal_begun, taken_reachable, found_reachable, traversal_step, visits_same, asks_same, ends_reached, ends_values, asked_reachable, asked_found, look_ups_fewer}
use Rattle.gixp_reachable.proofs.reachable.reachable_objects.Goals as goal

pub returns-in_err-waiting-clause-asked : goal.returns-in_err-waiting-clause-asked
returns-in_err-waiting-clause-asked g c = asks_none _ _

pub loop-id-init : goal.loop-id-init
loop-id-init g c =
    let objects : Objects = g.O.Objects.contents c.args.objects.now in
    record {
      traversal = traversal_begun objects c.args.tips.now c.new-found.result c.in_ok-waiting.waiting.items c.new-found.ensures
          c.in_ok-waiting.ensures.items;
      asked = asks_none _ _;
      contents = refl;
      refusals = refl;
      failures = omega arith;
    }

pub loop-id-smaller : goal.loop-id-smaller
loop-id-smaller g c =
    let objects : Objects = g.O.Objects.contents c.args.objects.now in
    let a : Traversed = traversed c.loop-id.found c.loop-id.waiting.items in
    let b : Traversed = traversed c.loop-id.found c.pop.new.self.items in
    let new : Traversed = traversed c.visit.new.found c.visit.new.waiting.items in
    look_ups_fewer objects a b new c.in-Some.id refl c.in-Some.ensures.items
    (visits_same objects _ c.loop-id.invariant.contents c.in-Some.id b new c.in_ok-visit.ensures.visits)

pub loop-id-preserved : goal.loop-id-preserved
loop-id-preserved g c =
    let objects : Objects = g.O.Objects.contents c.args.objects.now in
    let v = c.loop-id.invariant in
    let e = c.in_ok-visit.ensures in
    let id : ObjectId = c.in-Some.id in
    let a : Traversed = traversed c.loop-id.found c.loop-id.waiting.items in
    let b : Traversed = traversed c.loop-id.found c.pop.new.self.items in
    let new : Traversed = traversed c.visit.new.found c.visit.new.waiting.items in
    let visits : VisitsObject objects id b new = visits_same objects _ v.contents id b new e.visits in
    record {
      traversal = traversal_step objects c.args.tips.now a b new id refl c.in-Some.ensures.items v.traversal visits;
      asked = asked_found objects id b _ _ _ (asks_same objects _ v.contents c.loop-id.found id _ _ e.asked)
          v.asked new visits;
      contents = e.contents ∙ v.contents;
      refusals = e.unrefused ∙ v.refusals;
      failures = omega (arith, e.failures, v.failures);
    }

pub returns-in_err-visit-clause-asked : goal.returns-in_err-visit-clause-asked
returns-in_err-visit-clause-asked g c =
    let objects : Objects = g.O.Objects.contents c.args.objects.now in
    let v = c.loop-id.invariant in
    let id : ObjectId = c.in-Some.id in
    let a : Traversed = traversed c.loop-id.found c.loop-id.waiting.items in
    let b : Traversed = traversed c.loop-id.found c.pop.new.self.items in
    asked_reachable objects id b _ _ _ (asks_same objects _ v.contents c.loop-id.found id _ _ c.visit.ensures.asked)
    v.asked c.args.tips.now (found_reachable objects c.args.tips.now a b b id refl c.in-Some.ensures.items v.traversal)
    (taken_reachable objects c.args.tips.now a b b id refl c.in-Some.ensures.items v.traversal)

pub returns-clause-reached : goal.returns-clause-reached
returns-clause-reached g c =
    let none : length c.loop-id.waiting.items ≡ 0 = omega (arith, c.in_default.ensures.cases, c.loop-id.waiting.ok) in
    ends_reached (g.O.Objects.contents c.args.objects.now) c.args.tips.now
    (traversed c.loop-id.found c.loop-id.waiting.items) c.loop-id.invariant.traversal none

pub returns-clause-values : goal.returns-clause-values
returns-clause-values g c =
    let none : length c.loop-id.waiting.items ≡ 0 = omega (arith, c.in_default.ensures.cases, c.loop-id.waiting.ok) in
    ends_values (g.O.Objects.contents c.args.objects.now) c.args.tips.now
    (traversed c.loop-id.found c.loop-id.waiting.items) c.loop-id.invariant.traversal none
