use Rattle.std.proofs.Common.{◌≡◌, ℕ, ◌<◌, ◌∙◌, ap, sym, subst, refl, length, take, get_or, List, arith, ◌⊎◌, []}
use Rattle.std.proofs.lemmas.List.{take_all, take_more, take-map}
use Rattle.gixp_hash.specs.declared.object_id.ObjectId.{ObjectId}
use Rattle.gixp_graph.specs.Object.{Objects}
use Rattle.gixp_graph.specs.GraphData.{graph_of, marked_found}
use Rattle.gixp_graph.specs.Table.{id_at, ids_at}
use Rattle.gixp_graph.specs.Asked.{AsksWhere}
use Rattle.gixp_graph.specs.Walk.{Walk, walk_of, IsUnread, Visits, VisitsEach, AsksAll}
use Rattle.gixp_graph.proofs.AskedLemmas.{asked_none, asked_more, asked_some}
use Rattle.gixp_graph.proofs.GrowLemmas.{any_err}
use Rattle.gixp_graph.proofs.TableLemmas.{kept_trans, ids_get, ids_length, ids_push}
use Rattle.gixp_graph.proofs.EachLemmas.{each_none, each_more, some_more, some_visit}
use Rattle.gixp_graph.proofs.walk.visit_each.Goals as goal

pub returns-in_err-visit-clause-some : goal.returns-in_err-visit-clause-some
returns-in_err-visit-clause-some g c =
    let v = c.loop-number.invariant in
    let objects : Objects = g.O.Objects.contents c.args.objects.now in
    let ids = c.args.commits.now.ids in
    let k = c.loop-number.number-index in
    let n : ℕ = get_or c.args.numbers.now k 0 in
    let less : k < length (ids_at ids c.args.numbers.now) =
    (let l : k < length c.args.numbers.now = c.loop-number-test.true in omega (arith, ids_length ids c.args.numbers.now)) in
    let name : id_at c.loop-number.commits.ids n ≡ get_or (ids_at ids c.args.numbers.now) k (record { bytes = [] }) = (v.kept n
    (c.requires.named k 0 c.loop-number-test.true)).1 ∙ sym (ids_get ids c.args.numbers.now k _ 0 c.loop-number-test.true) in
    some_more objects (ids_at ids c.args.numbers.now) c.args.commits.now.held c.loop-number.commits.held c.visit.new.commits.held v.some
    k (record { bytes = [] }) less
    (subst (λ id. (c.visit.new.commits.held ≡ c.loop-number.commits.held)
    ⊎ (c.visit.new.commits.held ≡ marked_found (graph_of objects c.loop-number.commits.held) id)) name
    (subst (λ m. (c.visit.new.commits.held ≡ c.loop-number.commits.held) ⊎ (c.visit.new.commits.held
    ≡ marked_found (graph_of m c.loop-number.commits.held) (id_at c.loop-number.commits.ids n))) v.same c.in_err-visit.ensures.err))

pub returns-in_err-visit-clause-asked_some : goal.returns-in_err-visit-clause-asked_some
returns-in_err-visit-clause-asked_some g c =
    let v = c.loop-number.invariant in
    let objects : Objects = g.O.Objects.contents c.args.objects.now in
    let ids = c.args.commits.now.ids in
    let old : Walk = walk_of c.args.commits.now c.args.visited.now c.args.queue.now in
    let mid : Walk = walk_of c.loop-number.commits c.loop-number.visited c.loop-number.queue in
    let k = c.loop-number.number-index in
    let n : ℕ = get_or c.args.numbers.now k 0 in
    let all : List ObjectId = ids_at ids c.args.numbers.now in
    let part : ids_at ids (take k c.args.numbers.now) ≡ take k all = sym (take-map (id_at ids) k c.args.numbers.now) in
    let less : k < length all =
    (let l : k < length c.args.numbers.now = c.loop-number-test.true in omega (arith, ids_length ids c.args.numbers.now)) in
    let name : id_at c.loop-number.commits.ids n ≡ get_or all k (record { bytes = [] }) = (v.kept n
    (c.requires.named k 0 c.loop-number-test.true)).1 ∙ sym (ids_get ids c.args.numbers.now k _ 0 c.loop-number-test.true) in
    any_err c.from_residual.result _
    (asked_some objects all k (record { bytes = [] }) less old mid (g.O.Objects.asked c.args.objects.now)
    (g.O.Objects.asked c.loop-number.objects) (g.O.Objects.asked c.visit.new.objects)
    (subst (λ is. VisitsEach objects is old mid) part v.each)
    (subst (λ i. AsksWhere (IsUnread mid i) i (g.O.Objects.asked c.loop-number.objects)
    (g.O.Objects.asked c.visit.new.objects)) name c.visit.ensures.asked)
    (subst (λ is. AsksAll objects is old mid (g.O.Objects.asked c.args.objects.now)
    (g.O.Objects.asked c.loop-number.objects)) part v.asked))

pub loop-number-init : goal.loop-number-init
loop-number-init g c = record {
  same = refl;
  refusals = refl;
  failures = omega arith;
  kept = λ n l. (l, refl);
  visited_named = c.requires.visited_named;
  queue_named = c.requires.queue_named;
  each = each_none (g.O.Objects.contents c.args.objects.now) (walk_of c.args.commits.now c.args.visited.now c.args.queue.now);
  asked = asked_none (g.O.Objects.contents c.args.objects.now) (walk_of c.args.commits.now c.args.visited.now c.args.queue.now)
      (g.O.Objects.asked c.args.objects.now);
  some = λ h ids cutoff same due w. w;
}

pub loop-number-preserved : goal.loop-number-preserved
loop-number-preserved g c =
    let v = c.loop-number.invariant in
    let e = c.in_ok-visit.ensures in
    let objects : Objects = g.O.Objects.contents c.args.objects.now in
    let ids = c.args.commits.now.ids in
    let old : Walk = walk_of c.args.commits.now c.args.visited.now c.args.queue.now in
    let mid : Walk = walk_of c.loop-number.commits c.loop-number.visited c.loop-number.queue in
    let new : Walk = walk_of c.visit.new.commits c.visit.new.visited c.visit.new.queue in
    let k = c.loop-number.number-index in
    let n : ℕ = get_or c.args.numbers.now k 0 in
    let id : ObjectId = id_at ids n in
    let less : k < length (ids_at ids c.args.numbers.now) =
    (let l : k < length c.args.numbers.now = c.loop-number-test.true in omega (arith, ids_length ids c.args.numbers.now)) in
    let name : id_at c.loop-number.commits.ids n ≡ id = (v.kept n (c.requires.named k 0 c.loop-number-test.true)).1 in
    let visits : Visits objects id mid new = subst (λ i. Visits objects i mid new) name
    (subst (λ m. Visits m (id_at c.loop-number.commits.ids n) mid new) v.same e.visits) in
    record {
      same = e.contents ∙ v.same;
      refusals = e.unrefused ∙ v.refusals;
      failures = omega arith;
      kept = kept_trans ids c.loop-number.commits.ids c.visit.new.commits.ids v.kept e.kept;
      visited_named = e.visited_named;
      queue_named = e.queue_named;
      asked = subst (λ is. AsksAll objects is old new (g.O.Objects.asked c.args.objects.now) (g.O.Objects.asked c.visit.new.objects))
          (sym (ids_push ids (take k c.args.numbers.now) n)
          ∙ ap (ids_at ids) (sym (take_more c.args.numbers.now k 0 c.loop-number-test.true)))
          (asked_more objects (ids_at ids (take k c.args.numbers.now)) old mid new id _ _ _ v.each visits
          (subst (λ i. AsksWhere (IsUnread mid i) i (g.O.Objects.asked c.loop-number.objects)
          (g.O.Objects.asked c.visit.new.objects)) name e.asked) v.asked);
      each = subst (λ is. VisitsEach objects is old new)
          (sym (ids_push ids (take k c.args.numbers.now) n)
          ∙ ap (ids_at ids) (sym (take_more c.args.numbers.now k 0 c.loop-number-test.true)))
          (each_more objects (ids_at ids (take k c.args.numbers.now)) old mid new id v.each visits);
      some =
          some_more objects (ids_at ids c.args.numbers.now) c.args.commits.now.held c.loop-number.commits.held c.visit.new.commits.held
          v.some k (record { bytes = [] }) less
          (subst (λ i. (c.visit.new.commits.held ≡ c.loop-number.commits.held)
          ⊎ (c.visit.new.commits.held ≡ marked_found (graph_of objects c.loop-number.commits.held) i))
          (sym (ids_get ids c.args.numbers.now k _ 0 c.loop-number-test.true)) (some_visit objects id mid new visits));
    }

pub returns-clause-asked : goal.returns-clause-asked
returns-clause-asked g c =
    let v = c.loop-number.invariant in
    subst
    (λ ns. AsksAll (g.O.Objects.contents c.args.objects.now) (ids_at c.args.commits.now.ids ns)
    (walk_of c.args.commits.now c.args.visited.now c.args.queue.now)
    (walk_of c.loop-number.commits c.loop-number.visited c.loop-number.queue) (g.O.Objects.asked c.args.objects.now)
    (g.O.Objects.asked c.loop-number.objects))
    (take_all c.loop-number.number-index c.args.numbers.now c.loop-number-test.false) v.asked
