use Rattle.std.proofs.Common.{◌≡◌, ◌≢◌, ◌∙◌, ap, sym, subst, refl, true, false, true≢false, Some, arith, rules}
use Rattle.std.specs.Prelude.{IsSome}
use Rattle.std.specs.BTreeSet as tree
use Rattle.std.proofs.lemmas.List.Elements.{All-weaker}
use Rattle.std.specs.FinMap as finite
use Rattle.gixp_hash.specs.declared.object_id.ObjectId.{ObjectId}
use Rattle.gixp_hash.specs.ObjectId.{id_cmp}
use Rattle.gixp_graph.specs.Object.{Objects, Commit, commit_at}
use Rattle.gixp_updates.specs.Ancestors.{IsAncestor, IsReachedFrom}
use Rattle.gixp_updates.specs.Search.{Search, search_of}
use Rattle.gixp_updates.proofs.LookLemmas.{looks_none, looks_on}
use Rattle.gixp_graph.proofs.AskedLemmas.{asks_none}
use Rattle.gixp_updates.proofs.LimitLemmas.{within_begun, within_step, asked_within}
use Rattle.gixp_updates.proofs.SearchLemmas.{ancestor_there, the_commit, begun_reached, search_begun, taken_ancestor, step_reached, search_step, not_found, asked_reached, asked_seen, beyond, taken_waits, others_wait, explored}
use Rattle.gixp_updates.proofs.refs.ancestor.is_ancestor.Goals as goal

pub returns-in_err-look-clause-asked : goal.returns-in_err-look-clause-asked
returns-in_err-look-clause-asked g c =
    let objects : Objects = c.args.graph.now.graph.objects in
    let none : Search = search_of c.new-walk.result in
    let new : Search = search_of c.look.new.self in
    asked_reached c.args.graph.now.graph (commit_at objects) c.args.new.now new _ _
    (begun_reached objects c.args.new.now c.args.old.now none new c.new-walk.ensures.unseen c.look.ensures.more)
    (c.look.ensures.asked c.args.graph.now.graph c.args.graph.now.asked (looks_none c.args.graph.now.graph) (asks_none _ _))

pub loop-newest-init : goal.loop-newest-init
loop-newest-init g c =
    let objects : Objects = c.args.graph.now.graph.objects in
    let none : Search = search_of c.new-walk.result in
    let new : Search = search_of c.look.new.self in
    let e = c.in_ok-look.ensures in
    record {
      search = search_begun objects c.args.new.now c.args.old.now none new c.new-walk.ensures.unseen c.new-walk.ensures.none e.explores;
      holds = e.holds (λ q w. absurd (let t : none.waits q ≡ true = w in let f = c.new-walk.ensures.none q in cc));
      graph = e.graph;
      asked = e.asked c.args.graph.now.graph c.args.graph.now.asked (looks_none c.args.graph.now.graph) (asks_none _ _);
      within = λ most _. within_begun (commit_at objects) c.args.new.now most none new c.new-walk.ensures.unseen c.look.ensures.more;
      refusals = e.unrefused;
      failures = e.failures;
    }

pub returns-then-eq-clause-ancestor : goal.returns-then-eq-clause-ancestor
returns-then-eq-clause-ancestor g c =
    let objects : Objects = c.args.graph.now.graph.objects in
    let id : ObjectId = c.in-Some.newest.id in
    let same : id ≡ c.args.old.now = search rules in (
      λ t. subst (IsAncestor (commit_at objects) c.args.new.now) same
          (taken_ancestor objects c.args.new.now c.args.old.now (search_of c.loop-newest.walk) (search_of c.pop.new.self)
          (search_of c.pop.new.self) id c.loop-newest.invariant.search c.in-Some.ensures.taken
          (λ q. ap (λ s. tree.contains id_cmp s q) c.pop.ensures.seen)),
      λ k. refl,
    )

pub returns-then-is_beyond-clause-limited : goal.returns-then-is_beyond-clause-limited
returns-then-is_beyond-clause-limited g c e =
    let seen : (q : ObjectId) → (search_of c.pop.new.self).seen q ≡ true
    → IsReachedFrom (commit_at c.args.graph.now.graph.objects) c.args.new.now q =
    λ q h. c.loop-newest.invariant.search.reached q (sym (ap (λ s. tree.contains id_cmp s q) c.pop.ensures.seen) ∙ h) in
    beyond (commit_at c.args.graph.now.graph.objects) c.args.new.now c.args.most_commits c.pop.new.self.seen.keys c.seen.result
    c.seen.ensures.len (c.is_beyond.ensures.0 c.if-is_beyond.true) c.seen.ensures.distinct
    (All-weaker (λ q. (search_of c.pop.new.self).seen q ≡ true)
    (IsReachedFrom (commit_at c.args.graph.now.graph.objects) c.args.new.now) seen c.pop.new.self.seen.keys c.seen.ensures.each)

pub returns-in_err-look_each-clause-asked : goal.returns-in_err-look_each-clause-asked
returns-in_err-look_each-clause-asked g c =
    let objects : Objects = c.args.graph.now.graph.objects in
    let v = c.loop-newest.invariant in
    let id : ObjectId = c.in-Some.newest.id in
    let a : Search = search_of c.loop-newest.walk in
    let b : Search = search_of c.pop.new.self in
    let new : Search = search_of c.look_each.new.self in
    let same : (q : ObjectId) → b.seen q ≡ a.seen q = λ q. ap (λ s. tree.contains id_cmp s q) c.pop.ensures.seen in
    let k : IsAncestor (commit_at objects) c.args.new.now id =
    taken_ancestor objects c.args.new.now c.args.old.now a b new id v.search c.in-Some.ensures.taken same in
    let held : IsSome (finite.get c.loop-newest.graph.graph.held id) = v.holds id (c.in-Some.ensures.taken id ∙ taken_waits id _) in
    let parents : (c' : Commit) → commit_at objects id ≡ Some c' → c.as_slice.result.now ≡ c'.parents =
    λ c' r. c.as_slice.ensures.value ∙ c.in_ok-parents.ensures held c' (ap (λ (o : Objects). commit_at o id) v.graph.objects ∙ r) in
    asked_reached c.args.graph.now.graph (commit_at objects) c.args.new.now new _ _
    (step_reached objects c.args.new.now c.args.old.now a b new id v.search c.in-Some.ensures.taken same c.as_slice.result.now
    parents c.look_each.ensures.more)
    (c.look_each.ensures.asked c.args.graph.now.graph c.args.graph.now.asked v.graph
    (asked_seen c.args.graph.now.graph a b _ _ same v.asked))

pub loop-newest-preserved : goal.loop-newest-preserved
loop-newest-preserved g c =
    let objects : Objects = c.args.graph.now.graph.objects in
    let v = c.loop-newest.invariant in
    let e = c.in_ok-look_each.ensures in
    let id : ObjectId = c.in-Some.newest.id in
    let a : Search = search_of c.loop-newest.walk in
    let b : Search = search_of c.pop.new.self in
    let new : Search = search_of c.look_each.new.self in
    let same : (q : ObjectId) → b.seen q ≡ a.seen q = λ q. ap (λ s. tree.contains id_cmp s q) c.pop.ensures.seen in
    let held : IsSome (finite.get c.loop-newest.graph.graph.held id) = v.holds id (c.in-Some.ensures.taken id ∙ taken_waits id _) in
    let parents : (c' : Commit) → commit_at objects id ≡ Some c' → c.as_slice.result.now ≡ c'.parents =
    λ c' r. c.as_slice.ensures.value ∙ c.in_ok-parents.ensures held c' (ap (λ (o : Objects). commit_at o id) v.graph.objects ∙ r) in
    let other : id ≢ c.args.old.now = search rules in
    let ancestor : IsAncestor (commit_at objects) c.args.new.now id =
    taken_ancestor objects c.args.new.now c.args.old.now a b new id v.search c.in-Some.ensures.taken same in
    let commit : (k : Commit) × (commit_at objects id ≡ Some k) =
    the_commit (commit_at objects id) (ancestor_there (commit_at objects) c.args.new.now id ancestor) in
    record {
      search =
          search_step objects c.args.new.now c.args.old.now a b new id v.search c.in-Some.ensures.taken same c.as_slice.result.now
          parents other (explored objects _ v.graph.objects c.as_slice.result.now b new e.explores);
      holds = e.holds (λ q w. v.holds q (c.in-Some.ensures.taken q ∙ others_wait q id _ w));
      graph = looks_on _ _ _ v.graph e.graph;
      asked = e.asked c.args.graph.now.graph c.args.graph.now.asked v.graph (asked_seen c.args.graph.now.graph a b _ _ same v.asked);
      within = λ most limited. within_step (commit_at objects) c.args.new.now most c.args.most_commits b new c.pop.new.self.seen.keys
          c.seen.result id commit.0 c.as_slice.result.now limited
          (λ beyond. true≢false (sym (c.is_beyond.ensures.1 beyond) ∙ c.if-is_beyond.false)) c.seen.ensures.len c.seen.ensures.listed
          ancestor commit.1 (parents commit.0 commit.1) c.look_each.ensures.more;
      refusals = e.unrefused ∙ v.refusals;
      failures = omega (arith, e.failures, v.failures);
    }

pub returns-clause-ancestor : goal.returns-clause-ancestor
returns-clause-ancestor g c =
    let idle : (q : ObjectId) → (search_of c.loop-newest.walk).waits q ≡ false = c.in_default.ensures.none in (
      λ f. absurd (cc),
      λ k. absurd (not_found c.args.graph.now.graph.objects c.args.new.now c.args.old.now
          (search_of c.loop-newest.walk) c.loop-newest.invariant.search idle k),
    )

pub returns-then-eq-clause-within : goal.returns-then-eq-clause-within
returns-then-eq-clause-within g c =
    let v = c.loop-newest.invariant in
    asked_within (commit_at c.args.graph.now.graph.objects) c.args.new.now c.args.graph.now.graph c.args.most_commits
    (search_of c.loop-newest.walk) _ _ v.within v.asked

pub returns-clause-within : goal.returns-clause-within
returns-clause-within g c =
    let v = c.loop-newest.invariant in
    asked_within (commit_at c.args.graph.now.graph.objects) c.args.new.now c.args.graph.now.graph c.args.most_commits
    (search_of c.loop-newest.walk) _ _ v.within v.asked
