use Rattle.std.proofs.Common.{◌∙◌, arith}
use Rattle.gixp_updates.specs.Search.{search_of}
use Rattle.gixp_updates.proofs.LookLemmas.{explores_step, more_step, looks_on}
use Rattle.gixp_updates.proofs.AskLemmas.{asked_on}
use Rattle.gixp_updates.proofs.refs.walk.Walk.look_each.Goals as goal

pub loop-id-preserved : goal.loop-id-preserved
loop-id-preserved g c =
    let v = c.loop-id.invariant in
    let e = c.in_ok-look.ensures in
    record {
      explores = explores_step c.args.ids.now c.loop-id.id-index _ c.loop-id-test.true c.args.graph.now.graph.objects _ v.graph.objects
          (search_of c.args.self.now) (search_of c.loop-id.self) (search_of c.look.new.self) v.explores e.explores;
      holds = λ h. e.holds (v.holds h);
      graph = looks_on _ _ _ v.graph e.graph;
      asked = asked_on c.args.graph.now.graph c.loop-id.graph.graph v.graph (search_of c.args.self.now) (search_of c.loop-id.self)
          (search_of c.look.new.self) _ _ _ v.asked e.asked;
      refusals = e.unrefused ∙ v.refusals;
      failures = omega arith;
    }

pub returns-in_err-look-clause-more : goal.returns-in_err-look-clause-more
returns-in_err-look-clause-more g c = more_step c.args.ids.now c.loop-id.id-index _ c.loop-id-test.true (search_of c.args.self.now)
    (search_of c.loop-id.self) (search_of c.look.new.self) c.loop-id.invariant.explores.more c.look.ensures.more

pub returns-in_err-look-clause-graph : goal.returns-in_err-look-clause-graph
returns-in_err-look-clause-graph g c = looks_on _ _ _ c.loop-id.invariant.graph c.look.ensures.graph

pub returns-in_err-look-clause-asked : goal.returns-in_err-look-clause-asked
returns-in_err-look-clause-asked g c = asked_on c.args.graph.now.graph c.loop-id.graph.graph c.loop-id.invariant.graph
    (search_of c.args.self.now) (search_of c.loop-id.self)
    (search_of c.look.new.self) _ _ _ c.loop-id.invariant.asked c.look.ensures.asked
