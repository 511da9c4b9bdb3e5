use Rattle.std.proofs.lemmas.Result.{err_from_is_err_and}
use Rattle.gixp_negotiate.proofs.LookLemmas.{calls_some}
use Rattle.std.proofs.Common.{◌∙◌, subst, sym, take, [], get_or, arith}
use Rattle.std.proofs.lemmas.List.{take_more}
use Rattle.gixp_graph.specs.Run.{IsRun}
use Rattle.gixp_graph.specs.GraphLaws.{run_more}
use Rattle.gixp_negotiate.proofs.negotiate.mark.tell_known.Goals as goal

pub loop-id-preserved : goal.loop-id-preserved
loop-id-preserved g c = record {
  run =
      subst (λ ids. IsRun g.N.Negotiator.calls.knows ids c.args.negotiator.now c.args.graph.now.graph c.known_common.new.self
      c.known_common.new.graph.graph) (sym (take_more c.args.ids.now c.loop-id.id-index (record { bytes = [] }) c.loop-id-test.true))
      (run_more g.N.Negotiator.calls.knows (take c.loop-id.id-index c.args.ids.now)
      (get_or c.args.ids.now c.loop-id.id-index
      (record { bytes = [] })) c.args.negotiator.now c.loop-id.negotiator c.known_common.new.self c.args.graph.now.graph
      c.loop-id.graph.graph c.known_common.new.graph.graph
      c.loop-id.invariant.run c.in_ok-known_common.ensures.reported);
  objects = c.known_common.ensures.objects ∙ c.loop-id.invariant.objects;
  failures = omega (arith, c.known_common.ensures.failures, c.loop-id.invariant.failures);
  graph_failures = omega (arith, c.known_common.ensures.graph_failures, c.loop-id.invariant.graph_failures);
}

pub returns-in_err-known_common-clause-stopped : goal.returns-in_err-known_common-clause-stopped
returns-in_err-known_common-clause-stopped g c = let p = err_from_is_err_and c.from_residual.result c.from_residual.ensures.1 in
    rw (p.1, p.2) (calls_some g.N.Negotiator.calls.knows g.N.Negotiator.calls.knowing_fails c.args.ids.now c.loop-id.id-index
    (record { bytes = [] }) c.args.negotiator.now c.args.graph.now.graph c.loop-id.negotiator c.loop-id.graph.graph _
    c.known_common.new.self c.known_common.new.graph.graph c.loop-id-test.true c.loop-id.invariant.run
    c.in_err-known_common.ensures.fails)
