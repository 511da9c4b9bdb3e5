use Rattle.std.proofs.Common.{subst, []}
use Rattle.std.proofs.lemmas.List.{take_all}
use Rattle.std.proofs.lemmas.List.Elements.{All-more}
use Rattle.std.specs.Prelude.{IsSome, Contains}
use Rattle.gixp_graph.specs.Object.{commit_at}
use Rattle.gixp_test_lower.specs.Listed.{objects_of}
use Rattle.gixp_test_lower.specs.Slow.{AreKnown}
use Rattle.gixp_test_lower.proofs.graph.slow.unknown.Goals as goal

pub loop-id-preserved : goal.loop-id-preserved
loop-id-preserved c =
    All-more (λ id. IsSome (commit_at (objects_of c.args.commits.now.entries) id)
    → Contains c.args.known.now id) c.args.ids.now c.loop-id.id-index
    (record { bytes = [] }) c.loop-id-test.true c.loop-id.invariant c.if-is_unknown.ensures.known

pub returns-clause-none : goal.returns-clause-none
returns-clause-none c = subst (AreKnown (commit_at (objects_of c.args.commits.now.entries)) c.args.known.now)
    (take_all c.loop-id.id-index c.args.ids.now c.loop-id-test.false) c.loop-id.invariant
