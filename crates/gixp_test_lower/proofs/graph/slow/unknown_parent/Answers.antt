use Rattle.std.proofs.Common.{subst, [], Some}
use Rattle.std.specs.Prelude.{All, ℤ}
use Rattle.std.proofs.lemmas.Int.{to_z-of_z}
use mir.Val.{to_z, of_z}
use mir.Syntax.{w64}
use Rattle.std.proofs.lemmas.List.{take_all}
use Rattle.std.proofs.lemmas.List.Elements.{All-more, Contains-get_or}
use Rattle.gixp_graph.specs.Object.{commit_at}
use Rattle.gixp_test_lower.specs.Listed.{objects_of}
use Rattle.gixp_test_lower.specs.Slow.{ParentsAreKnown, IsMissingCommit}
use Rattle.gixp_test_lower.proofs.graph.slow.unknown_parent.Goals as goal

pub returns-in-Some-clause-some : goal.returns-in-Some-clause-some
returns-in-Some-clause-some c tips =
    subst (λ (z : ℤ). IsMissingCommit (commit_at (objects_of c.args.commits.now.entries)) tips
    (Some z) c.args.known.now c.in-Some.parent) (to_z-of_z w64 c.args.cutoff c.ranges.cutoff)
    (c.in-Some.ensures.some (Contains-get_or c.args.known.now c.loop-id.id-index (record { bytes = [] }) c.loop-id-test.true) tips)

pub loop-id-preserved : goal.loop-id-preserved
loop-id-preserved c =
    All-more (ParentsAreKnown (commit_at (objects_of c.args.commits.now.entries))
    (to_z w64 (of_z w64 c.args.cutoff)) c.args.known.now) c.args.known.now c.loop-id.id-index
    (record { bytes = [] }) c.loop-id-test.true c.loop-id.invariant c.in_default.ensures.none

pub returns-clause-none : goal.returns-clause-none
returns-clause-none c =
    subst (λ (z : ℤ). All (ParentsAreKnown (commit_at (objects_of c.args.commits.now.entries)) z c.args.known.now) c.args.known.now)
    (to_z-of_z w64 c.args.cutoff c.ranges.cutoff)
    (subst (All (ParentsAreKnown (commit_at (objects_of c.args.commits.now.entries))
    (to_z w64 (of_z w64 c.args.cutoff)) c.args.known.now))
    (take_all c.loop-id.id-index c.args.known.now c.loop-id-test.false) c.loop-id.invariant)
