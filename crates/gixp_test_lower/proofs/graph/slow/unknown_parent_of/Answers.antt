use Rattle.std.proofs.Common.{◌∙◌, sym, ap, subst, rules, arith}
use Rattle.std.specs.Prelude.{◌≤ℤ◌, option_map, Contains}
use lib.Signed.{◌<ℤ◌}
use mir.Val.{SFits}
use mir.Syntax.{w64}
use Rattle.std.proofs.lemmas.Int.{ints}
use Rattle.std.proofs.lemmas.Option.{IfSome_then}
use Rattle.gixp_graph.specs.Object.{commit_at, commit_of}
use Rattle.gixp_test_lower.specs.Listed.{objects_of}
use Rattle.gixp_test_lower.specs.Slow.{AreKnown}
use Rattle.gixp_test_lower.proofs.ListedLemmas.{commit_listed}
use Rattle.gixp_test_lower.proofs.SlowLemmas.{if_none, none_before, parents_known, missing_parent}
use Rattle.gixp_test_lower.proofs.graph.slow.unknown_parent_of.Goals as goal

pub returns-then-commit-cutoff-clause-none : goal.returns-then-commit-cutoff-clause-none
returns-then-commit-cutoff-clause-none c =
    let fits : SFits w64 c.in-Some.commit.now.time = search rules in
    let before : c.in-Some.commit.now.time <ℤ c.args.cutoff = grind (arith, ints, c.if-commit-cutoff.true, c.ranges.cutoff) in
    none_before (commit_at (objects_of c.args.commits.now.entries)) c.args.cutoff c.args.known.now c.args.id.now
    (commit_of c.in-Some.commit.now)
    (commit_listed c.args.commits.now.entries c.args.id.now ∙ ap (option_map commit_of) (sym c.in-Some.ensures.value)) before

pub returns-else-commit-cutoff-clause-some : goal.returns-else-commit-cutoff-clause-some
returns-else-commit-cutoff-clause-some c =
    let fits : SFits w64 c.in-Some.commit.now.time = search rules in
    let late : c.args.cutoff ≤ℤ c.in-Some.commit.now.time = grind (arith, ints, c.if-commit-cutoff.false, c.ranges.cutoff) in
    IfSome_then c.unknown.result c.unknown.ensures.some (λ p h i tips. missing_parent (commit_at
    (objects_of c.args.commits.now.entries)) tips c.args.cutoff c.args.known.now c.args.id.now p (commit_of c.in-Some.commit.now) i
    (commit_listed c.args.commits.now.entries c.args.id.now ∙ ap (option_map commit_of) (sym c.in-Some.ensures.value)) late
    (subst (λ ps. Contains ps p) c.as_slice.ensures.value h.0) h.1 h.2)

pub returns-else-commit-cutoff-clause-none : goal.returns-else-commit-cutoff-clause-none
returns-else-commit-cutoff-clause-none c =
    if_none c.unknown.result _ _ (λ k. parents_known (commit_at
    (objects_of c.args.commits.now.entries)) c.args.cutoff c.args.known.now c.args.id.now (commit_of c.in-Some.commit.now)
    (commit_listed c.args.commits.now.entries c.args.id.now ∙ ap (option_map commit_of) (sym c.in-Some.ensures.value))
    (subst (AreKnown (commit_at
    (objects_of c.args.commits.now.entries)) c.args.known.now) c.as_slice.ensures.value k)) c.unknown.ensures.none

pub returns-in-None-clause-none : goal.returns-in-None-clause-none
returns-in-None-clause-none c d e t = absurd (let n = ap (option_map commit_of) c.in-None.ensures.value
    ∙ sym (commit_listed c.args.commits.now.entries c.args.id.now) ∙ e in cc)
