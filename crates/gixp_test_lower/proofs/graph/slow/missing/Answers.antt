use Rattle.std.proofs.Common.{◌∙◌, sym, subst, Option, Some, rules}
use Rattle.std.proofs.lemmas.Int.{to_z-of_z}
use mir.Val.{SFits}
use mir.Syntax.{w64}
use Rattle.gixp_hash.specs.declared.object_id.ObjectId.{ObjectId}
use Rattle.std.specs.Prelude.{All, ℤ}
use Rattle.std.proofs.lemmas.Option.{IfSome_then}
use Rattle.gixp_graph.specs.Object.{Commit, commit_at}
use Rattle.gixp_test_lower.specs.Listed.{objects_of}
use Rattle.gixp_test_lower.specs.Slow.{ParentsAreKnown, IsMissingCommit}
use Rattle.gixp_test_lower.proofs.SlowLemmas.{if_none, missing_tip, same_cutoff}
use Rattle.gixp_test_lower.proofs.graph.slow.missing.Goals as goal

pub returns-in-Some-clause-some : goal.returns-in-Some-clause-some
returns-in-Some-clause-some c = let h = c.in-Some.ensures.some in missing_tip
    (commit_at (objects_of c.args.commits.now.entries)) c.args.tips.now c.args.cutoff c.args.known.now c.in-Some.id h.0 h.1 h.2

pub returns-in-Some-cutoff-clause-some : goal.returns-in-Some-cutoff-clause-some
returns-in-Some-cutoff-clause-some c =
    let read : ObjectId → Option Commit = commit_at (objects_of c.args.commits.now.entries) in
    let fits : SFits w64 c.in-Some-cutoff.cutoff = search rules in
    IfSome_then c.unknown_parent.result c.unknown_parent.ensures.some
    (λ p h. subst (λ o. IsMissingCommit read c.args.tips.now o c.args.known.now p) (sym c.in-Some-cutoff.is)
    (subst (λ (z : ℤ). IsMissingCommit read c.args.tips.now (Some z) c.args.known.now p) (to_z-of_z w64 c.in-Some-cutoff.cutoff fits)
    (h c.args.tips.now)))

pub returns-in-Some-cutoff-clause-none : goal.returns-in-Some-cutoff-clause-none
returns-in-Some-cutoff-clause-none c =
    let read : ObjectId → Option Commit = commit_at (objects_of c.args.commits.now.entries) in
    let fits : SFits w64 c.in-Some-cutoff.cutoff = search rules in
    if_none c.unknown_parent.result _ _ (λ k. record {
      tips_known = c.in-None.ensures.none;
      parents_known = λ least e. subst (λ (z : ℤ). All (ParentsAreKnown read z c.args.known.now) c.args.known.now)
          (to_z-of_z w64 c.in-Some-cutoff.cutoff fits ∙ same_cutoff c.in-Some-cutoff.cutoff least c.args.cutoff c.in-Some-cutoff.is e) k;
    }) c.unknown_parent.ensures.none
