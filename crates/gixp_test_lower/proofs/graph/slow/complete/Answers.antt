-- One more complete commit, and the end.
use Rattle.std.proofs.Common.{◌∙◌, sym, subst, map, arith}
use Rattle.std.specs.Prelude.{Contains}
use Rattle.std.proofs.lemmas.List.Elements.{All-contains}
use Rattle.gixp_hash.specs.declared.object_id.ObjectId.{ObjectId}
use Rattle.gixp_graph.specs.declared.objects.CommitData.{CommitData}
use Rattle.gixp_graph.specs.Object.{commit_at}
use Rattle.gixp_test_lower.specs.Listed.{objects_of}
use Rattle.gixp_graph.specs.Complete.{IsComplete}
use Rattle.gixp_test_lower.specs.Slow.{IsClosed}
use Rattle.gixp_test_lower.proofs.ListedLemmas.{some_listed, any_listed}
use Rattle.gixp_test_lower.proofs.SlowLemmas.{added_less, closed_complete}
use Rattle.gixp_test_lower.proofs.graph.slow.complete.Goals as goal

pub loop-id-smaller : goal.loop-id-smaller
loop-id-smaller c =
    let m = c.in-Some.ensures.some in
    let less = added_less (map (λ (e : ObjectId × CommitData). e.0) c.args.commits.now.entries) c.loop-id.known.items c.in-Some.id
    (sym (any_listed c.args.commits.now.entries c.in-Some.id) ∙ sym (some_listed c.args.commits.now.entries c.in-Some.id) ∙ m.0)
    (λ i. m.1 (subst (λ ids. Contains ids c.in-Some.id) (sym c.as_slice.ensures.value) i)) in
    rw c.in_ok-push.ensures.items (omega (arith, less))

pub returns : goal.returns
returns c id = (
  λ i. All-contains (IsComplete (commit_at
      (objects_of c.args.commits.now.entries)) c.args.tips.now c.args.cutoff) c.loop-id.known.items id c.loop-id.invariant i,
  λ k. closed_complete (commit_at (objects_of c.args.commits.now.entries)) c.args.tips.now c.args.cutoff c.loop-id.known.items
      (subst (IsClosed (commit_at
      (objects_of c.args.commits.now.entries)) c.args.tips.now c.args.cutoff) c.as_slice.ensures.value c.in_default.ensures.none) id
      k,
)
