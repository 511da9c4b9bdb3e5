use Rattle.std.proofs.Common.{◌≡◌, ◌∙◌, true, false, not, ◌&&◌, cond, Option, None, sym, ap, subst, arith}
use Rattle.std.specs.Prelude.{Ok, Err}
use Rattle.gixp_hash.specs.declared.object_id.ObjectId.{ObjectId}
use Rattle.gixp_graph.specs.Object.{Objects, Commit, commit_at}
use Rattle.gixp_updates.specs.declared.refs.update.Mode.TheVariants.{Forced, RejectedNonFastForward}
use Rattle.gixp_updates.specs.Modes.{is_tag_name, is_branch_name, is_commit, ByAncestry, Moves}
use Rattle.gixp_updates.proofs.ModeLemmas.{on_true, on_false, ok_weaker, consults_on, consults_as, consults_err}
use Rattle.gixp_updates.proofs.LimitLemmas.{limit_none, limit_after, limit_read}
use Rattle.gixp_updates.proofs.refs.mode.moved.Goals as goal

pub returns-in-Err-clause-consults : goal.returns-in-Err-clause-consults
returns-in-Err-clause-consults g c = consults_err c.args.most_commits c.in-Err.e _ _ (c.in-Err.ensures.consults c.args.most_commits)

pub returns-then-is_misplaced-clause-consults : goal.returns-then-is_misplaced-clause-consults
returns-then-is_misplaced-clause-consults g c =
    consults_as c.args.most_commits c.in-Ok.is_new_commit _ _ _ (c.in-Ok.ensures.consults c.args.most_commits)

pub returns-in-Err-is_commit-clause-consults : goal.returns-in-Err-is_commit-clause-consults
returns-in-Err-is_commit-clause-consults g c =
    consults_on c.args.most_commits c.in-Ok.is_new_commit
    (Err c.in-Err-is_commit.e) c.args.graph.now c.is_commit.new.graph c.is_commit-2.new.graph
    (c.in-Ok.ensures.consults c.args.most_commits)
    (consults_err c.args.most_commits c.in-Err-is_commit.e _ _ (c.in-Err-is_commit.ensures.consults c.args.most_commits))

pub returns-then-are_commits-clause-mode : goal.returns-then-are_commits-clause-mode
returns-then-are_commits-clause-mode g c =
    let commits : Objects = c.args.graph.now.graph.objects in
    let name = c.args.target.name.now in
    let new = c.args.target.id.now in
    let old = c.args.old.now in
    let first : c.is_commit.new.graph.graph.objects ≡ commits = (c.in-Ok.ensures.consults None).looks.objects in
    let second : c.is_commit-2.new.graph.graph.objects ≡ commits = (c.in-Ok-is_commit.ensures.consults None).looks.objects ∙ first in
    let new_is : c.in-Ok.is_new_commit ≡ is_commit commits new = c.in-Ok.ensures.commit in
    let old_is : c.in-Ok-is_commit.is_old_commit ≡ is_commit commits old = c.in-Ok-is_commit.ensures.commit
    ∙ ap (λ (o : Objects). is_commit o old) first in
    let both : (is_commit commits old && is_commit commits new) ≡ true =
    sym (c.are_commits.ensures ∙ ap (λ b. b && c.in-Ok.is_new_commit) old_is ∙ ap (λ b. is_commit commits old && b) new_is)
    ∙ c.if-are_commits.true in
    let placed : (is_branch_name name && not (is_commit commits new)) ≡ false =
    sym (c.is_misplaced.ensures ∙ ap (λ b. is_branch_name name && not b) new_is) ∙ c.if-is_misplaced.false in
    ok_weaker c.by_ancestry.result (λ mode. ByAncestry c.is_commit-2.new.graph.graph.objects c.args.target.is_forced old new mode)
    (λ mode. Moves (g.O.Objects.contents c.args.objects.now) commits c.args.target.is_forced name old new mode)
    (λ mode m. on_false (is_tag_name name) _ _ (sym c.is_tag_name.ensures ∙ c.if-is_tag_name.false)
    (on_false (is_branch_name name && not (is_commit commits new)) _ _ placed
    (on_true (is_commit commits old && is_commit commits new) _ _ both
    (subst (λ o. ByAncestry o c.args.target.is_forced old new mode) second m))))
    c.by_ancestry.ensures.mode

pub returns-then-are_commits-clause-consults : goal.returns-then-are_commits-clause-consults
returns-then-are_commits-clause-consults g c =
    consults_on c.args.most_commits c.in-Ok.is_new_commit c.by_ancestry.result c.args.graph.now c.is_commit.new.graph
    c.by_ancestry.new.graph (c.in-Ok.ensures.consults c.args.most_commits)
    (consults_on c.args.most_commits c.in-Ok-is_commit.is_old_commit c.by_ancestry.result c.is_commit.new.graph c.is_commit-2.new.graph
    c.by_ancestry.new.graph (c.in-Ok-is_commit.ensures.consults c.args.most_commits) c.by_ancestry.ensures.consults)

pub returns-clause-mode : goal.returns-clause-mode
returns-clause-mode g c =
    let commits : Objects = c.args.graph.now.graph.objects in
    let name = c.args.target.name.now in
    let new = c.args.target.id.now in
    let old = c.args.old.now in
    let first : c.is_commit.new.graph.graph.objects ≡ commits = (c.in-Ok.ensures.consults None).looks.objects in
    let new_is : c.in-Ok.is_new_commit ≡ is_commit commits new = c.in-Ok.ensures.commit in
    let old_is : c.in-Ok-is_commit.is_old_commit ≡ is_commit commits old = c.in-Ok-is_commit.ensures.commit
    ∙ ap (λ (o : Objects). is_commit o old) first in
    let both : (is_commit commits old && is_commit commits new) ≡ false =
    sym (c.are_commits.ensures ∙ ap (λ b. b && c.in-Ok.is_new_commit) old_is ∙ ap (λ b. is_commit commits old && b) new_is)
    ∙ c.if-are_commits.false in
    let placed : (is_branch_name name && not (is_commit commits new)) ≡ false =
    sym (c.is_misplaced.ensures ∙ ap (λ b. is_branch_name name && not b) new_is) ∙ c.if-is_misplaced.false in
    on_false (is_tag_name name) _ _ (sym c.is_tag_name.ensures ∙ c.if-is_tag_name.false)
    (on_false (is_branch_name name && not (is_commit commits new)) _ _ placed
    (on_false (is_commit commits old && is_commit commits new) _ _ both
    (c.forced_or-2.ensures ∙ ap (λ b. cond b Forced RejectedNonFastForward) c.is_free.ensures)))

pub returns-clause-consults : goal.returns-clause-consults
returns-clause-consults g c =
    consults_on c.args.most_commits c.in-Ok.is_new_commit
    (Ok c.forced_or-2.result) c.args.graph.now c.is_commit.new.graph c.is_commit-2.new.graph
    (c.in-Ok.ensures.consults c.args.most_commits)
    (consults_as c.args.most_commits c.in-Ok-is_commit.is_old_commit c.forced_or-2.result _ _
    (c.in-Ok-is_commit.ensures.consults c.args.most_commits))

pub returns-then-is_tag_name-clause-limited : goal.returns-then-is_tag_name-clause-limited
returns-then-is_tag_name-clause-limited g c =
    limit_none (commit_at c.args.graph.now.graph.objects) (λ q. q ≡ c.args.target.id.now) c.args.most_commits 2 c.forced_or.result _

pub returns-then-are_commits-clause-limited : goal.returns-then-are_commits-clause-limited
returns-then-are_commits-clause-limited g c =
    let read : ObjectId → Option Commit = commit_at c.args.graph.now.graph.objects in
    let IsStart : ObjectId → Type 0 = λ q. q ≡ c.args.target.id.now in
    let first : c.is_commit.new.graph.graph.objects ≡ c.args.graph.now.graph.objects = (c.in-Ok.ensures.consults None).looks.objects in
    let second : c.is_commit-2.new.graph.graph.objects ≡ c.args.graph.now.graph.objects =
    (c.in-Ok-is_commit.ensures.consults None).looks.objects ∙ first in
    limit_after read IsStart c.args.most_commits 1 2 (omega arith) c.args.target.id.now c.by_ancestry.result _ _ _ c.is_commit.ensures.asked
    (limit_after read IsStart c.args.most_commits 0 1 (omega arith) c.args.old.now c.by_ancestry.result _ _ _ c.is_commit-2.ensures.asked
    (limit_read read (commit_at c.is_commit-2.new.graph.graph.objects) (ap commit_at second) IsStart c.args.most_commits 0
    c.by_ancestry.result _ _ c.by_ancestry.ensures.limited))
