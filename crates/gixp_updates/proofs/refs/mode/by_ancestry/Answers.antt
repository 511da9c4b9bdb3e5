use Rattle.std.proofs.Common.{◌≡◌, refl}
use Rattle.gixp_graph.specs.Object.{commit_at}
use Rattle.gixp_updates.specs.declared.refs.update.Mode.TheVariants.{FastForward, Forced, RejectedNonFastForward}
use Rattle.gixp_updates.proofs.LimitLemmas.{limit_walked}
use Rattle.gixp_updates.proofs.refs.mode.by_ancestry.Goals as goal

pub returns-then-branch-clause-limited : goal.returns-then-branch-clause-limited
returns-then-branch-clause-limited g c =
    limit_walked (commit_at c.args.graph.now.graph.objects) (λ q. q ≡ c.args.new.now) c.args.most_commits 0 FastForward c.args.new.now _ _
    refl c.in_ok-is_ancestor.ensures.within

pub returns-then-is_forced-clause-limited : goal.returns-then-is_forced-clause-limited
returns-then-is_forced-clause-limited g c =
    limit_walked (commit_at c.args.graph.now.graph.objects) (λ q. q ≡ c.args.new.now) c.args.most_commits 0 Forced c.args.new.now _ _
    refl c.in_ok-is_ancestor.ensures.within

pub returns-else-is_forced-clause-limited : goal.returns-else-is_forced-clause-limited
returns-else-is_forced-clause-limited g c =
    limit_walked (commit_at c.args.graph.now.graph.objects) (λ q. q ≡ c.args.new.now) c.args.most_commits 0 RejectedNonFastForward
    c.args.new.now _ _ refl c.in_ok-is_ancestor.ensures.within
