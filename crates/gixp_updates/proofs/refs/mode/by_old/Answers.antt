use Rattle.std.proofs.Common.{◌≡◌}
use Rattle.gixp_graph.specs.Object.{commit_at}
use Rattle.gixp_updates.specs.declared.refs.update.Mode.TheVariants.{NoChangeNeeded}
use Rattle.gixp_updates.proofs.LimitLemmas.{limit_none}
use Rattle.gixp_updates.proofs.refs.mode.by_old.Goals as goal

pub returns-in_default-clause-consults : goal.returns-in_default-clause-consults
returns-in_default-clause-consults g c = c.made.ensures.consults c.args.most_commits

pub returns-then-is_same-clause-limited : goal.returns-then-is_same-clause-limited
returns-then-is_same-clause-limited g c =
    limit_none (commit_at c.args.graph.now.graph.objects) (λ q. q ≡ c.args.target.id.now) c.args.most_commits 2 NoChangeNeeded _
