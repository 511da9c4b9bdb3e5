use Rattle.gixp_updates.proofs.LookLemmas.{looks_up}
use Rattle.gixp_updates.proofs.refs.mode.is_commit.Goals as goal

pub returns-clause-consults : goal.returns-clause-consults
returns-clause-consults g c limit = record {
  looks = looks_up c.args.graph.now.graph c.lookup.new.self.graph c.args.id.now c.in_ok-lookup.ensures.ok;
  failures = c.in_ok-lookup.ensures.failures;
  reports = c.in_ok-lookup.ensures.unrefused;
}
