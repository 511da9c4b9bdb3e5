use Rattle.std.proofs.Common.{ap}
use Rattle.gixp_shallow.specs.Shallow.{shallow_value}
use Rattle.gixp_planner.proofs.SessionLemmas.{carries}
use Rattle.gixp_planner.proofs.session.fetch_over.Goals as goal

pub returns : goal.returns
returns g c = record {
  interrupt = _;
  consumer = _;
  interrupt' = _;
  consumer' = _;
  progress = _;
  carries =
      carries _ _ _ _ _ _ _ _ _ c.git.ensures c.requires.agent (ap shallow_value c.requires.stays) c.fetch.ensures.fetched;
}
