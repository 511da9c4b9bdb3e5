use Rattle.gixp_planner.proofs.DiscoveredLemmas.{greetings-follow}
use Rattle.gixp_planner.proofs.laws.greetings_follow_bodies.Goals as goal

pub returns : goal.returns
returns c = greetings-follow
