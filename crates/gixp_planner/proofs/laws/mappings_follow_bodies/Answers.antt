use Rattle.gixp_planner.proofs.MappedLemmas.{mappings-follow}
use Rattle.gixp_planner.proofs.laws.mappings_follow_bodies.Goals as goal

pub returns : goal.returns
returns c = mappings-follow
