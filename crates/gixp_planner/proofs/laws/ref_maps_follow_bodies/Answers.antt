use Rattle.gixp_planner.proofs.SoughtLemmas.{maps-follow}
use Rattle.gixp_planner.proofs.laws.ref_maps_follow_bodies.Goals as goal

pub returns : goal.returns
returns c = maps-follow
