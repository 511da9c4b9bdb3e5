use Rattle.gixp_shallow.proofs.SetLemmas.{boundary_is}
use Rattle.gixp_shallow.proofs.laws.boundaries_are_sets.Goals as goal

pub returns : goal.returns
returns c = boundary_is
