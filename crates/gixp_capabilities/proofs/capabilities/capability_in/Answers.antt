-- The text is cut at its first `=`.
use Rattle.gixp_capabilities.proofs.CapabilityLemmas.{capability_from_cut}
use Rattle.gixp_capabilities.proofs.capabilities.capability_in.Goals as goal

pub returns-in_default-None : goal.returns-in_default-None
returns-in_default-None c = let e = rw c.in_default-None.is-1 at c.cut.ensures in cc (capability_from_cut _ _ _ e)

pub returns-in_default-Some : goal.returns-in_default-Some
returns-in_default-Some c = let e = rw c.in_default-Some.is-1 at c.cut.ensures in cc (capability_from_cut _ _ _ e)
