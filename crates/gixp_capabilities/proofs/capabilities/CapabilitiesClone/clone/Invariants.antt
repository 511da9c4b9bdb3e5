-- The capabilities copied so far.
use Rattle.std.proofs.Common.{◌≡◌, take, map}
use Rattle.bstr.specs.Owned.{bstring_bytes}
use Rattle.gixp_capabilities.specs.Capabilities.{capability_of}
use Rattle.gixp_capabilities.proofs.capabilities.CapabilitiesClone.clone.Given as goal

abbrev pub invariant-loop-line : goal.invariant-loop-line
invariant-loop-line l = l.copy ≡ map (λ s. capability_of (bstring_bytes s)) (take l.line-index l.line-items)
