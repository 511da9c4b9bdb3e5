use Rattle.std.proofs.Common.{◌≡◌, ℕ, List}
use Rattle.gixp_capabilities.specs.Capabilities.{capabilities_of_lines}
use Rattle.gixp_packetline.specs.Packets.{packets_reading}
use Rattle.gixp_transport.proofs.AdvertisementLemmas.{Gathers}
use Rattle.gixp_transport.proofs.advertisement.capability_lines.Given as goal

abbrev pub invariant-loop-capabilities : goal.invariant-loop-capabilities
invariant-loop-capabilities g l = (texts : List (List ℕ))
    × Gathers (packets_reading g.R.Read.remaining l.fn.packets) (packets_reading g.R.Read.remaining l.packets) texts
    × (l.capabilities ≡ capabilities_of_lines texts)

abbrev pub decreases-loop-capabilities : goal.decreases-loop-capabilities
decreases-loop-capabilities g l = (packets_reading g.R.Read.remaining l.packets).left
