-- The order of protocol versions.
use Rattle.std.specs.Prelude.{ℕ}
use Rattle.gixp_packetline.specs.declared.protocol.Protocol.{Protocol}
use Rattle.gixp_packetline.specs.declared.protocol.Protocol.TheVariants.{V0, V1, V2}

abbrev pub version_number : Protocol → ℕ
version_number V0 = 0
version_number V1 = 1
version_number V2 = 2
