-- The version of the protocol to request (git-config, "protocol.version").
use Rattle.std.specs.Prelude.{ℕ, if◌then◌else◌, List, codes, Option, Some, None}
use Rattle.std.specs.Str.{bytes_eq}
use Rattle.gix_protocol.specs.ProtocolType.{Protocol}
use Rattle.gix_protocol.specs.ProtocolType.TheVariants.{V0, V1, V2}

-- the version of this name; any other name means 2
abbrev pub protocol_of : List ℕ → Protocol
protocol_of word = if bytes_eq word (codes "0") then V0 else if bytes_eq word (codes "1") then V1 else V2

-- the text for a server; none for version 0
abbrev pub version_word : Protocol → Option (List ℕ)
version_word V0 = None
version_word V1 = Some (codes "version=1")
version_word V2 = Some (codes "version=2")

-- the number of a version, as in the setting
abbrev pub version_number : Protocol → List ℕ
version_number V0 = codes "0"
version_number V1 = codes "1"
version_number V2 = codes "2"
