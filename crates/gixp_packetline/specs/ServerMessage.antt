-- The message of an `ERR ` line in an error of a reader (gitprotocol-pack, "pkt-line Format").
use Rattle.std.specs.Prelude.{ℕ, List, Option, Some, None}
use Rattle.bstr.specs.Owned.{bstring_bytes}
use Rattle.gixp_packetline.specs.declared.read.Error.{Error}
use Rattle.gixp_packetline.specs.declared.read.Error.TheVariants.{Server}

abbrev pub read_message : Error → Option (List ℕ)
read_message (Server message) = Some (bstring_bytes message)
read_message _ = None
