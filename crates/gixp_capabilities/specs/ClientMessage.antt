-- The server's message in an error of a call to it.
use Rattle.std.specs.Prelude.{ℕ, List, Option, None}
use Rattle.gixp_capabilities.specs.declared.client.Error.{Error}
use Rattle.gixp_capabilities.specs.declared.client.Error.TheVariants.{Read}
use Rattle.gixp_packetline.specs.ServerMessage.{read_message}

-- only a reader's error for an `ERR ` line has a message
abbrev pub client_message : Error → Option (List ℕ)
client_message (Read e) = read_message e
client_message _ = None
