-- The server's message in an error of a handshake.
use Rattle.std.specs.Prelude.{ℕ, List, Option, None}
use Rattle.gixp_capabilities.specs.ClientMessage.{client_message}
use Rattle.gixp_refs.specs.RefsMessage.{refs_message}
use Rattle.gixp_handshake.specs.declared.handshake.error.Error.{Error}
use Rattle.gixp_handshake.specs.declared.handshake.error.Error.TheVariants.{Transport, ParseRefs}

-- the message in an error of the transport, or of the refs
abbrev pub handshake_message : Error → Option (List ℕ)
handshake_message (Transport e) = client_message e
handshake_message (ParseRefs e) = refs_message e
handshake_message _ = None
