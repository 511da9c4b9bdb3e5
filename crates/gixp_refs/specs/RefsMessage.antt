-- The server's message in an error of reading refs.
use Rattle.std.specs.Prelude.{ℕ, List, Option, Some, None}
use Rattle.bstr.specs.Owned.{bstring_bytes}
use Rattle.gixp_packetline.specs.ServerMessage.{read_message}
use Rattle.gixp_refs.specs.declared.handshake.refs.parse.Error.{Error}
use Rattle.gixp_refs.specs.declared.handshake.refs.parse.Error.TheVariants.{UploadPack, Reader}

-- the message of an `ERR ` line, or the one in the error of the reader
abbrev pub refs_message : Error → Option (List ℕ)
refs_message (UploadPack message) = Some (bstring_bytes message)
refs_message (Reader e) = read_message e
refs_message _ = None
