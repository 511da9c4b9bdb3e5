-- The server's message in an error of a response.
use Rattle.std.specs.Prelude.{ℕ, List, Option, Some, None}
use Rattle.bstr.specs.Owned.{bstring_bytes}
use Rattle.gixp_packetline.specs.ServerMessage.{read_message}
use Rattle.gixp_capabilities.specs.ClientMessage.{client_message}
use Rattle.gixp_response.specs.declared.fetch.response.error.Error.{Error}
use Rattle.gixp_response.specs.declared.fetch.response.error.Error.TheVariants.{UploadPack, Transport, Reader}

-- the message of an `ERR ` line, or the one in the error of the transport or the reader
abbrev pub answer_message : Error → Option (List ℕ)
answer_message (UploadPack message) = Some (bstring_bytes message)
answer_message (Transport e) = client_message e
answer_message (Reader e) = read_message e
answer_message _ = None
