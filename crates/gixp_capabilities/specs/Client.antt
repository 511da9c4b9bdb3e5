-- The errors of a call to a server.
use Rattle.std.specs.Prelude.{ℕ, List}
use Rattle.std.specs.declared.io.ErrorKind.{ErrorKind}
use Rattle.bstr.specs.Owned.{bstring_bytes}
use Rattle.gixp_capabilities.specs.declared.client.Error.{Error}
use Rattle.gixp_capabilities.specs.declared.client.Error.TheVariants.{Io, Read, LineTooLong, AuthenticationUnsupported, UnsupportedProtocolVersion, MissingDelimitingNullByte, Memory}
use Rattle.gixp_packetline.specs.Pieces.{Refusal, io, memory}
use Rattle.gixp_packetline.specs.Reading.{refusal_of}

-- an error, as contracts compare it
pub data ClientRefusal : Type 0 where
  failed : ErrorKind → ClientRefusal
  reader : Refusal → ClientRefusal
  too_long : ClientRefusal
  no_authentication : ClientRefusal
  unsupported_version : List ℕ → ClientRefusal
  no_null_byte : ClientRefusal
  no_memory : ClientRefusal

-- an error, as contracts compare it
abbrev pub client_refusal : Error → ClientRefusal
client_refusal (Io kind) = failed kind
client_refusal (Read e) = reader (refusal_of e)
client_refusal LineTooLong = too_long
client_refusal AuthenticationUnsupported = no_authentication
client_refusal (UnsupportedProtocolVersion line) = unsupported_version (bstring_bytes line)
client_refusal MissingDelimitingNullByte = no_null_byte
client_refusal Memory = no_memory

-- the error of a call to a server that passes on a reader's error
abbrev pub client_from : Refusal → ClientRefusal
client_from (io kind) = failed kind
client_from memory = no_memory
client_from e = reader e
