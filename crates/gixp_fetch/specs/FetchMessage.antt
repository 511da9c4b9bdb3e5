-- The server's message in an error of a fetch.
use Rattle.std.specs.Prelude.{ℕ, List, Option, None}
use Rattle.gixp_packetline.specs.ServerMessage.{read_message}
use Rattle.gixp_capabilities.specs.ClientMessage.{client_message}
use Rattle.gixp_response.specs.AnswerMessage.{answer_message}
use Rattle.gixp_fetch.specs.declared.consume.copy.CopyError.{CopyError}
use Rattle.gixp_fetch.specs.declared.consume.copy.CopyError.TheVariants.{Read, Write}
use Rattle.gixp_fetch.specs.declared.error.Error.{Error}
use Rattle.gixp_fetch.specs.declared.error.Error.TheVariants.{FetchResponse, Client, ConsumePack, ReadRemainingBytes}

-- the message in the error of the response, of the request, of the consumer, or of the bytes after the pack
abbrev pub fetch_message : {A E : Type 0} → (E → Option (List ℕ)) → Error A E → Option (List ℕ)
fetch_message of_consumer (FetchResponse e) = answer_message e
fetch_message of_consumer (Client e) = client_message e
fetch_message of_consumer (ConsumePack e) = of_consumer e
fetch_message of_consumer (ReadRemainingBytes e) = read_message e
fetch_message of_consumer _ = None

-- the message in the error of the failed read
abbrev pub copy_message : CopyError → Option (List ℕ)
copy_message (Read e) = read_message e
copy_message (Write kind) = None
