-- The texts for a failed connection or a violation of the protocol, for errors that have no other text.
use Rattle.std.specs.Prelude.{ℕ, List, codes, Option, Some, None}
use Rattle.gixp_packetline.specs.declared.read.Error.{Error as ReadError}
use Rattle.gixp_packetline.specs.declared.read.Error.TheVariants as read
use Rattle.gixp_capabilities.specs.declared.client.Error.{Error as ClientError}
use Rattle.gixp_capabilities.specs.declared.client.Error.TheVariants as client
use Rattle.gixp_response.specs.declared.fetch.response.error.Error.{Error as AnswerError}
use Rattle.gixp_response.specs.declared.fetch.response.error.Error.TheVariants as answer
use Rattle.gixp_refs.specs.declared.handshake.refs.parse.Error.{Error as ParseError}
use Rattle.gixp_refs.specs.declared.handshake.refs.parse.Error.TheVariants as parse
use Rattle.gixp_handshake.specs.declared.handshake.error.Error.{Error as ShakeError}
use Rattle.gixp_handshake.specs.declared.handshake.error.Error.TheVariants as shake
use Rattle.gixp_client.specs.declared.consumer.PackError.{PackError}
use Rattle.gixp_client.specs.declared.consumer.PackError.TheVariants as pack
use Rattle.gixp_client.specs.declared.error.Error.{Error}
use Rattle.gixp_client.specs.declared.error.Error.TheVariants.{Handshake, Refs, UnterminatedRefs, Request, Answer, Pack, Rest}

-- a reader's error; the server's own error and an allocation failure have other texts
abbrev pub read_reason : ReadError → Option (List ℕ)
read_reason (read.Io kind) = Some (codes "the connection can't be read")
read_reason (read.Decode e) = Some (codes "protocol error: the server sent something that is not a packet line")
read_reason read.UnexpectedFrame = Some (codes "protocol error: the server sent an unexpected packet")
read_reason read.NotUtf8 = Some (codes "protocol error: the server sent a line that is not UTF-8")
read_reason (read.BadBand band) = Some (codes "protocol error: bad band")
read_reason read.Interrupted = Some (codes "it was interrupted")
read_reason (read.Server message) = None
read_reason read.Memory = None

-- the error of a call to the server
abbrev pub client_reason : ClientError → Option (List ℕ)
client_reason (client.Io kind) = Some (codes "the connection broke")
client_reason (client.Read e) = read_reason e
client_reason client.LineTooLong = Some (codes "a line is too long for a packet")
client_reason client.AuthenticationUnsupported = Some (codes "this connection can't use an account")
client_reason (client.UnsupportedProtocolVersion word) =
    Some (codes "the server speaks an unknown version of the protocol")
client_reason client.MissingDelimitingNullByte = Some (codes "protocol error: the server sent no capabilities")
client_reason client.Memory = None

-- the error of a list of refs; a malformed ref line has another text
abbrev pub refs_reason : ParseError → Option (List ℕ)
refs_reason (parse.Io kind) = Some (codes "the connection can't be read")
refs_reason (parse.DecodePacketline e) = Some (codes "protocol error: the server sent something that is not a packet line")
refs_reason (parse.Reader e) = read_reason e
refs_reason _ = None

-- the error of a handshake
abbrev pub handshake_reason : ShakeError → Option (List ℕ)
handshake_reason (shake.Transport e) = client_reason e
handshake_reason (shake.ParseRefs e) = refs_reason e
handshake_reason _ = None

-- the error of a response
abbrev pub answer_reason : AnswerError → Option (List ℕ)
answer_reason (answer.Transport e) = client_reason e
answer_reason (answer.Reader e) = read_reason e
answer_reason _ = None

-- the error of a pack's consumer; a failed write isn't the connection's
abbrev pub pack_reason : PackError → Option (List ℕ)
pack_reason (pack.Read e) = read_reason e
pack_reason _ = None

-- the error of a session's call
abbrev pub reason : Error → Option (List ℕ)
reason (Handshake e) = handshake_reason e
reason (Refs e) = refs_reason e
reason (Request e) = client_reason e
reason (Answer e) = answer_reason e
reason (Pack e) = pack_reason e
reason (Rest e) = read_reason e
reason UnterminatedRefs = Some (codes "expected flush after ref listing")
reason _ = None
