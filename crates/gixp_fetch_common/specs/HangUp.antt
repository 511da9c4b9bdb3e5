-- Whether a server ended the connection: a read or a write found the other end closed.
use Rattle.std.specs.Prelude.{Bool, true, false}
use Rattle.std.specs.declared.io.ErrorKind.{ErrorKind}
use Rattle.std.specs.declared.io.ErrorKind.TheVariants.{UnexpectedEof, BrokenPipe, ConnectionReset}
use Rattle.gix_protocol.specs.ClientErrorType.{Error as ClientError}
use Rattle.gix_protocol.specs.ClientErrorType.TheVariants as client
use Rattle.gix_protocol.specs.RefsError.{Error as ParseError}
use Rattle.gix_protocol.specs.RefsError.TheVariants as parse
use Rattle.gix_protocol.specs.HandshakeErrorType.{Error as ShakeError}
use Rattle.gix_protocol.specs.HandshakeErrorType.TheVariants as shake
use Rattle.gix_protocol.specs.AnswerErrorType.{Error as AnswerError}
use Rattle.gix_protocol.specs.AnswerErrorType.TheVariants as answer
use Rattle.gix_protocol.specs.SessionErrorType.{Error}
use Rattle.gix_protocol.specs.SessionErrorType.TheVariants.{Handshake, Refs, Request, Answer}

-- the kinds of a closed end that is read, and of one that is written
abbrev pub is_gone : ErrorKind → Bool
is_gone UnexpectedEof = true
is_gone BrokenPipe = true
is_gone ConnectionReset = true
is_gone _ = false

-- in a call of the transport
abbrev pub is_client_gone : ClientError → Bool
is_client_gone (client.Io kind) = is_gone kind
is_client_gone _ = false

-- within lines of refs
abbrev pub is_list_cut : ParseError → Bool
is_list_cut (parse.Io kind) = is_gone kind
is_list_cut _ = false

-- within a handshake
abbrev pub is_handshake_cut : ShakeError → Bool
is_handshake_cut (shake.Transport e) = is_client_gone e
is_handshake_cut (shake.ParseRefs e) = is_list_cut e
is_handshake_cut _ = false

-- within an answer
abbrev pub is_answer_cut : AnswerError → Bool
is_answer_cut (answer.Io kind) = is_gone kind
is_answer_cut (answer.Transport e) = is_client_gone e
is_answer_cut _ = false

-- before its answer was complete
abbrev pub is_hang_up : Error → Bool
is_hang_up (Handshake e) = is_handshake_cut e
is_hang_up (Refs e) = is_list_cut e
is_hang_up (Request e) = is_client_gone e
is_hang_up (Answer e) = is_answer_cut e
is_hang_up _ = false
