-- The class of a session's error, for an exit status or to decide what to do next.
use Rattle.std.specs.Prelude.{if◌then◌else◌, is_some}
use Rattle.gixp_packetline.specs.declared.read.Error.{Error as ReadError}
use Rattle.gixp_packetline.specs.declared.read.Error.TheVariants as read
use Rattle.gixp_capabilities.specs.declared.client.Error.{Error as ClientError}
use Rattle.gixp_capabilities.specs.declared.client.Error.TheVariants as client
use Rattle.gixp_response.specs.declared.fetch.response.error.Error.{Error as AnswerError}
use Rattle.gixp_response.specs.declared.fetch.response.error.Error.TheVariants as answer
use Rattle.gixp_refs.specs.declared.handshake.refs.parse.Error.{Error as ParseError}
use Rattle.gixp_refs.specs.declared.handshake.refs.parse.Error.TheVariants as parse
use Rattle.gixp_handshake.specs.declared.handshake.error.Error.{Error as ShakeError}
use Rattle.gixp_handshake.specs.declared.handshake.error.Error.TheVariants as shake
use Rattle.gixp_graph.specs.declared.objects.ObjectError.{ObjectError}
use Rattle.gixp_graph.specs.declared.objects.ObjectError.TheVariants as objects
use Rattle.gixp_graph.specs.declared.refs.RefStoreError.{RefStoreError}
use Rattle.gixp_graph.specs.declared.refs.RefStoreError.TheVariants as refs
use Rattle.gixp_client.specs.declared.consumer.PackError.{PackError}
use Rattle.gixp_client.specs.declared.consumer.PackError.TheVariants as pack
use Rattle.gixp_client.specs.declared.class.ErrorClass.{ErrorClass}
use Rattle.gixp_client.specs.declared.class.ErrorClass.TheVariants.{Server, Connection, Protocol, Refused, Conflict, Local, Memory}
use Rattle.gixp_client.specs.declared.error.Error.{Error}
use Rattle.gixp_client.specs.declared.error.Error.TheVariants as failure
use Rattle.gixp_client.specs.ClientError.{message_in, kind_in}

-- the class of an error of the reader of packet lines
abbrev pub read_class : ReadError → ErrorClass
read_class (read.Io kind) = Connection
read_class read.Interrupted = Connection
read_class (read.Server message) = Server
read_class read.Memory = Memory
read_class _ = Protocol

-- the class of an error of a call to the server
abbrev pub client_class : ClientError → ErrorClass
client_class (client.Io kind) = Connection
client_class (client.Read e) = read_class e
client_class client.LineTooLong = Refused
client_class client.AuthenticationUnsupported = Refused
client_class client.Memory = Memory
client_class _ = Protocol

-- the class of an error of a list of refs
abbrev pub refs_class : ParseError → ErrorClass
refs_class (parse.Reader e) = read_class e
refs_class parse.Memory = Memory
refs_class _ = Protocol

-- the class of an error of a handshake; those that remain concern the account or a version that the transport doesn't accept
abbrev pub handshake_class : ShakeError → ErrorClass
handshake_class (shake.Transport e) = client_class e
handshake_class (shake.ParseRefs e) = refs_class e
handshake_class shake.Memory = Memory
handshake_class _ = Refused

-- the class of an error of a response to a fetch request
abbrev pub answer_class : AnswerError → ErrorClass
answer_class (answer.Transport e) = client_class e
answer_class (answer.Reader e) = read_class e
answer_class (answer.MissingServerCapability feature) = Refused
answer_class answer.Memory = Memory
answer_class _ = Protocol

-- the class of an error of a pack's consumer
abbrev pub pack_class : PackError → ErrorClass
pack_class (pack.Read e) = read_class e
pack_class (pack.Write kind) = Local
pack_class (pack.Refused why) = Refused

-- the class of an error of the repository's objects
abbrev pub object_class : ObjectError → ErrorClass
object_class objects.Memory = Memory
object_class _ = Local

-- the class of an error of the repository's refs
abbrev pub ref_class : RefStoreError → ErrorClass
ref_class refs.Memory = Memory
ref_class _ = Local

-- the class of an error that is neither reported by the server nor a failed read or write
abbrev pub rest_class : Error → ErrorClass
rest_class (failure.Handshake e) = handshake_class e
rest_class (failure.Refs e) = refs_class e
rest_class (failure.Request e) = client_class e
rest_class (failure.Answer e) = answer_class e
rest_class (failure.Pack e) = pack_class e
rest_class (failure.Rest e) = read_class e
rest_class (failure.Objects e) = object_class e
rest_class (failure.LocalRefs e) = ref_class e
rest_class (failure.Conflicts e) = Conflict
rest_class failure.Memory = Memory
rest_class failure.UnterminatedRefs = Protocol
rest_class (failure.Unnegotiated rounds) = Protocol
rest_class (failure.UnknownUnshallow id) = Protocol
rest_class (failure.Reported message) = Protocol
rest_class _ = Refused

-- a server message comes first, then a failed connection
abbrev pub class_of : Error → ErrorClass
class_of e = if is_some (message_in e) then Server else if is_some (kind_in e) then Connection else rest_class e
