-- The number of each error of a session, as in the header.
use Rattle.std.specs.Prelude.{ℕ}
use Rattle.std.specs.declared.alloc.AllocError.{AllocError}
use Rattle.std.specs.declared.io.ErrorKind.{ErrorKind}
use Rattle.std.specs.declared.io.ErrorKind.TheVariants.{UnexpectedEof}
use Rattle.gixp_capabilities.specs.declared.client.Error.{Error as ClientError}
use Rattle.gixp_capabilities.specs.declared.client.Error.TheVariants as client
use Rattle.gixp_refs.specs.declared.handshake.refs.parse.Error.{Error as RefError}
use Rattle.gixp_refs.specs.declared.handshake.refs.parse.Error.TheVariants as parse
use Rattle.gixp_response.specs.declared.fetch.response.error.Error.{Error as AnswerError}
use Rattle.gixp_response.specs.declared.fetch.response.error.Error.TheVariants as answer
use Rattle.gixp_refmap.specs.declared.ls_refs.error.Error.{Error as ListError}
use Rattle.gixp_refmap.specs.declared.ls_refs.error.Error.TheVariants as list
use Rattle.gixp_refmap.specs.declared.refmap.init.Error.{Error as MapError}
use Rattle.gixp_refmap.specs.declared.refmap.init.Error.TheVariants as map
use Rattle.gixp_handshake.specs.declared.handshake.error.Error.{Error as HandshakeError}
use Rattle.gixp_handshake.specs.declared.handshake.error.Error.TheVariants as shake
use Rattle.gixp_fetch.specs.declared.error.Error.{Error as FetchError}
use Rattle.gixp_fetch.specs.declared.error.Error.TheVariants as fetch
use Rattle.gixp_engine.specs.declared.consumer.Left.{Left}
use Rattle.gixp_engine.specs.declared.error.EngineError.{EngineError}
use Rattle.gixp_engine.specs.declared.error.EngineError.TheVariants as engine
use Rattle.gixp_calls.specs.Codes.{packet_code, spec_code}

-- a premature end of the bytes always has the same number
abbrev pub cut_or : ErrorKind → ℕ → ℕ
cut_or UnexpectedEof code = 10
cut_or _ code = code

abbrev pub client_code : ClientError → ℕ → ℕ
client_code (client.Io kind) code = cut_or kind code
client_code _ code = code

abbrev pub ref_code : RefError → ℕ → ℕ
ref_code (parse.Io kind) code = cut_or kind code
ref_code _ code = code

abbrev pub list_code : ListError → ℕ
list_code (list.Io kind) = cut_or kind 52
list_code (list.Transport e) = client_code e 52
list_code (list.Parse e) = ref_code e 52
list_code _ = 52

abbrev pub answer_code : AnswerError → ℕ
answer_code (answer.Io kind) = cut_or kind 60
answer_code (answer.Transport e) = client_code e 60
answer_code _ = 60

abbrev pub handshake_code : HandshakeError → ℕ
handshake_code (shake.Credentials e) = 40
handshake_code shake.EmptyCredentials = 41
handshake_code (shake.InvalidCredentials url) = 42
handshake_code (shake.Transport e) = client_code e 43
handshake_code (shake.TransportProtocolPolicyViolation version) = 44
handshake_code (shake.ParseRefs e) = ref_code e 45
handshake_code shake.Memory = 4

abbrev pub map_code : MapError → ℕ
map_code (map.UnknownObjectFormat format) = 50
map_code (map.MappingValidation e) = 51
map_code (map.ListRefs e) = list_code e
map_code map.Memory = 4

abbrev pub fetch_code : FetchError AllocError Left → ℕ
fetch_code (fetch.FetchResponse e) = answer_code e
fetch_code (fetch.Negotiate e) = 61
fetch_code (fetch.Client e) = client_code e 62
fetch_code (fetch.MissingServerFeature feature description) = 63
fetch_code (fetch.WriteShallowFile e) = 64
fetch_code (fetch.ReadShallowFile e) = 65
fetch_code (fetch.LockShallowFile e) = 66
fetch_code fetch.RejectShallowRemote = 67
fetch_code (fetch.ConsumePack e) = 68
fetch_code (fetch.ReadRemainingBytes e) = 69
fetch_code fetch.Memory = 4

abbrev pub engine_code : EngineError → ℕ
engine_code engine.Lengths = 3
engine_code engine.Memory = 4
engine_code engine.NoAnswer = 30
engine_code engine.TooManyAnswers = 31
engine_code (engine.Spec e) = spec_code e
engine_code engine.NoFilters = 70
engine_code engine.Filter = 80
engine_code engine.Name = 81
engine_code engine.Limit = 82
engine_code (engine.Handshake e) = handshake_code e
engine_code (engine.Refs e) = map_code e
engine_code engine.UnterminatedRefs = 53
engine_code engine.UnsupportedRefName = 21
engine_code (engine.Fetch e) = fetch_code e
engine_code (engine.Pack e) = packet_code e
