-- The error of a session's call, by the error of the lower call.
use Rattle.std.specs.Prelude.{◌≡◌, ◌≢◌, ◌⊎◌, ℕ, ⊤, false, List, codes, Option, Some, None, String, string_bytes}
use Rattle.std.specs.declared.io.ErrorKind.{ErrorKind}
use Rattle.std.specs.declared.alloc.Global.{Global}
use Rattle.bstr.specs.Owned.{bstring_bytes}
use Rattle.gixp_packetline.specs.ServerMessage.{read_message}
use Rattle.gixp_packetline.specs.declared.read.Error.TheVariants as read
use Rattle.gixp_capabilities.specs.ClientMessage.{client_message}
use Rattle.gixp_capabilities.specs.declared.client.Error.{Error as ClientError}
use Rattle.gixp_capabilities.specs.declared.client.Error.TheVariants as client
use Rattle.gixp_response.specs.AnswerMessage.{answer_message}
use Rattle.gixp_response.specs.declared.fetch.response.error.Error.{Error as AnswerError}
use Rattle.gixp_response.specs.declared.fetch.response.error.Error.TheVariants as answer
use Rattle.gixp_refs.specs.RefsMessage.{refs_message}
use Rattle.gixp_refs.specs.declared.handshake.refs.parse.Error.{Error as ParseError}
use Rattle.gixp_refs.specs.declared.handshake.refs.parse.Error.TheVariants as parse
use Rattle.gixp_refmap.specs.declared.ls_refs.error.Error.{Error as ListError}
use Rattle.gixp_refmap.specs.declared.ls_refs.error.Error.TheVariants as list
use Rattle.gixp_refmap.specs.declared.refmap.init.Error.{Error as MapError}
use Rattle.gixp_refmap.specs.declared.refmap.init.Error.TheVariants as init
use Rattle.gixp_handshake.specs.HandshakeMessage.{handshake_message}
use Rattle.gixp_handshake.specs.declared.handshake.error.Error.{Error as ShakeError}
use Rattle.gixp_handshake.specs.declared.handshake.error.Error.TheVariants as shake
use Rattle.gixp_handshake.specs.declared.handshake.read.Handshake.{Handshake as ServerGreeting}
use Rattle.gixp_negotiate.specs.declared.negotiate.Error.{Error as NegotiateError}
use Rattle.gixp_negotiate.specs.declared.negotiate.Error.TheVariants as negotiation
use Rattle.gixp_client.specs.declared.consumer.PackError.{PackError}
use Rattle.gixp_client.specs.declared.consumer.PackError.TheVariants as pack
use Rattle.gixp_graph.specs.declared.objects.ObjectError.{ObjectError}
use Rattle.gixp_graph.specs.declared.objects.ObjectError.TheVariants as object
use Rattle.gixp_graph.specs.declared.refs.RefStoreError.{RefStoreError}
use Rattle.gixp_graph.specs.declared.refs.RefStoreError.TheVariants as refs
use Rattle.gixp_fetch.specs.declared.consume.copy.CopyError.{CopyError}
use Rattle.gixp_fetch.specs.declared.consume.copy.CopyError.TheVariants as copy
use Rattle.gixp_fetch.specs.declared.error.Error.{Error as FetchError}
use Rattle.gixp_fetch.specs.declared.error.Error.TheVariants as fetch
use Rattle.gixp_client.specs.declared.error.Error.{Error}
use Rattle.gixp_client.specs.declared.error.Error.TheVariants.{Handshake, Refs, UnsupportedListing, UnknownObjectFormat, Conflicts, Request, Answer, Unnegotiated, Objects, LocalRefs, MissingFeature, ShallowServer, Pack, Rest, Reported, Over, Memory}
use Rattle.gixp_client.specs.declared.request.Request.{Request as FetchRequest}
use Rattle.gixp_client.specs.declared.state.State.{State}
use Rattle.gixp_client.specs.declared.state.State.TheVariants.{AtStop}
use Rattle.gixp_client.specs.Filters.{offers_filter}

-- the server's message
abbrev pub message_in : Error → Option (List ℕ)
message_in (Handshake e) = handshake_message e
message_in (Refs e) = refs_message e
message_in (Request e) = client_message e
message_in (Answer e) = answer_message e
message_in (Pack (pack.Read e)) = read_message e
message_in (Rest e) = read_message e
message_in (Reported message) = Some (bstring_bytes message)
message_in _ = None

-- ---- failed reads and writes

-- the kind in an error of a call to the server
abbrev pub client_kind : ClientError → Option ErrorKind
client_kind (client.Io kind) = Some kind
client_kind (client.Read (read.Io kind)) = Some kind
client_kind _ = None

-- the kind in an error of the reader of refs
abbrev pub parse_kind : ParseError → Option ErrorKind
parse_kind (parse.Io kind) = Some kind
parse_kind _ = None

-- the kind in an error of the reader of responses
abbrev pub answer_kind : AnswerError → Option ErrorKind
answer_kind (answer.Io kind) = Some kind
answer_kind (answer.Transport e) = client_kind e
answer_kind _ = None

-- the kind in an error of a pack's consumer; a failed write of the consumer isn't the connection's
abbrev pub pack_kind : PackError → Option ErrorKind
pack_kind (pack.Read (read.Io kind)) = Some kind
pack_kind _ = None

-- the kind of the failed read or write
abbrev pub kind_in : Error → Option ErrorKind
kind_in (Handshake (shake.Transport e)) = client_kind e
kind_in (Handshake (shake.ParseRefs e)) = parse_kind e
kind_in (Refs e) = parse_kind e
kind_in (Request e) = client_kind e
kind_in (Answer e) = answer_kind e
kind_in (Pack e) = pack_kind e
kind_in (Rest (read.Io kind)) = Some kind
kind_in _ = None

-- the part of the session that failed
abbrev pub place_of : Error → List ℕ
place_of (Handshake (shake.ParseRefs e)) = codes "the list of refs"
place_of (Refs e) = codes "the list of refs"
place_of (Handshake _) = codes "the handshake"
place_of (Request e) = codes "a request"
place_of (Answer e) = codes "an answer"
place_of (Pack e) = codes "the pack"
place_of (Rest e) = codes "the data after the pack"
place_of _ = codes "the session"

-- ---- errors of the lower calls

-- the error of a failed handshake
abbrev pub of_shake : ShakeError → Error
of_shake shake.Memory = Memory
of_shake e = Handshake e

-- the error of a request that couldn't be sent
abbrev pub of_request : ClientError → Error
of_request client.Memory = Memory
of_request e = Request e

-- the error of a list of refs that couldn't be read
abbrev pub of_refs : ParseError → Error
of_refs parse.Memory = Memory
of_refs e = Refs e

-- the error of `ls-refs`
abbrev pub of_list : ListError → Error
of_list (list.Io kind) = Request (client.Io kind)
of_list (list.Transport e) = of_request e
of_list (list.Parse e) = of_refs e
of_list (list.ArgumentValidation e) = UnsupportedListing
of_list list.Memory = Memory

-- the error of a ref map
abbrev pub of_init : MapError → Error
of_init (init.UnknownObjectFormat format) = UnknownObjectFormat format
of_init (init.MappingValidation e) = Conflicts e
of_init (init.ListRefs e) = of_list e
of_init init.Memory = Memory

-- the error of a failed read of an object, and of the refs of the repository
abbrev pub of_object : ObjectError → Error
of_object object.Memory = Memory
of_object e = Objects e

abbrev pub of_ref_store : RefStoreError → Error
of_ref_store refs.Memory = Memory
of_ref_store e = LocalRefs e

-- the error of a negotiation
abbrev pub of_negotiation : {A : Type 0} → NegotiateError A → Error
of_negotiation (negotiation.NegotiationFailed rounds) = Unnegotiated rounds
of_negotiation (negotiation.LookupCommitInGraph e) = Objects e
of_negotiation negotiation.OpenPackedRefsBuffer = LocalRefs refs.OpenPackedRefsBuffer
of_negotiation (negotiation.IO kind) = LocalRefs (refs.Io kind)
of_negotiation negotiation.InitRefIter = LocalRefs refs.Iter
of_negotiation negotiation.PeelToId = LocalRefs refs.Peel
of_negotiation (negotiation.AlternateRefsAndObjects e) = LocalRefs refs.Iter
of_negotiation negotiation.Memory = Memory

-- the error of a consumer that copies the pack
abbrev pub of_copy : CopyError → PackError
of_copy (copy.Read e) = pack.Read e
of_copy (copy.Write kind) = pack.Write kind

-- the error of a pack's consumer
abbrev pub of_refused_pack : PackError → Error
of_refused_pack (pack.Read read.Memory) = Memory
of_refused_pack e = Pack e

-- the server doesn't offer this feature, or an allocation failed
abbrev pub NamesMissing : List ℕ → Error → Type 0
NamesMissing feature e = ((text : String Global) × (string_bytes text ≡ feature) × (e ≡ MissingFeature text)) ⊎ (e ≡ Memory)

-- the error of a failed fetch; a consumer's error is converted as its type says
abbrev pub IsReportOf : {A X : Type 0} → (X → Error → Type 0) → FetchError A X → Error → Type 0
IsReportOf converts (fetch.FetchResponse x) e = e ≡ Answer x
IsReportOf converts (fetch.Negotiate x) e = e ≡ of_negotiation x
IsReportOf converts (fetch.Client x) e = e ≡ of_request x
IsReportOf converts (fetch.MissingServerFeature feature description) e = NamesMissing feature.now e
IsReportOf converts (fetch.WriteShallowFile x) e = e ≡ Memory
IsReportOf converts (fetch.ReadShallowFile x) e = e ≡ Memory
IsReportOf converts (fetch.LockShallowFile x) e = e ≡ Memory
IsReportOf converts fetch.RejectShallowRemote e = e ≡ ShallowServer
IsReportOf converts (fetch.ConsumePack x) e = converts x e
IsReportOf converts (fetch.ReadRemainingBytes x) e = e ≡ Rest x
IsReportOf converts fetch.Memory e = e ≡ Memory

-- the error of a fetch that failed before anything was sent, in this state of the session: the session is over; or the request has a
-- filter, which the server doesn't offer; or the repository, whose objects the request doesn't trust, couldn't be read; or an
-- allocation failed
abbrev pub IsUnsent : State → FetchRequest → ServerGreeting → Error → Type 0
IsUnsent state request shaken Over = state ≢ AtStop
IsUnsent state request shaken (MissingFeature feature) =
    (string_bytes feature ≡ codes "filter") × (request.filter ≢ None) × (offers_filter shaken ≡ false)
IsUnsent state request shaken (Objects e) = request.trusts_objects ≡ false
IsUnsent state request shaken (LocalRefs e) = request.trusts_objects ≡ false
IsUnsent state request shaken Memory = ⊤
IsUnsent state request shaken _ = ⊥
