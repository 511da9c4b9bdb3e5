-- The first arguments of a session's fetch (gitprotocol-v2, "fetch"; gitprotocol-capabilities).
use Rattle.gixp_requests.specs.Arguments.{ArgumentsValue, asks_nothing}
use Rattle.gixp_handshake.specs.declared.handshake.read.Handshake.{Handshake}
use Rattle.gixp_fetch.specs.Fetched.{FetchCall, features}
use Rattle.gixp_fetch.specs.FetchShallow.{Asking}
use Rattle.gixp_fetch.specs.Prepare.{asks_tags}
use Rattle.gixp_client.specs.ClientCalls.{session_call}
use Rattle.gixp_client.specs.ClientNames.{named_by, id_features}
use Rattle.gixp_client.specs.declared.name.ClientName.{ClientName}
use Rattle.gixp_client.specs.declared.request.Request.{Request}

-- the call of a fetch by a client with this name
abbrev pub call_by : Handshake → ClientName → Request → FetchCall
call_by shaken name request = (session_call shaken (named_by name) (id_features shaken.capabilities name.session_id) request).fetch

-- the arguments before the tags
abbrev pub first_arguments : FetchCall → ArgumentsValue
first_arguments call = asks_nothing call.table call.version (features call)

-- the arguments with the tags, or the feature that the server lacks
abbrev pub tagged_arguments : FetchCall → Asking
tagged_arguments call = asks_tags call.tags (first_arguments call)
