-- The client's agent in each request, and its session id in each fetch request (gitprotocol-v2, "agent", "session-id";
-- gitprotocol-capabilities, "agent", "session-id").
use Rattle.std.specs.Prelude.{◌≡◌, ℕ, ◌&&◌, Bool, if◌then◌else◌, nat_lt, List, [], ◌∷◌, codes, length, Option, Some, None, String, string_bytes}
use Rattle.std.specs.Char.{is_ascii_graphic}
use Rattle.std.specs.List.{list_all}
use Rattle.std.specs.declared.alloc.Global.{Global}
use Rattle.gixp_capabilities.specs.Capabilities.{CapabilityValue, has_named}
use Rattle.gixp_requests.specs.Feature.{FeatureValue}
use Rattle.gixp_requests.specs.Command.{agent_feature}
use Rattle.gixp_client.specs.declared.name.ClientName.{ClientName}
use Rattle.gixp_client.specs.declared.name.SentName.{SentName}

-- a session id: printable ASCII characters, without a blank
abbrev pub is_session_id : List ℕ → Bool
is_session_id text = nat_lt 0 (length text) && list_all is_ascii_graphic text

-- the feature `agent` with this value
abbrev pub agent_of : String Global → FeatureValue
agent_of text = record { name = codes "agent"; value = Some (string_bytes text) }

-- the feature `session-id`, if there is an id
abbrev pub own_features : Option (String Global) → List FeatureValue
own_features None = []
own_features (Some id) = record { name = codes "session-id"; value = Some (string_bytes id) } ∷ []

-- the same, if the server has the capability `session-id`
abbrev pub id_features : List CapabilityValue → Option (String Global) → List FeatureValue
id_features caps id = if has_named (codes "session-id") caps then own_features id else []

-- the feature `agent` of a client
abbrev pub client_feature : List ℕ → FeatureValue
client_feature = agent_feature

abbrev pub named_by : ClientName → FeatureValue
named_by name = client_feature (string_bytes name.agent)

-- the values of the features in fetch requests to a server with these capabilities
abbrev pub NamesItself : ClientName → List CapabilityValue → SentName → Type 0
NamesItself name caps sent = (agent_of sent.agent ≡ named_by name) × (own_features sent.session_id ≡ id_features caps name.session_id)
