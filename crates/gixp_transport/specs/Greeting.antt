-- The first message of a client on a connection, git-proto-request (gitprotocol-pack, "Git Transport" and "Extra Parameters").
use Rattle.std.specs.Prelude.{ℕ, Bool, true, nat_le, List, [], ◌∷◌, ◌++◌, length, map, flat_map, codes, Option, Some, None, String, string_bytes}
use Rattle.std.specs.Option.{option_map}
use Rattle.std.specs.declared.alloc.Global.{Global}
use Rattle.gixp_packetline.specs.declared.protocol.Protocol.{Protocol}
use Rattle.gixp_packetline.specs.declared.protocol.Protocol.TheVariants.{V0, V1, V2}
use Rattle.gixp_transport.specs.declared.service.Service.{Service}
use Rattle.gixp_packetline.specs.Frames.{Frame, payload}
use Rattle.gixp_transport.specs.Message.{feature_line}
use Rattle.gixp_transport.specs.Service.{service_name}
use Rattle.gixp_packetline.specs.TransportState.{Greeting}

-- an extra parameter: a key, with or without a value
abbrev pub Parameter : Type 0
Parameter = List ℕ × Option (List ℕ)

-- the extra parameters of the caller
abbrev pub parameters_of : List (String Global × Option (String Global)) → List Parameter
parameters_of ps = map (λ (p : String Global × Option (String Global)). (string_bytes p.0, option_map string_bytes p.1)) ps

-- the extra parameter of the requested version; version 0 has none
abbrev pub version_parameters : Protocol → List Parameter
version_parameters V0 = []
version_parameters V1 = (codes "version", Some (codes "1")) ∷ []
version_parameters V2 = (codes "version", Some (codes "2")) ∷ []

abbrev pub host_text : Option (List ℕ) → List ℕ
host_text None = []
host_text (Some host) = codes "host=" ++ host ++ 0 ∷ []

-- a parameter as `key` or `key=value`, with a NUL after it
abbrev pub parameter_text : Parameter → List ℕ
parameter_text p = feature_line p.0 p.1 ++ 0 ∷ []

-- extra parameters come after one more NUL
abbrev pub parameters_text : List Parameter → List ℕ
parameters_text [] = []
parameters_text (p ∷ ps) = 0 ∷ flat_map parameter_text (p ∷ ps)

-- the service, the path, the host, and the extra parameters
abbrev pub greeting_text : Greeting → Service → List Parameter → List ℕ
greeting_text g service ps =
    service_name service ++ 32 ∷ g.path ++ 0 ∷ host_text g.host ++ parameters_text (version_parameters g.version ++ ps)

-- the message is one packet line; without a message there is none
abbrev pub greeting_frames : Option Greeting → Service → List Parameter → List Frame
greeting_frames None service ps = []
greeting_frames (Some g) service ps = payload (greeting_text g service ps) ∷ []

-- whether the message fits into a packet line
abbrev pub greeting_fits : Option Greeting → Service → List Parameter → Bool
greeting_fits None service ps = true
greeting_fits (Some g) service ps = nat_le (length (greeting_text g service ps)) 65516
