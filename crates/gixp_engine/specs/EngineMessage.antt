-- The server's message in an error of a session.
use Rattle.std.specs.Prelude.{ℕ, List, Option, None}
use Rattle.gixp_handshake.specs.HandshakeMessage.{handshake_message}
use Rattle.gixp_refmap.specs.MapMessage.{map_message}
use Rattle.gixp_fetch.specs.FetchMessage.{fetch_message}
use Rattle.gixp_engine.specs.declared.error.EngineError.{EngineError}
use Rattle.gixp_engine.specs.declared.error.EngineError.TheVariants.{Handshake, Refs, Fetch}

-- the message in the error of the handshake, of the ref map, or of the fetch; a consumer's error has none
abbrev pub engine_message : EngineError → Option (List ℕ)
engine_message (Handshake e) = handshake_message e
engine_message (Refs e) = map_message e
engine_message (Fetch e) = fetch_message (λ x. None) e
engine_message _ = None
