-- The state of a transport over memory: each handshake and each request has its own response.
use Rattle.std.specs.Prelude.{◌≡◌, ℕ, ◌-◌, ◌*◌, ◌^◌, false, List, [], map, reverse, Some, None, vec_items}
use Rattle.std.specs.Option.{option_map}
use Rattle.bstr.specs.Owned.{bstring_bytes}
use Rattle.std.specs.declared.io.ErrorKind.TheVariants.{UnexpectedEof}
use Rattle.gixp_transport.specs.declared.bodies.Body.{Body}
use Rattle.gixp_transport.specs.declared.bodies.Body.TheVariants.{Bytes, Fail}
use Rattle.gixp_transport.specs.declared.bodies.Bodies.{Bodies}
use Rattle.gixp_packetline.specs.Pieces.{io, no_pieces, stream_pieces}
use Rattle.gixp_packetline.specs.TransportState.{TransportState, Answer, body, fails}
use Rattle.gixp_packetline.specs.declared.protocol.Protocol.{Protocol}
use Rattle.gixp_packetline.specs.declared.protocol.Protocol.TheVariants.{V2}
use Rattle.gixp_transport.specs.Handshake.{account_value}
use Rattle.gixp_packetline.specs.Reading.{Reading}
use Rattle.gixp_packetline.specs.Packets.{packets_reading, memory_remaining}

-- a body as a response: its bytes as packet lines, or an error
abbrev pub answer_of : Body → Answer
answer_of (Bytes bytes) = body (stream_pieces bytes.items)
answer_of (Fail kind) = fails kind

abbrev pub bodies_held : Bodies → TransportState
bodies_held b = record {
  persists = false;
  written = Some b.request.items;
  sent = map vec_items b.sent.items;
  answers = map answer_of (reverse b.later.items);
  broken = None;
  greeting = None;
  url = bstring_bytes b.url;
  accepted = b.accepted.items;
  identity = option_map account_value b.identity;
  names = [];
}

abbrev pub bodies_reading : Bodies → Reading
bodies_reading b = record (packets_reading memory_remaining b.packets) { held = bodies_held b }

-- before the first handshake nothing is to come, and nothing was sent
pub record IsNewBodies (bodies : List Body) (at : List ℕ) (versions : List Protocol) (b : Bodies) : Type 0 where
  pub to_come : (bodies_reading b).to_come ≡ Some (no_pieces (io UnexpectedEof))
  pub refused : (bodies_reading b).refused ≡ None
  pub stopped : (bodies_reading b).stopped ≡ None
  pub version : (bodies_reading b).version ≡ V2
  pub peeked : (bodies_reading b).peeked ≡ false
  pub failures : (bodies_reading b).failures ≡ 0
  pub left : (bodies_reading b).left ≡ (2 ^ 64 - 1) * 65520
  pub sent : (bodies_reading b).held.sent ≡ []
  pub written : (bodies_reading b).held.written ≡ Some []
  pub answers : (bodies_reading b).held.answers ≡ map answer_of bodies
  pub url : (bodies_reading b).held.url ≡ at
  pub accepted : (bodies_reading b).held.accepted ≡ versions
  pub identity : (bodies_reading b).held.identity ≡ None
