-- The state of a transport over a reader and a writer: all responses follow one another.
use Rattle.std.specs.Prelude.{◌≡◌, ℕ, ◌-◌, ◌*◌, ◌^◌, true, false, List, [], Option, None}
use Rattle.std.specs.Option.{option_map}
use Rattle.bstr.specs.Owned.{bstring_bytes}
use Rattle.gixp_transport.specs.declared.connection.Connection.{Connection}
use Rattle.gixp_packetline.specs.declared.protocol.Protocol.{Protocol}
use Rattle.gixp_packetline.specs.declared.protocol.Protocol.TheVariants.{V2}
use Rattle.gixp_packetline.specs.Pieces.{stream_pieces}
use Rattle.gixp_transport.specs.declared.service.Opening.{Opening}
use Rattle.gixp_packetline.specs.TransportState.{TransportState, Greeting}
use Rattle.gixp_packetline.specs.Reading.{Reading}
use Rattle.gixp_packetline.specs.Packets.{packets_reading}

-- the first message of the handshake, for this version
abbrev pub greeting_of : Protocol → Opening → Greeting
greeting_of version o = record { path = bstring_bytes o.path; host = option_map bstring_bytes o.host; version = version }

-- before the first call nothing was read, and the writer is unchanged
pub record IsNewConnection (known : Option (List ℕ)) (holds : Option (List ℕ)) (at : List ℕ) (asked : Protocol)
    (versions : List Protocol) (opening : Option Opening) (r : Reading) : Type 0 where
  pub to_come : r.to_come ≡ option_map stream_pieces known
  pub refused : r.refused ≡ None
  pub stopped : r.stopped ≡ None
  pub version : r.version ≡ V2
  pub peeked : r.peeked ≡ false
  pub failures : r.failures ≡ 0
  pub left : r.left ≡ (2 ^ 64 - 1) * 65520
  pub held : r.held ≡ record {
    persists = true;
    written = holds;
    sent = [];
    answers = [];
    broken = None;
    greeting = option_map (greeting_of asked) opening;
    url = at;
    accepted = versions;
    identity = None;
    names = [];
  }

module _ {R W : Type 0} where
  abbrev pub connection_held : (W → Option (List ℕ)) → Connection R W → TransportState
  connection_held contents c = record {
    persists = true;
    written = contents c.writer;
    sent = [];
    answers = [];
    broken = c.broken;
    greeting = option_map (greeting_of c.version) c.opening;
    url = bstring_bytes c.url;
    accepted = c.accepted.items;
    identity = None;
    names = [];
  }

  abbrev pub connection_reading : (R → Option (List ℕ)) → (W → Option (List ℕ)) → Connection R W → Reading
  connection_reading remaining contents c = record (packets_reading remaining c.packets) { held = connection_held contents c }

  abbrev pub connection_reader : Connection R W → R
  connection_reader c = c.packets.reader

  abbrev pub connection_writer : Connection R W → W
  connection_writer c = c.writer
