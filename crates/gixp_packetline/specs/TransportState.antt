-- The state of a transport besides the lines to come: the requests written, and the responses to later requests
-- (gitprotocol-pack, "Packfile Negotiation"; gitprotocol-v2, "Command Request").
use Rattle.std.specs.Prelude.{ℕ, Bool, true, List, [], Option, None}
use Rattle.std.specs.Borrow.{GName}
use Rattle.std.specs.declared.io.ErrorKind.{ErrorKind}
use Rattle.gixp_packetline.specs.declared.protocol.Protocol.{Protocol}
use Rattle.gixp_packetline.specs.Pieces.{Pieces}

-- the response to one handshake or request: the packet lines that are read, or the I/O error of the call that reads it
pub data Answer : Type 0 where
  body : Pieces → Answer
  fails : ErrorKind → Answer

-- what a handshake writes first: the path, the host, and the requested version
pub record Greeting : Type 0 where
  pub path : List ℕ
  pub host : Option (List ℕ)
  pub version : Protocol

-- the state that no reading call changes
pub record TransportState : Type 0 where
  -- whether all responses follow one another on one connection
  pub persists : Bool
  -- the bytes written, where they are known: of all requests on one connection, else of the unfinished request
  pub written : Option (List ℕ)
  -- the finished requests, where each has its own response
  pub sent : List (List ℕ)
  -- the responses to later handshakes and requests, where each has its own
  pub answers : List Answer
  -- the error of a failed write, which every later request returns
  pub broken : Option ErrorKind
  -- the first message of the handshake
  pub greeting : Option Greeting
  -- the URL of the server, as the caller gave it
  pub url : List ℕ
  -- the accepted protocol versions; an empty list accepts all
  pub accepted : List Protocol
  -- the name and password that the caller set
  pub identity : Option (List ℕ × List ℕ)
  -- the ghost names of the borrows through which it is reached
  pub names : List GName

-- the state of a reader that writes nothing
abbrev pub nothing_held : TransportState
nothing_held = record {
  persists = true;
  written = None;
  sent = [];
  answers = [];
  broken = None;
  greeting = None;
  url = [];
  accepted = [];
  identity = None;
  names = [];
}
