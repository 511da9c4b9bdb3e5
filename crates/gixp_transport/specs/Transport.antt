-- The calls of a transport (gitprotocol-pack, "Packfile Negotiation"; gitprotocol-v2, "Command Request"). A transport
-- persists if all requests use one connection.
use Rattle.std.specs.Prelude.{◌≡◌, ℕ, ◌≤◌, Bool, true, false, if◌then◌else◌, List, [], ◌∷◌, ◌++◌, Option, Some, None, Result, Ok, Err, IfSome, unwrap_or}
use Rattle.std.specs.Io.KnownBytes.{Appends, Keeps}
use Rattle.std.specs.declared.io.ErrorKind.{ErrorKind}
use Rattle.std.specs.declared.io.ErrorKind.TheVariants.{UnexpectedEof}
use Rattle.gixp_capabilities.specs.declared.client.Error.{Error}
use Rattle.gixp_capabilities.specs.declared.client.Error.TheVariants.{Io, LineTooLong, Memory}
use Rattle.gixp_packetline.specs.Pieces.{io, Pieces, no_pieces}
use Rattle.gixp_packetline.specs.TransportState.{Answer, body, fails}
use Rattle.gixp_packetline.specs.Reading.{Reading, Rose}

-- the state with these bytes written
abbrev pub with_written : Reading → Option (List ℕ) → Reading
with_written r bytes = record r { held = record r.held { written = bytes } }

-- the state in which nothing of the next request is written
abbrev pub begun : Reading → Reading
begun r = if r.held.persists then r else with_written r (Some [])

-- these bytes were written, and nothing else changed
pub record Wrote (old new : Reading) (bytes : List ℕ) : Type 0 where
  pub whole : old.held.broken ≡ None
  pub written : Appends old.held.written new.held.written bytes
  pub rest : new ≡ with_written old new.held.written

-- a write failed, in this call or before: it is unknown which bytes were sent, and every later request returns this error
pub record WriteBroke (old new : Reading) (kind : ErrorKind) : Type 0 where
  pub persists : old.held.persists ≡ true
  pub same : IfSome old.held.broken (λ k. kind ≡ k)
  pub failures : Rose old.failures new.failures
  pub rest : new ≡ record old { failures = new.failures; held = record old.held { written = new.held.written; broken = Some kind } }

-- a write failed with this error, which every later request returns
pub record IsBroken (old new : Reading) (kind : ErrorKind) (e : Error) : Type 0 where
  pub error : e ≡ Io kind
  pub failures : Rose old.failures new.failures
  pub rest : new ≡ record old { failures = new.failures; held = record old.held { broken = Some kind } }

-- an allocation failed, and nothing changed
pub record Unwritten (old new : Reading) : Type 0 where
  pub alone : old.held.persists ≡ false
  pub rest : new ≡ old

-- a call that begins a request
abbrev pub Begins : Reading → Reading → Result (Unit {0}) Error → Type 0
Begins old new (Ok _) = (old.held.broken ≡ None) × (new ≡ begun old)
Begins old new (Err (Io kind)) = WriteBroke old new kind
Begins old new (Err _) = ⊥

-- a call that writes these bytes
abbrev pub Writes : Reading → Reading → List ℕ → Result (Unit {0}) Error → Type 0
Writes old new bytes (Ok _) = Wrote old new bytes
Writes old new bytes (Err (Io kind)) = WriteBroke old new kind
Writes old new bytes (Err Memory) = Unwritten old new
Writes old new bytes (Err _) = ⊥

-- some bytes of an unfinished request may have been written
pub record Unfinished (old new : Reading) : Type 0 where
  pub alone : old.held.persists ≡ false
  pub rest : new ≡ with_written old new.held.written

-- several calls that write these bytes
abbrev pub WritesAll : Reading → Reading → List ℕ → Result (Unit {0}) Error → Type 0
WritesAll old new bytes (Ok _) = Wrote old new bytes
WritesAll old new bytes (Err (Io kind)) = WriteBroke old new kind
WritesAll old new bytes (Err Memory) = Unfinished old new
WritesAll old new bytes (Err _) = ⊥

-- the next response; an empty one where there are no more
abbrev pub first_answer : List Answer → Answer
first_answer [] = body (no_pieces (io UnexpectedEof))
first_answer (a ∷ more) = a

abbrev pub later_answers : List Answer → List Answer
later_answers [] = []
later_answers (a ∷ more) = more

-- the packet lines of a response; a failing one has none
abbrev pub answer_pieces : Answer → Pieces
answer_pieces (body p) = p
answer_pieces (fails kind) = no_pieces (io UnexpectedEof)

-- the I/O error of a failing response
abbrev pub answer_failure : Answer → Option ErrorKind
answer_failure (body p) = None
answer_failure (fails kind) = Some kind

-- the next response was taken, and the rest of the previous one dropped
pub record TakesAnswer (old new : Reading) : Type 0 where
  pub to_come : new.to_come ≡ Some (answer_pieces (first_answer old.held.answers))
  pub refused : new.refused ≡ None
  pub stopped : new.stopped ≡ None
  pub version : new.version ≡ old.version
  pub peeked : new.peeked ≡ false
  pub left : new.left ≤ old.left
  pub held : new.held ≡ record old.held { answers = later_answers old.held.answers }

-- the result of the call that takes the response: its I/O error, if it is a failing one
abbrev pub ByAnswer : Reading → Reading → Option ErrorKind → Type 0
ByAnswer old new None = (answer_failure (first_answer old.held.answers) ≡ None) × (new.failures ≡ old.failures)
ByAnswer old new (Some kind) = (answer_failure (first_answer old.held.answers) ≡ Some kind) × Rose old.failures new.failures

-- a call that takes the next response
abbrev pub TakesBody : Reading → Reading → Result (Unit {0}) Error → Type 0
TakesBody old new (Ok _) = TakesAnswer old new × ByAnswer old new None
TakesBody old new (Err (Io kind)) = TakesAnswer old new × ByAnswer old new (Some kind)
TakesBody old new (Err _) = ⊥

-- the written request was added to the finished ones
abbrev pub entered : Reading → Reading
entered r = record r { held = record r.held { sent = r.held.sent ++ unwrap_or r.held.written [] ∷ []; written = Some [] } }

-- the response follows what was read before
pub record GoesOn (old new : Reading) : Type 0 where
  pub whole : old.held.broken ≡ None
  pub written : Keeps old.held.written new.held.written
  pub rest : new ≡ record old { stopped = None; held = record old.held { written = new.held.written } }

-- a call that ends a request, with one connection or without
abbrev pub EndsBy : Bool → Reading → Reading → Result (Unit {0}) Error → Type 0
EndsBy true old new (Ok _) = GoesOn old new
EndsBy true old new (Err (Io kind)) = WriteBroke old new kind
EndsBy false old new (Ok _) = TakesAnswer (entered old) new × ByAnswer old new None
EndsBy false old new (Err (Io kind)) = TakesAnswer (entered old) new × ByAnswer old new (Some kind)
EndsBy false old new (Err Memory) = new ≡ old
EndsBy _ old new (Err _) = ⊥

abbrev pub Ends : Reading → Reading → Result (Unit {0}) Error → Type 0
Ends old new r = EndsBy old.held.persists old new r

-- a request of these bytes was sent; its response follows what was read before, or is the next one
abbrev pub SentBy : Bool → Reading → Reading → List ℕ → Type 0
SentBy true old new bytes = (mid : Reading) × Wrote old mid bytes × GoesOn mid new
SentBy false old new bytes = TakesAnswer (entered (with_written old (Some bytes))) new × ByAnswer old new None

-- the request wasn't sent; on one connection nothing was written
abbrev pub Unsent : Reading → Reading → Type 0
Unsent old new = (new ≡ with_written old new.held.written) × (old.held.persists ≡ true → new ≡ old)

-- the request failed: on one connection it is unknown which bytes were sent; otherwise its response is a failing one
abbrev pub FailsBy : Bool → Reading → Reading → List ℕ → ErrorKind → Type 0
FailsBy true old new bytes kind = WriteBroke old new kind
FailsBy false old new bytes kind = TakesAnswer (entered (with_written old (Some bytes))) new × ByAnswer old new (Some kind)

-- a call that sends a request of these bytes; it fails before anything is written where a line is too long
abbrev pub Sends : Reading → Reading → Bool → List ℕ → Result (Unit {0}) Error → Type 0
Sends old new fit bytes (Ok _) = (fit ≡ true) × SentBy old.held.persists old new bytes
Sends old new fit bytes (Err (Io kind)) = (fit ≡ true) × FailsBy old.held.persists old new bytes kind
Sends old new fit bytes (Err LineTooLong) = (fit ≡ false) × (new ≡ old)
Sends old new fit bytes (Err Memory) = Unsent old new
Sends old new fit bytes (Err _) = ⊥
