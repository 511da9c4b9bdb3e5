-- The state of a reader of lines, and what its calls do to it (gitprotocol-common, "pkt-line Format"). A stop is a
-- flush packet, or under version 2 a delimiter packet.
use Rattle.std.specs.Prelude.{◌≡◌, ℕ, ◌+◌, ◌-◌, ◌*◌, ◌^◌, ◌<◌, ◌≤◌, min, ◌⊎◌, ⊤, Bool, true, false, List, [], ◌++◌, length, Option, Some, None, Result, Ok, Err, IfSome, IsSome}
use Rattle.std.specs.Borrow.{Bor}
use Rattle.std.specs.Option.{option_map}
use Rattle.std.specs.Str.{IsUtf8}
use Rattle.std.specs.declared.io.ErrorKind.{ErrorKind}
use Rattle.std.specs.declared.io.ErrorKind.TheVariants.{UnexpectedEof}
use Rattle.bstr.specs.Owned.{bstring_bytes}
use Rattle.gixp_packetline.specs.declared.protocol.Protocol.{Protocol}
use Rattle.gixp_packetline.specs.declared.protocol.Protocol.TheVariants.{V2}
use Rattle.gixp_packetline.specs.declared.protocol.MessageKind.{MessageKind}
use Rattle.gixp_packetline.specs.declared.read.Error.{Error}
use Rattle.gixp_packetline.specs.declared.read.Error.TheVariants.{Io, Decode, Server, UnexpectedFrame, NotUtf8, BadBand, Interrupted, Memory}
use Rattle.gixp_packetline.specs.Pieces.{Refusal, io, decode, server, unexpected_frame, not_utf8, bad_band, interrupted, memory, Pieces, no_pieces, stream_pieces}
use Rattle.gixp_packetline.specs.Lines.{gives, stops, refuses, next_of, Lines, lines_of, no_lines, stop}
use Rattle.gixp_packetline.specs.Items.{is_stop}
use Rattle.gixp_packetline.specs.TransportState.{TransportState, nothing_held}

-- the state of a reader of lines
pub record Reading : Type 0 where
  -- the packet lines to come, where the bytes are known
  pub to_come : Option Pieces
  -- the error that comes next, if it is already known; it is sticky
  pub refused : Option Refusal
  -- the stop that the reader is at
  pub stopped : Option MessageKind
  -- the version that decides which packets are stops
  pub version : Protocol
  -- the line that the reader lends
  pub line : List ℕ
  -- whether that line was only peeked at, and is still to come
  pub peeked : Bool
  -- the number of reads and writes that failed
  pub failures : ℕ
  -- an upper bound of the bytes of the lines to come, with one more for each line
  pub left : ℕ
  -- the state of the transport, which reading doesn't change
  pub held : TransportState

-- after the stop, if the reader was at one, under this version
abbrev pub reset_to : Protocol → Reading → Reading
reset_to version r = record r { stopped = None; version = version }

-- the lines before the next stop; none where the reader is at a stop
abbrev pub lines_from_stop : Option MessageKind → Protocol → Pieces → Lines
lines_from_stop (Some kind) version p = no_lines (stop kind p)
lines_from_stop None version p = lines_of version p

-- the lines that a reader returns next, from these packet lines
abbrev pub lines_ahead : Reading → Pieces → Lines
lines_ahead r p = lines_from_stop r.stopped r.version p

-- a reader of these bytes that has read nothing yet
pub record IsFresh (known : Option (List ℕ)) (r : Reading) : Type 0 where
  pub to_come : r.to_come ≡ option_map stream_pieces known
  pub refused : r.refused ≡ None
  pub stopped : r.stopped ≡ None
  pub version : r.version ≡ V2
  pub line : r.line ≡ []
  pub peeked : r.peeked ≡ false
  pub failures : r.failures ≡ 0
  -- a reader makes at most 2^64 - 1 reads, each of at most 65,520 bytes
  pub left : r.left ≡ (2 ^ 64 - 1) * 65520
  pub held : r.held ≡ nothing_held

-- an error, as contracts compare it
abbrev pub refusal_of : Error → Refusal
refusal_of (Io kind) = io kind
refusal_of (Decode e) = decode e
refusal_of (Server message) = server (bstring_bytes message)
refusal_of UnexpectedFrame = unexpected_frame
refusal_of NotUtf8 = not_utf8
refusal_of (BadBand band) = bad_band band
refusal_of Interrupted = interrupted
refusal_of Memory = memory

-- nothing was lost: only the failures, the bound and the lent line may have changed, and an error may be sticky now
pub record Stays (old new : Reading) : Type 0 where
  pub to_come : IfSome old.to_come (λ p. new.to_come ≡ Some p)
  pub refused : IfSome old.refused (λ e. new.refused ≡ Some e)
  pub stopped : new.stopped ≡ old.stopped
  pub version : new.version ≡ old.version
  pub unpeeked : old.peeked ≡ false
  pub peeked : new.peeked ≡ false
  pub left : new.left ≤ old.left
  pub held : new.held ≡ old.held

-- the call took the next line
pub record TakesLine (old new : Reading) : Type 0 where
  pub running : old.stopped ≡ None
  pub sound : old.refused ≡ None
  pub again : old.peeked ≡ true → new.line ≡ old.line
  pub next : IfSome old.to_come (λ p. (q : Pieces) × (new.to_come ≡ Some q) × (next_of old.version p ≡ gives new.line q))
  pub stopped : new.stopped ≡ None
  pub version : new.version ≡ old.version
  pub peeked : new.peeked ≡ false
  pub failures : new.failures ≡ old.failures
  pub left : length new.line + new.left < old.left
  pub held : new.held ≡ old.held

-- the call peeked at the next line
pub record ShowsLine (old new : Reading) : Type 0 where
  pub running : old.stopped ≡ None
  pub sound : old.refused ≡ None
  pub again : old.peeked ≡ true → new.line ≡ old.line
  pub next : IfSome old.to_come (λ p. (q : Pieces) × (new.to_come ≡ Some p) × (next_of old.version p ≡ gives new.line q))
  pub refused : new.refused ≡ None
  pub stopped : new.stopped ≡ None
  pub version : new.version ≡ old.version
  pub peeked : new.peeked ≡ true
  pub failures : new.failures ≡ old.failures
  pub left : new.left ≤ old.left
  pub room : length new.line < new.left
  pub held : new.held ≡ old.held

-- the call took the next stop
pub record TakesStop (old new : Reading) (kind : MessageKind) : Type 0 where
  pub running : old.stopped ≡ None
  pub sound : old.refused ≡ None
  pub unpeeked : old.peeked ≡ false
  pub is_stop : is_stop old.version kind ≡ true
  pub next : IfSome old.to_come (λ p. (q : Pieces) × (new.to_come ≡ Some q) × (next_of old.version p ≡ stops kind q))
  pub stopped : new.stopped ≡ Some kind
  pub version : new.version ≡ old.version
  pub peeked : new.peeked ≡ false
  pub failures : new.failures ≡ old.failures
  pub left : new.left ≤ old.left
  pub held : new.held ≡ old.held

-- the reader was at a stop before the call
pub record WasStopped (old new : Reading) : Type 0 where
  pub was : IsSome old.stopped
  pub stays : Stays old new
  pub failures : new.failures ≡ old.failures

-- the reader is at a stop after the call
abbrev pub AtStop : Reading → Reading → Type 0
AtStop old new = WasStopped old new ⊎ ((kind : MessageKind) × TakesStop old new kind)

-- the errors that every later call returns: those of the stream, its end included
abbrev pub IsLasting : Refusal → Type 0
IsLasting (io kind) = kind ≡ UnexpectedEof
IsLasting (decode e) = ⊤
IsLasting (server message) = ⊤
IsLasting unexpected_frame = ⊤
IsLasting (bad_band band) = ⊤
IsLasting _ = ⊥

-- the stream's next error, which every later call returns
pub record Refuses (old new : Reading) (e : Refusal) : Type 0 where
  pub running : old.stopped ≡ None
  pub lasting : IsLasting e
  pub unpeeked : old.peeked ≡ false
  pub same : IfSome old.refused (λ x. x ≡ e)
  pub next : IfSome old.to_come (λ p. (new.to_come ≡ Some (no_pieces e)) × (next_of old.version p ≡ refuses e))
  pub refused : new.refused ≡ Some e
  pub stopped : new.stopped ≡ None
  pub version : new.version ≡ old.version
  pub peeked : new.peeked ≡ false
  pub failures : new.failures ≡ old.failures
  pub left : new.left ≤ old.left
  pub held : new.held ≡ old.held

-- the count of failures rose by one, up to its greatest value
abbrev pub Rose : ℕ → ℕ → Type 0
Rose old new = new ≡ min (old + 1) (2 ^ 64 - 1)

-- whether an I/O error means the end of the stream
abbrev pub is_end : ErrorKind → Bool
is_end UnexpectedEof = true
is_end _ = false

-- the errors that may come at any time and lose nothing: an I/O error, an interrupt, an allocation failure. The first
-- two never replace a sticky error.
abbrev pub IsFault : Reading → Reading → Refusal → Type 0
IsFault old new (io kind) = (is_end kind ≡ false) × (old.refused ≡ None) × Rose old.failures new.failures
IsFault old new memory = new.failures ≡ old.failures
IsFault old new interrupted = (old.refused ≡ None) × (new.failures ≡ old.failures)
IsFault old new _ = ⊥

-- an error of this kind lost nothing
pub record Faults (old new : Reading) (e : Refusal) : Type 0 where
  pub running : old.stopped ≡ None
  pub fault : IsFault old new e
  pub stays : Stays old new

-- a read failed with `UnexpectedEof`: the stream ends there, and every later call returns this error
pub record BreaksOff (old new : Reading) (e : Refusal) : Type 0 where
  pub running : old.stopped ≡ None
  pub sound : old.refused ≡ None
  pub unpeeked : old.peeked ≡ false
  pub refusal : e ≡ io UnexpectedEof
  pub to_come : new.to_come ≡ Some (no_pieces e)
  pub refused : new.refused ≡ Some e
  pub stopped : new.stopped ≡ None
  pub version : new.version ≡ old.version
  pub peeked : new.peeked ≡ false
  pub failures : Rose old.failures new.failures
  pub left : new.left ≤ old.left
  pub held : new.held ≡ old.held

-- an I/O error, an interrupt or an allocation failure
abbrev pub IsOutside : Reading → Reading → Refusal → Type 0
IsOutside old new e = Faults old new e ⊎ BreaksOff old new e

-- a call that returns an error
abbrev pub Fails : Reading → Reading → Refusal → Type 0
Fails old new e = Refuses old new e ⊎ IsOutside old new e

-- the errors of a plain reader: it reads no sidebands, calls no interrupt, and allocates only for the text of an `ERR ` line
abbrev pub IsPlain : Reading → Refusal → Type 0
IsPlain new memory = (message : List ℕ) × (new.refused ≡ Some (server message))
IsPlain new interrupted = ⊥
IsPlain new (bad_band band) = ⊥
IsPlain new _ = ⊤

-- a plain reader returns only these errors
abbrev pub PlainIf : {X : Type 0} → Bool → Reading → Result X Error → Type 0
PlainIf plain new (Ok x) = ⊤
PlainIf plain new (Err e) = plain ≡ true → IsPlain new (refusal_of e)

-- the same for a call that appends a line as text; it may also lack memory for the text, and then the line is still to come
abbrev pub PlainText : {X : Type 0} → Bool → Reading → Reading → Result X Error → Type 0
PlainText plain old new (Ok x) = ⊤
PlainText plain old new (Err Memory) = plain ≡ true → IsPlain new memory ⊎ ShowsLine old new
PlainText plain old new (Err e) = plain ≡ true → IsPlain new (refusal_of e)

-- whether an interrupt ended the call
abbrev pub is_interrupted : {X : Type 0} → Result X Error → Bool
is_interrupted (Err Interrupted) = true
is_interrupted _ = false

-- a call that takes the next line (true) or is at a stop (false)
abbrev pub Reads : Reading → Reading → Result Bool Error → Type 0
Reads old new (Ok true) = TakesLine old new
Reads old new (Ok false) = AtStop old new
Reads old new (Err e) = Fails old new (refusal_of e)

-- a call that peeks at the next line (true) or is at a stop (false)
abbrev pub Peeks : Reading → Reading → Result Bool Error → Type 0
Peeks old new (Ok true) = ShowsLine old new
Peeks old new (Ok false) = AtStop old new
Peeks old new (Err e) = Fails old new (refusal_of e)

-- a call that takes the next line and lends it
abbrev pub ReadsLent : Reading → Reading → Result (Option (Bor (List ℕ))) Error → Type 0
ReadsLent old new (Ok (Some text)) = TakesLine old new × (text.now ≡ new.line)
ReadsLent old new (Ok None) = AtStop old new
ReadsLent old new (Err e) = Fails old new (refusal_of e)

-- a call that peeks at the next line and lends it
abbrev pub PeeksLent : Reading → Reading → Result (Option (Bor (List ℕ))) Error → Type 0
PeeksLent old new (Ok (Some text)) = ShowsLine old new × (text.now ≡ new.line)
PeeksLent old new (Ok None) = AtStop old new
PeeksLent old new (Err e) = Fails old new (refusal_of e)

-- the next line is UTF-8; it was taken and appended
pub record TakesText (old new : Reading) (before after : List ℕ) (n : ℕ) : Type 0 where
  pub takes : TakesLine old new
  pub count : n ≡ length new.line
  pub is_text : IsUtf8 new.line
  pub appended : after ≡ before ++ new.line

-- a call that appends the next line as text: 0 at a stop; a line that isn't UTF-8 is taken; each error leaves the text as it was
abbrev pub ReadsText : Reading → Reading → List ℕ → List ℕ → Result ℕ Error → Type 0
ReadsText old new before after (Ok n) = TakesText old new before after n ⊎ ((n ≡ 0) × AtStop old new × (after ≡ before))
ReadsText old new before after (Err Memory) = (Fails old new memory ⊎ ShowsLine old new) × (after ≡ before)
ReadsText old new before after (Err NotUtf8) = TakesLine old new × (IsUtf8 new.line → ⊥) × (after ≡ before)
ReadsText old new before after (Err e) = Fails old new (refusal_of e) × (after ≡ before)
