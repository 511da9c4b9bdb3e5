-- The state of `Packets`, and the relations of the steps that read packet lines. `pending` are the bytes that were read
-- and not yet taken; the front is the front of these bytes.
use Rattle.std.specs.Prelude.{◌≡◌, ℕ, ◌+◌, ◌*◌, ◌<◌, ◌≤◌, ◌⊎◌, Bool, true, false, if◌then◌else◌, List, length, take, drop, Option, Some, None, Result, Ok, Err, Vec}
use Rattle.std.specs.declared.io.ErrorKind.{ErrorKind}
use Rattle.std.specs.Option.{option_map}
use Rattle.std.specs.Io.KnownBytes.{Keeps, prepend_known}
use Rattle.std.specs.declared.alloc.Global.{Global}
use Rattle.std.specs.Io.Cursor.{cursor_remaining}
use Rattle.std.specs.declared.io.impls.Cursor.{Cursor}
use Rattle.std.specs.declared.io.ErrorKind.TheVariants.{UnexpectedEof}
use Rattle.gixp_packetline.specs.declared.packet.Head.{Head}
use Rattle.gixp_packetline.specs.declared.packet.Head.TheVariants.{Partial, Bad, Special, Data}
use Rattle.gixp_packetline.specs.declared.protocol.MessageKind.{MessageKind}
use Rattle.gixp_packetline.specs.declared.read.Error.{Error}
use Rattle.gixp_packetline.specs.declared.read.Error.TheVariants.{Io}
use Rattle.gixp_packetline.specs.declared.packets.Packets.{Packets}
use Rattle.gixp_packetline.specs.declared.packets.Place.{Place}
use Rattle.gixp_packetline.specs.declared.packets.Place.TheVariants.{Open, Peeked, Stopped, Refused}
use Rattle.gixp_packetline.specs.Frames.{head_of}
use Rattle.gixp_packetline.specs.Pieces.{Refusal, io, decode, server, unexpected_frame, line, Pieces, no_pieces, with_piece, stream_pieces, is_error, error_message}
use Rattle.gixp_packetline.specs.TransportState.{nothing_held}
use Rattle.gixp_packetline.specs.Reading.{Reading, Rose, is_end}

-- the error of the packet line at the front, or of the end of the stream there
abbrev pub standing : Bool → Head → List ℕ → Option Refusal
standing ended Partial bytes = if ended then Some (io UnexpectedEof) else None
standing ended (Bad e) bytes = Some (decode e)
standing ended (Special kind) bytes = None
standing ended (Data size) bytes = let text = drop 4 (take size bytes) in if is_error text then Some (server (error_message text)) else None

-- an I/O error that doesn't end the stream
abbrev pub IsIo : Error → Type 0
IsIo (Io kind) = is_end kind ≡ false
IsIo _ = ⊥

abbrev pub is_peeked : Place → Bool
is_peeked Peeked = true
is_peeked _ = false

abbrev pub place_stop : Place → Option MessageKind
place_stop (Stopped kind) = Some kind
place_stop _ = None

-- the packet lines to come: a line that was peeked at comes first, and after an unexpected packet there are none
abbrev pub place_pieces : Place → List ℕ → Option Pieces → Option Pieces
place_pieces Open text ahead = ahead
place_pieces Peeked text ahead = option_map (with_piece (line text)) ahead
place_pieces (Stopped kind) text ahead = ahead
place_pieces Refused text ahead = Some (no_pieces unexpected_frame)

abbrev pub place_refusal : Place → Option Refusal → Option Refusal
place_refusal Open ahead = ahead
place_refusal Peeked ahead = None
place_refusal (Stopped kind) ahead = ahead
place_refusal Refused ahead = Some unexpected_frame

-- the bytes that remain in a cursor
abbrev pub memory_remaining : Cursor (Vec ℕ Global) → Option (List ℕ)
memory_remaining c = cursor_remaining (λ v. Some v.items) c

module _ {R : Type 0} where
  -- the bytes to come, where they are known
  abbrev pub known : (R → Option (List ℕ)) → Packets R → Option (List ℕ)
  known remaining p = if p.ended then Some p.window.pending else prepend_known p.window.pending (remaining p.reader)

  -- the error at the front of the buffer, if there is one
  abbrev pub stand : Packets R → Option Refusal
  stand p = standing p.ended (head_of p.window.pending) p.window.pending

  -- after a data packet of this size was taken: its payload is lent
  abbrev pub took : Packets R → ℕ → Packets R
  took p size = record p { window = record { pending = drop size p.window.pending; lent = drop 4 (take size p.window.pending) } }

  -- after a stop was taken
  abbrev pub stopped_by : Packets R → MessageKind → Packets R
  stopped_by p kind = record p { window = record { pending = drop 4 p.window.pending; lent = p.window.lent }; place = Stopped kind }

  -- after a line was peeked at
  abbrev pub peeked_at : Packets R → Packets R
  peeked_at p = record p { place = Peeked }

  -- an upper bound of the bytes to come: each read takes at most 65,520
  abbrev pub bytes_left : Packets R → ℕ
  bytes_left p = p.reads_left * 65520 + length p.window.pending

  -- the same for the lines to come, with one more for a line that was peeked at
  abbrev pub lines_left : Packets R → ℕ
  lines_left p = bytes_left p + (if is_peeked p.place then length p.window.lent + 1 else 0)

  -- the state of the reader of lines over these packets
  abbrev pub packets_reading : (R → Option (List ℕ)) → Packets R → Reading
  packets_reading remaining p = record {
    to_come = place_pieces p.place p.window.lent (option_map stream_pieces (known remaining p));
    refused = place_refusal p.place (stand p);
    stopped = place_stop p.place;
    version = p.version;
    line = p.window.lent;
    peeked = is_peeked p.place;
    failures = p.failures;
    left = lines_left p;
    held = nothing_held;
  }

  -- the reads that may still be made, plus the bytes pending; a read that returns bytes doesn't lower this sum
  abbrev pub reads_and_bytes : Packets R → ℕ
  reads_and_bytes p = p.reads_left + length p.window.pending

  -- a call made at most as many reads as bytes came, plus one that failed or found the end. A line takes four bytes and
  -- its payload from the sum, a stop four.
  abbrev pub Spends : Packets R → Packets R → Result Bool Error → Type 0
  Spends old new (Ok true) = reads_and_bytes old ≤ reads_and_bytes new + 4 + length new.window.lent
  Spends old new (Ok false) = reads_and_bytes old ≤ reads_and_bytes new + 4
  Spends old new (Err e) = reads_and_bytes old ≤ reads_and_bytes new + 1

  -- the result of a read was recorded: bytes change nothing, no bytes end the stream, an error is counted
  abbrev pub NotesRead : Packets R → Packets R → Result ℕ ErrorKind → Result (Unit {0}) Error → Type 0
  NotesRead old new (Ok n) r = (n ≡ 0 → (r ≡ Err (Io UnexpectedEof)) × (new ≡ record old { ended = true }))
      × (0 < n → (r ≡ Ok tt) × (new ≡ old))
  NotesRead old new (Err kind) r = (r ≡ Err (Io kind)) × Rose old.failures new.failures
      × (new ≡ record old { failures = new.failures; ended = is_end kind })

  -- no byte was lost; only the window, the reader, the count of failures and the reads left changed, and whether the stream ended
  pub record Kept (remaining : R → Option (List ℕ)) (old new : Packets R) : Type 0 where
    pub bytes : Keeps (known remaining old) (known remaining new)
    pub place : new.place ≡ old.place
    pub version : new.version ≡ old.version
    pub left : bytes_left new ≤ bytes_left old

  -- the read returned bytes
  pub record Filled (remaining : R → Option (List ℕ)) (old new : Packets R) : Type 0 where
    pub kept : Kept remaining old new
    pub longer : length old.window.pending < length new.window.pending
    pub bound : length new.window.pending ≤ 65520
    pub ended : new.ended ≡ old.ended
    pub failures : new.failures ≡ old.failures
    pub reads : reads_and_bytes old ≤ reads_and_bytes new

  -- the read found the end of the stream
  pub record Ended (remaining : R → Option (List ℕ)) (old new : Packets R) (e : Error) : Type 0 where
    pub kept : Kept remaining old new
    pub error : e ≡ Io UnexpectedEof
    pub front : head_of new.window.pending ≡ Partial
    pub ended : new.ended ≡ true
    pub failures : new.failures ≡ old.failures
    pub reads : reads_and_bytes old ≤ reads_and_bytes new + 1

  -- the read failed, but the stream goes on
  pub record Broke (remaining : R → Option (List ℕ)) (old new : Packets R) (e : Error) : Type 0 where
    pub kept : Kept remaining old new
    pub error : IsIo e
    pub front : head_of new.window.pending ≡ Partial
    pub was_open : old.ended ≡ false
    pub is_open : new.ended ≡ false
    pub failures : Rose old.failures new.failures
    pub reads : reads_and_bytes old ≤ reads_and_bytes new + 1

  -- the read failed with `UnexpectedEof`, which ends the stream
  pub record BrokeOff (old new : Packets R) (e : Error) : Type 0 where
    pub error : e ≡ Io UnexpectedEof
    pub front : head_of new.window.pending ≡ Partial
    pub was_open : old.ended ≡ false
    pub ended : new.ended ≡ true
    pub place : new.place ≡ old.place
    pub version : new.version ≡ old.version
    pub left : bytes_left new ≤ bytes_left old
    pub failures : Rose old.failures new.failures
    pub reads : reads_and_bytes old ≤ reads_and_bytes new + 1

  -- the outcome of one read
  abbrev pub Fills : {X : Type 0} → (R → Option (List ℕ)) → Packets R → Packets R → Result X Error → Type 0
  Fills remaining old new (Ok _) = Filled remaining old new
  Fills remaining old new (Err e) = Ended remaining old new e ⊎ Broke remaining old new e ⊎ BrokeOff old new e

  -- the head of the packet line at the front is known; either nothing changed, or it wasn't known before and the stream had not ended
  pub record Settled (remaining : R → Option (List ℕ)) (old new : Packets R) (head : Head) : Type 0 where
    pub kept : Kept remaining old new
    pub front : head ≡ head_of new.window.pending
    pub whole : head ≡ Partial → ⊥
    pub failures : new.failures ≡ old.failures
    pub reads : reads_and_bytes old ≤ reads_and_bytes new
    pub moved : (new ≡ old) ⊎ ((head_of old.window.pending ≡ Partial) × (old.ended ≡ false))

  -- the stream ended before a whole packet line; a call after that changes nothing
  pub record SettledEnd (remaining : R → Option (List ℕ)) (old new : Packets R) (e : Error) : Type 0 where
    pub ends : Ended remaining old new e
    pub front : head_of old.window.pending ≡ Partial
    pub same : old.ended ≡ true → new ≡ old

  -- a read failed before a whole packet line was there
  pub record SettledFault (remaining : R → Option (List ℕ)) (old new : Packets R) (e : Error) : Type 0 where
    pub breaks : Broke remaining old new e
    pub front : head_of old.window.pending ≡ Partial

  -- a read failed there with `UnexpectedEof`
  pub record SettledBreak (old new : Packets R) (e : Error) : Type 0 where
    pub breaks : BrokeOff old new e
    pub front : head_of old.window.pending ≡ Partial

  -- the head of the packet line at the front, or why it isn't known
  abbrev pub FillsHeader : (R → Option (List ℕ)) → Packets R → Packets R → Result Head Error → Type 0
  FillsHeader remaining old new (Ok head) = Settled remaining old new head
  FillsHeader remaining old new (Err e) = SettledEnd remaining old new e ⊎ SettledFault remaining old new e ⊎ SettledBreak old new e

  -- the reads so far, while the front has only part of a packet line
  pub record Settling (remaining : R → Option (List ℕ)) (old now : Packets R) : Type 0 where
    pub kept : Kept remaining old now
    pub ended : now.ended ≡ old.ended
    pub failures : now.failures ≡ old.failures
    pub reads : reads_and_bytes old ≤ reads_and_bytes now
    pub moved : (now ≡ old) ⊎ ((head_of old.window.pending ≡ Partial) × (old.ended ≡ false))
