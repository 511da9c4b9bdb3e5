-- A consumer that reads once.
use Rattle.std.specs.Prelude.{◌≡◌, ℕ, List, [], take, Result, Ok, Err}
use Rattle.std.proofs.Common.{inl, inr}
use Rattle.std.specs.declared.io.Error.{Error as io_error}
use Rattle.gixp_packetline.specs.Reading.{Reading, AtStop, Fails}
use Rattle.gixp_packetline.specs.Pieces.{Refusal}
use Rattle.gixp_sidebands.specs.Bands.{Side, side_reading, ReadsContent}
use Rattle.gixp_fetch.specs.Receive.{ReadsOn}

stop_held : (old new : Reading) → AtStop old new → new.held ≡ old.held
stop_held old new (inl h) = h.stays.held
stop_held old new (inr h) = h.1.held

refusal_held : (old new : Reading) (e : Refusal) → Fails old new e → new.held ≡ old.held
refusal_held old new e (inl h) = h.held
refusal_held old new e (inr (inl h)) = h.stays.held
refusal_held old new e (inr (inr h)) = h.held

-- one read takes a part of the content, and changes nothing else of the transport
pub reads_on : (old new : Side) (r : Result ℕ io_error) (buf : List ℕ) → ReadsContent old new r buf
    → (read : List ℕ) × ReadsOn old new read × ((side_reading new).held ≡ (side_reading old).held)
reads_on old new (Ok n) buf (inl h) = (take n buf, record { content = h.0.content; ending = λ _. h.0.ending }, h.0.held)
reads_on old new (Ok n) buf (inr h) =
    ([], record { content = h.1.rest; ending = λ _. h.1.ending }, stop_held (side_reading old) (side_reading new) h.1.at_stop)
reads_on old new (Err e) buf h =
    (h.lost, record { content = h.rest; ending = h.ending }, refusal_held (side_reading old) (side_reading new) h.refusal h.fails)
