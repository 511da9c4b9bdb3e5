-- Consumers that copy a pack, or drop it (gitprotocol-pack, "Packfile Data").
use Rattle.std.specs.Prelude.{◌≡◌, ℕ, Bool, true, List, ◌++◌, Option, None, IfSome, IsSome, Result, Ok, Err}
use Rattle.std.specs.Io.KnownBytes.{Appends}
use Rattle.std.specs.declared.io.Error.{Error as io_error}
use Rattle.gixp_packetline.specs.Pieces.{Refusal}
use Rattle.gixp_packetline.specs.Reading.{refusal_of}
use Rattle.gixp_sidebands.specs.Bands.{Side, IsFirstOf, side_content, side_reading, Passes, KeepsEnd, ShowsContent, RefusesContent}
use Rattle.gixp_fetch.specs.declared.consume.copy.CopyError.{CopyError}
use Rattle.gixp_fetch.specs.declared.consume.copy.CopyError.TheVariants.{Read, Write}
use Rattle.gixp_fetch.specs.Receive.{ReadsOn}

-- these bytes of content were read, and the writer got them; no read failed, and the end of the content is the same
pub record Copied (old : Option (List ℕ)) (start : Side) (read : List ℕ) (new : Option (List ℕ)) (end : Side) : Type 0 where
  pub content : Passes start end read
  pub ending : KeepsEnd start.reading end.reading
  pub failures : end.reading.failures ≡ start.reading.failures
  pub held : (side_reading end).held ≡ (side_reading start).held
  pub written : Appends old new read

-- a read failed after these bytes were copied, and the error was taken out of the reader
pub record ReadRefused (old : Option (List ℕ)) (start : Side) (read : List ℕ) (new : Option (List ℕ)) (end : Side)
    (refusal : Refusal) : Type 0 where
  pub now : Side
  pub copied : Copied old start read new now
  pub failed : Side
  pub error : io_error
  pub refused : RefusesContent now failed error
  pub gives : refusal ≡ refused.refusal
  pub taken : end ≡ record failed { fault = None }

-- after these bytes were copied there were more for the writer
pub record WriteRefused (old : Option (List ℕ)) (start end : Side) : Type 0 where
  pub now : Side
  pub mid : Option (List ℕ)
  pub read : List ℕ
  pub copied : Copied old start read mid now
  pub shows : ShowsContent now end

-- all content up to the flush packet was copied, and the reader is at that packet; or a read failed, and the writer
-- got all bytes but those that the failed read lost; or the writer failed, with more bytes to write
abbrev pub Copies : Option (List ℕ) → Side → Result (Unit {0}) CopyError → Option (List ℕ) → Side → Type 0
Copies old start (Ok done) new end = (read : List ℕ) × Copied old start read new end
    × IfSome start.reading.to_come (λ p. IsFirstOf start p → side_content start p ≡ read) × IsSome end.reading.stopped
Copies old start (Err (Read e)) new end = (read : List ℕ) × (lost : List ℕ) × Appends old new read × ReadsOn start end (read ++ lost)
    × ((side_reading end).held ≡ (side_reading start).held)
    × ReadRefused old start read new end (refusal_of e)
Copies old start (Err (Write kind)) new end = (read : List ℕ) × ReadsOn start end read
    × ((side_reading end).held ≡ (side_reading start).held) × WriteRefused old start end

-- a consumer that copies a pack returns true, so the rest of the stream is read
abbrev pub CopiesPack : Option (List ℕ) → Side → Result Bool CopyError → Option (List ℕ) → Side → Type 0
CopiesPack old start (Ok finished) new end = (finished ≡ true) × Copies old start (Ok tt) new end
CopiesPack old start (Err e) new end = Copies old start (Err e) new end

-- the same without a writer, so no write fails
abbrev pub PassesOver : Side → Result Bool CopyError → Side → Type 0
PassesOver start (Err (Write kind)) end = ⊥
PassesOver start (Err (Read e)) end = CopiesPack None start (Err (Read e)) None end
PassesOver start (Ok finished) end = CopiesPack None start (Ok finished) None end

-- the unread input is an end of the input before
pub copies_owes : (old new : Option (List ℕ)) (start end : Side) (r : Result Bool CopyError) → CopiesPack old start r new end
    → (read : List ℕ) × ReadsOn start end read × ((side_reading end).held ≡ (side_reading start).held)
copies_owes old new start end (Ok finished) h =
    (h.1.0, record { content = h.1.1.content; ending = λ _. h.1.1.ending }, h.1.1.held)
copies_owes old new start end (Err (Read e)) h = (h.0 ++ h.1, h.3, h.4)
copies_owes old new start end (Err (Write kind)) h = (h.0, h.1, h.2)

pub passes_over_owes : (start end : Side) (r : Result Bool CopyError) → PassesOver start r end → (read : List ℕ)
    × ReadsOn start end read × ((side_reading end).held ≡ (side_reading start).held)
passes_over_owes start end (Ok finished) h = copies_owes None None start end (Ok finished) h
passes_over_owes start end (Err (Read e)) h = copies_owes None None start end (Err (Read e)) h
passes_over_owes start end (Err (Write kind)) h = absurd h
