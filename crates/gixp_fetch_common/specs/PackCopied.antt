-- A pack that is copied into a writer and checked (gitprotocol-pack, "Packfile Data"; gitformat-pack).
use Rattle.std.specs.Prelude.{◌≡◌, ℕ, List, Option, IfSome, Result, Ok, Err}
use Rattle.std.specs.Io.KnownBytes.{Appends}
use Rattle.std.specs.declared.io.Error.{Error as io_error}
use Rattle.std.specs.declared.io.ErrorKind.{ErrorKind}
use Rattle.std.specs.IoError.{error_kind}
use Rattle.gixp_sidebands.specs.Bands.{Side, IsFirstOf, side_content, side_reading, Passes, ShowsContent, RefusesContent, KeepsEndUncounted}
use Rattle.gixp_pack.specs.Pack.{pack_of}
use Rattle.gixp_pack.specs.declared.check.PackSummary.{PackSummary}
use Rattle.gixp_fetch_common.specs.declared.receive_error.ReceiveError.{ReceiveError}
use Rattle.gixp_fetch_common.specs.declared.receive_error.ReceiveError.TheVariants.{Begin, Read, Write, Incomplete, Memory}

-- these bytes of content came next, and the rest is still to come, with the end that it had unless a failure was counted
pub record ReceivesNext (start : Side) (read : List ℕ) (end : Side) : Type 0 where
  pub content : Passes start end read
  pub ending : KeepsEndUncounted start.reading end.reading
  pub held : (side_reading end).held ≡ (side_reading start).held

-- these bytes of content came next, and a writer got them all; no read failed
pub record CopiedNext (old : Option (List ℕ)) (start : Side) (read : List ℕ) (new : Option (List ℕ)) (end : Side) : Type 0 where
  pub received : ReceivesNext start read end
  pub failures : end.reading.failures ≡ start.reading.failures
  pub written : Appends old new read

-- that was all content up to the stop
pub record CopiedAll (old : Option (List ℕ)) (start : Side) (read : List ℕ) (new : Option (List ℕ)) (end : Side) : Type 0 where
  pub copied : CopiedNext old start read new end
  pub all : IfSome start.reading.to_come (λ p. IsFirstOf start p → side_content start p ≡ read)

-- the reader refused, with an error of this kind, once a writer had got these bytes
pub record RefusedAfter (old : Option (List ℕ)) (start : Side) (new : Option (List ℕ)) (end : Side) (kind : ErrorKind) : Type 0 where
  pub read : List ℕ
  pub now : Side
  pub why : io_error
  pub copied : CopiedNext old start read new now
  pub refuses : RefusesContent now end why
  pub reported : kind ≡ error_kind why

-- content was at hand for the writer, once it had got these bytes
pub record ShownAfter (old : Option (List ℕ)) (start end : Side) : Type 0 where
  pub read : List ℕ
  pub now : Side
  pub mid : Option (List ℕ)
  pub copied : CopiedNext old start read mid now
  pub shows : ShowsContent now end

-- all content was written, and is a whole pack; or it is none, for this reason; or the reader refused, a write failed or an
-- allocation after some; the place was opened before
abbrev pub ChecksPack : Option (List ℕ) → Side → Result PackSummary ReceiveError → Option (List ℕ) → Side → Type 0
ChecksPack old start (Ok summary) new end = (read : List ℕ) × CopiedAll old start read new end × (pack_of read ≡ Ok summary)
ChecksPack old start (Err (Incomplete alloc e)) new end = (read : List ℕ) × CopiedAll old start read new end × (pack_of read ≡ Err e)
ChecksPack old start (Err (Read alloc kind)) new end = (read : List ℕ) × ReceivesNext start read end × RefusedAfter old start new end kind
ChecksPack old start (Err (Write alloc kind)) new end = (read : List ℕ) × ReceivesNext start read end × ShownAfter old start end
ChecksPack old start (Err Memory) new end = (read : List ℕ) × ReceivesNext start read end
ChecksPack old start (Err (Begin alloc kind)) new end = ⊥

-- in any case, some content was read
pub copies_pack_reads : (old new : Option (List ℕ)) (start end : Side) (r : Result PackSummary ReceiveError)
    → ChecksPack old start r new end → (read : List ℕ) × ReceivesNext start read end
copies_pack_reads old new start end (Ok summary) h = (h.0, h.1.copied.received)
copies_pack_reads old new start end (Err (Incomplete alloc e)) h = (h.0, h.1.copied.received)
copies_pack_reads old new start end (Err (Read alloc kind)) h = (h.0, h.1)
copies_pack_reads old new start end (Err (Write alloc kind)) h = (h.0, h.1)
copies_pack_reads old new start end (Err Memory) h = h
copies_pack_reads old new start end (Err (Begin alloc kind)) h = absurd h
