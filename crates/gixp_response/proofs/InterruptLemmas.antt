-- The calls of the reader's interrupt while a response is read.
use Rattle.std.proofs.Common.{◌≡◌, Bool, true, false, cond, sym, ap, subst, ◌∙◌, refl, List, ℕ, Option, Some, None, Result, Ok, Err, inl, inr}
use Rattle.std.specs.Prelude.{◌&&◌, not}
use Rattle.std.specs.Str.{is_utf8}
use Rattle.gixp_packetline.specs.declared.read.Error.{Error as ReadError}
use Rattle.gixp_packetline.specs.declared.read.Error.TheVariants.{Io as ReadIo, Decode, Server, UnexpectedFrame, NotUtf8, BadBand, Interrupted, Memory as ReadMemory}
use Rattle.gixp_packetline.specs.Pieces.{io, decode, server, unexpected_frame, not_utf8, bad_band, interrupted, memory}
use Rattle.gixp_packetline.specs.Reading.{Reading, Reads, refusal_of, is_interrupted}
use Rattle.gixp_response.specs.declared.fetch.response.error.Error.{Error}
use Rattle.gixp_response.specs.declared.fetch.response.sections.Header.{Header}
use Rattle.gixp_response.specs.declared.fetch.response.sections.Section.{Section}
use Rattle.gixp_response.specs.Answer.{AnswerValue, is_of_line}
use Rattle.gixp_response.specs.AnswerReading.{Adds}
use Rattle.gixp_response.specs.Beginnings.{is_at_end}
use Rattle.gixp_response.specs.Sections.{header_of, item_of, or_refused, read_header, read_item}
use Rattle.gixp_response.specs.AnswerLine.{trimmed}
use Rattle.gixp_response.specs.ResponseError.{AnswerRefusal, io_failed, upload_pack, by_transport, missing_capability, unknown_line, unknown_header, by_reader, no_memory, answer_refusal, from_reader, is_no_memory, is_interruption, is_interrupted_answer, AnswersResponse}

-- a call that takes a line that was peeked at isn't interrupted
pub peeked_asks : (A : Bool → Type 0) (old new : Reading) (r : Result Bool ReadError) → old.peeked ≡ true → Reads old new r
    → A (is_interrupted r) → A false
peeked_asks A old new (Ok b) p h k = k
peeked_asks A old new (Err x) p (inl h) k = absurd (let e = h.unpeeked in cc)
peeked_asks A old new (Err x) p (inr (inl h)) k = absurd (let e = h.stays.unpeeked in cc)
peeked_asks A old new (Err x) p (inr (inr h)) k = absurd (let e = h.unpeeked in cc)

-- a call that found the end of the stream wasn't interrupted
pub ended_asks : (A : Bool → Type 0) (e : ReadError) (following : Bool) → (is_at_end (refusal_of e) && not following) ≡ true
    → A (is_interrupted {X = Bool} (Err e)) → A false
ended_asks A (ReadIo kind) following h k = k
ended_asks A (Decode x) following h k = k
ended_asks A (Server m) following h k = k
ended_asks A UnexpectedFrame following h k = k
ended_asks A NotUtf8 following h k = k
ended_asks A (BadBand b) following h k = k
ended_asks A Interrupted following h k = absurd (let x = h in cc)
ended_asks A ReadMemory following h k = k

-- only an interrupt of the reader is an interrupt of the response
by_refusal : (e : ReadError) → is_interrupted {X = Bool} (Err e) ≡ is_interruption (from_reader (refusal_of e))
by_refusal (ReadIo kind) = refl
by_refusal (Decode x) = refl
by_refusal (Server m) = refl
by_refusal UnexpectedFrame = refl
by_refusal NotUtf8 = refl
by_refusal (BadBand b) = refl
by_refusal Interrupted = refl
by_refusal ReadMemory = refl

-- the reader returned an error
pub reader_refused : (Y : Type 0) (A : Bool → Type 0) (e : ReadError) (error : Error) → answer_refusal error ≡ from_reader (refusal_of e)
    → A (is_interrupted {X = Bool} (Err e)) → A (is_interrupted_answer {X = Y} (Err error))
reader_refused Y A e error s k = subst A (by_refusal e ∙ ap is_interruption (sym s)) k

-- an error of a line is not an interrupt
of_line : (x r : AnswerRefusal) → (is_no_memory x ≡ false → x ≡ r) → is_of_line r ≡ true → is_interruption x ≡ false
of_line (by_reader interrupted) r h l = absurd (let e = subst (λ y. is_of_line y ≡ true) (sym (h refl)) l in cc)
of_line (by_reader (io kind)) r h l = refl
of_line (by_reader (decode e)) r h l = refl
of_line (by_reader (server m)) r h l = refl
of_line (by_reader unexpected_frame) r h l = refl
of_line (by_reader not_utf8) r h l = refl
of_line (by_reader (bad_band b)) r h l = refl
of_line (by_reader memory) r h l = refl
of_line (io_failed kind) r h l = refl
of_line (upload_pack m) r h l = refl
of_line (by_transport e) r h l = refl
of_line (missing_capability f) r h l = refl
of_line (unknown_line t) r h l = refl
of_line (unknown_header t) r h l = refl
of_line no_memory r h l = refl

-- an error of a header or an item is not an interrupt
pub header_asks : (Y : Type 0) (A : Bool → Type 0) (text : List ℕ) (e : Error)
    → AnswersResponse (λ (h : Header). h) (read_header text) (Err e)
    → A false → A (is_interrupted_answer {X = Y} (Err e))
header_asks Y A text e h k = subst A (sym (by (is_utf8 text) (header_of (trimmed text)) h)) k
  where
    by : (b : Bool) (o : Option Header)
        → AnswersResponse (λ (h : Header). h) (cond b (or_refused (unknown_header text) o) (Err (by_reader not_utf8))) (Err e)
        → is_interruption (answer_refusal e) ≡ false
    by true (Some x) h = ap (λ x. is_interruption (answer_refusal x)) h
    by true None h = of_line (answer_refusal e) (unknown_header text) h refl
    by false o h = of_line (answer_refusal e) (by_reader not_utf8) h refl

pub item_asks : (Y : Type 0) (A : Bool → Type 0) (s : Section) (text : List ℕ) (old new : AnswerValue) (e : Error)
    → Adds (read_item s text) old new (Err e) → A false → A (is_interrupted_answer {X = Y} (Err e))
item_asks Y A s text old new e h k = subst A (sym (by (is_utf8 text) (item_of s text) h)) k
  where
    by : (b : Bool) (o : Option AnswerValue)
        → Adds (cond b (or_refused (unknown_line text) o) (Err (by_reader not_utf8))) old new (Err e)
        → is_interruption (answer_refusal e) ≡ false
    by true (Some x) h = ap (λ x. is_interruption (answer_refusal x)) h
    by true None h = of_line (answer_refusal e) (unknown_line text) h refl
    by false o h = of_line (answer_refusal e) (by_reader not_utf8) h refl
