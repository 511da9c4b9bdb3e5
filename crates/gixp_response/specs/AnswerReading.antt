-- What reading a response does to its reader.
use Rattle.std.specs.Prelude.{◌≡◌, ◌⊎◌, Bool, true, false, Option, Some, None, IfSome, List, [], ◌∷◌, Result, Ok, Err}
use Rattle.std.specs.declared.io.ErrorKind.TheVariants.{UnexpectedEof}
use Rattle.gixp_packetline.specs.declared.protocol.MessageKind.{MessageKind}
use Rattle.gixp_packetline.specs.declared.protocol.MessageKind.TheVariants.{Flush}
use Rattle.gixp_packetline.specs.declared.protocol.Protocol.{Protocol}
use Rattle.gixp_packetline.specs.declared.protocol.Protocol.TheVariants.{V0, V1, V2}
use Rattle.gixp_packetline.specs.Pieces.{Refusal, io, Piece, line, mark, Pieces, no_pieces}
use Rattle.gixp_packetline.specs.Reading.{Reading, BreaksOff, IsOutside, IsPlain, Rose}
use Rattle.gixp_response.specs.declared.fetch.response.error.Error.{Error}
use Rattle.gixp_response.specs.declared.fetch.response.error.Error.TheVariants.{Memory}
use Rattle.gixp_packetline.specs.ReadFails.{LineRefused, ReaderRefused, NoMemory}
use Rattle.gixp_response.specs.ResponseError.{AnswerRefusal, answer_errors, answer_refusal, from_reader, IsAnswerRefusal}
use Rattle.gixp_response.specs.Answer.{AnswerValue, Found, whole, refused, front, is_of_line, both}
use Rattle.gixp_response.specs.Sections.{v2_answer}
use Rattle.gixp_response.specs.Beginnings.{Expected, v1_answer}

-- the response in these packet lines, under this version
abbrev pub answer_of : Protocol → Expected → Pieces → Found
answer_of V2 asked p = v2_answer p
answer_of V1 asked p = v1_answer V1 asked p
answer_of V0 asked p = v1_answer V0 asked p

-- the item of a line was added, or the line is an error
abbrev pub Adds : Result AnswerValue AnswerRefusal → AnswerValue → AnswerValue → Result Unit Error → Type 0
Adds (Ok item) old new (Ok x) = new ≡ both old.pack old item
Adds (Ok item) old new (Err e) = e ≡ Memory
Adds (Err r) old new (Ok x) = ⊥
Adds (Err r) old new (Err e) = IsAnswerRefusal e r

-- these packet lines were taken; nothing else is known
abbrev pub Took : List Piece → Reading → Reading → Type 0
Took taken old now = IfSome old.to_come (λ p. (q : Pieces) × (now.to_come ≡ Some q) × (p ≡ front taken q))

-- the stop that a packet line is, if it is one
abbrev pub stop_of : Piece → Option MessageKind
stop_of (line text) = None
stop_of (mark kind) = Some kind

-- the stop at the end of these packet lines
abbrev pub last_stop : List Piece → Option MessageKind
last_stop [] = None
last_stop (p ∷ []) = stop_of p
last_stop (p ∷ q ∷ ps) = last_stop (q ∷ ps)

-- the stop after the packet lines of a response; none before a pack
abbrev pub stop_after : Bool → List Piece → Option MessageKind
stop_after true taken = None
stop_after false taken = last_stop taken

-- where a response without a pack ends: in version 2 at a flush packet, in versions 0 and 1 at the second of two flush
-- packets, or at no stop
abbrev pub EndsBare : Protocol → Option MessageKind → Type 0
EndsBare V2 at = at ≡ Some Flush
EndsBare _ at = (at ≡ None) ⊎ (at ≡ Some Flush)

-- the stop that the reader is at after a response; none before a pack
abbrev pub EndsAt : Protocol → Bool → Option MessageKind → Type 0
EndsAt under true at = at ≡ None
EndsAt under false at = EndsBare under at

-- the response was read, and the packet lines after it are still to come; where these aren't known, it is the response
-- of the packet lines that were taken and of others that may follow
pub record ReadsAnswer (found : Pieces → Found) (under : Protocol) (old new : Reading) (value : AnswerValue) : Type 0 where
  pub taken : List Piece
  pub took : Took taken old new
  pub following : Pieces
  pub response : found (front taken following) ≡ whole value following
  pub at : new.stopped ≡ stop_after value.pack taken
  pub answer : IfSome old.to_come (λ p. (q : Pieces) × (new.to_come ≡ Some q) × (found p ≡ whole value q))
  pub running : value.pack ≡ true → new.stopped ≡ None
  pub stopped : EndsAt under value.pack new.stopped
  pub version : new.version ≡ under
  pub failures : new.failures ≡ old.failures

-- a read failed with `UnexpectedEof`, and the packet lines before it are the response
pub record AnswerBrokeOff (found : Pieces → Found) (under : Protocol) (old new : Reading) (value : AnswerValue) : Type 0 where
  pub taken : List Piece
  pub now : Reading
  pub took : Took taken old now
  pub broke : BreaksOff now new (io UnexpectedEof)
  pub answer : found (record { list = taken; end = io UnexpectedEof }) ≡ whole value (no_pieces (io UnexpectedEof))
  pub stopped : new.stopped ≡ None
  pub version : new.version ≡ under
  pub failures : Rose old.failures new.failures

abbrev pub Answered : (Pieces → Found) → Protocol → Reading → Reading → AnswerValue → Type 0
Answered found version old new value = ReadsAnswer found version old new value ⊎ AnswerBrokeOff found version old new value

-- these packet lines were taken, and no failure was counted
pub record Passed (old now : Reading) (taken : List Piece) : Type 0 where
  pub took : Took taken old now
  pub failures : now.failures ≡ old.failures

-- the last of these packet lines is an error, whatever follows; if it is a stop, the reader is at it
pub record LastRefused (found : Pieces → Found) (taken : List Piece) (refusal : AnswerRefusal) (now : Reading) : Type 0 where
  pub of_line : is_of_line refusal ≡ true
  pub always : (q : Pieces) → found (front taken q) ≡ refused refusal
  pub stopped : now.stopped ≡ last_stop taken

-- an I/O error, an interrupt or an allocation failure came after these packet lines; they are no response, though they
-- may be one if the stream ends there; a plain reader has fewer such errors
pub record AnswerFailed (found : Pieces → Found) (plain : Bool) (old new : Reading) (e : Error) : Type 0 where
  pub taken : List Piece
  pub now : Reading
  pub read : Passed old now taken
  pub refusal : Refusal
  pub failed : IsOutside now new refusal
  pub unended : found (front taken (no_pieces refusal)) ≡ refused (from_reader refusal)
  pub is_plain : plain ≡ true → IsPlain new refusal
  pub error : answer_refusal e ≡ from_reader refusal

-- the first error of the stream, or an I/O error, an interrupt or an allocation failure
abbrev pub AnswerFails : (Pieces → Found) → Bool → Reading → Reading → Error → Type 0
AnswerFails found plain old new e =
    LineRefused answer_errors Passed (λ _ p r. found p ≡ refused r) (LastRefused found) old new e
    ⊎ ReaderRefused answer_errors Passed (λ _ p r. found p ≡ refused r) (LastRefused found) old new e
    ⊎ AnswerFailed found plain old new e ⊎ NoMemory answer_errors Passed old new e

-- these packet lines of a response were taken, and `rest` reads the others
pub record Going (found rest : Pieces → Found) (taken : List Piece) (old now : Reading) : Type 0 where
  pub took : Took taken old now
  pub same : (q : Pieces) → found (front taken q) ≡ rest q
  pub failures : now.failures ≡ old.failures
  pub held : now.held ≡ old.held

-- the reader is not at a stop, and has this version
pub record IsRunning (under : Protocol) (now : Reading) : Type 0 where
  pub stopped : now.stopped ≡ None
  pub version : now.version ≡ under
