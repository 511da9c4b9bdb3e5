-- Why reading a response fails, and how contracts compare errors (gitprotocol-v2, "fetch"; gitprotocol-pack, "Packfile Negotiation").
use Rattle.std.specs.Prelude.{◌≡◌, ℕ, Bool, true, false, List, codes, Option, Some, None, Result, Ok, Err, string_bytes}
use Rattle.std.specs.declared.io.ErrorKind.{ErrorKind}
use Rattle.bstr.specs.Owned.{bstring_bytes}
use Rattle.gixp_packetline.specs.Pieces.{Refusal, io, server, interrupted, memory}
use Rattle.gixp_packetline.specs.Reading.{refusal_of}
use Rattle.gixp_transport.specs.Spurious.{is_spurious_kind, is_spurious_client}
use Rattle.gixp_capabilities.specs.Client.{ClientRefusal, no_memory as client_no_memory, client_refusal}
use Rattle.gixp_packetline.specs.ReadFails.{Errors}
use Rattle.gixp_response.specs.declared.fetch.response.error.Error.{Error}
use Rattle.gixp_response.specs.declared.fetch.response.error.Error.TheVariants.{Io, UploadPack, Transport, MissingServerCapability, UnknownLineType, UnknownSectionHeader, Reader, Memory}
use Rattle.gixp_response.specs.declared.fetch.response.error.RequiredFeature.{RequiredFeature}
use Rattle.gixp_response.specs.declared.fetch.response.error.RequiredFeature.TheVariants.{MultiAckDetailed, SideBand}

-- the name of a feature that a response needs
abbrev pub required_text : RequiredFeature → List ℕ
required_text MultiAckDetailed = codes "multi_ack_detailed"
required_text SideBand = codes "side-band OR side-band-64k"

-- an error, as contracts compare it
pub data AnswerRefusal : Type 0 where
  io_failed : ErrorKind → AnswerRefusal
  upload_pack : List ℕ → AnswerRefusal
  by_transport : ClientRefusal → AnswerRefusal
  missing_capability : List ℕ → AnswerRefusal
  unknown_line : List ℕ → AnswerRefusal
  unknown_header : List ℕ → AnswerRefusal
  by_reader : Refusal → AnswerRefusal
  no_memory : AnswerRefusal

-- an error, as contracts compare it
abbrev pub answer_refusal : Error → AnswerRefusal
answer_refusal (Io kind) = io_failed kind
answer_refusal (UploadPack message) = upload_pack (bstring_bytes message)
answer_refusal (Transport e) = by_transport (client_refusal e)
answer_refusal (MissingServerCapability feature) = missing_capability (required_text feature)
answer_refusal (UnknownLineType line) = unknown_line (string_bytes line)
answer_refusal (UnknownSectionHeader header) = unknown_header (string_bytes header)
answer_refusal (Reader e) = by_reader (refusal_of e)
answer_refusal Memory = no_memory

-- whether a retry may succeed: an I/O error of a lost connection, in a read or in a call to the server
abbrev pub is_spurious_answer : Error → Bool
is_spurious_answer (Io kind) = is_spurious_kind kind
is_spurious_answer (Transport e) = is_spurious_client e
is_spurious_answer _ = false

-- whether an error is an interrupt of the reader
abbrev pub is_interruption : AnswerRefusal → Bool
is_interruption (by_reader interrupted) = true
is_interruption _ = false

-- whether an interrupt ended the call
abbrev pub is_interrupted_answer : {X : Type 0} → Result X Error → Bool
is_interrupted_answer (Ok x) = false
is_interrupted_answer (Err e) = is_interruption (answer_refusal e)

-- the error that passes on a reader's error
abbrev pub from_reader : Refusal → AnswerRefusal
from_reader (io kind) = io_failed kind
from_reader (server message) = upload_pack message
from_reader memory = no_memory
from_reader other = by_reader other

-- the error that passes on a transport's error
abbrev pub from_transport : ClientRefusal → AnswerRefusal
from_transport client_no_memory = no_memory
from_transport other = by_transport other

-- whether an error is an allocation failure
abbrev pub is_no_memory : AnswerRefusal → Bool
is_no_memory no_memory = true
is_no_memory _ = false

-- how contracts compare the errors of calls that read a response
abbrev pub answer_errors : Errors Error AnswerRefusal
answer_errors = record { refusal = answer_refusal; from_reader = from_reader; memory = Memory; is_no_memory = is_no_memory }

-- the error is this one, unless an allocation failed
abbrev pub IsAnswerRefusal : Error → AnswerRefusal → Type 0
IsAnswerRefusal e r = is_no_memory (answer_refusal e) ≡ false → answer_refusal e ≡ r

-- the value of a line, or an error that has the line; a value needs no allocation
abbrev pub ReadsLine : {A : Type 0} → Option A → List ℕ → Result A Error → Type 0
ReadsLine (Some value) line (Ok x) = x ≡ value
ReadsLine (Some value) line (Err e) = ⊥
ReadsLine None line (Ok x) = ⊥
ReadsLine None line (Err e) = IsAnswerRefusal e (unknown_line line)

-- the same, where a value needs an allocation
abbrev pub ReadsOwned : {A B : Type 0} → (A → B) → Option B → List ℕ → Result A Error → Type 0
ReadsOwned view (Some value) line (Ok x) = view x ≡ value
ReadsOwned view (Some value) line (Err e) = e ≡ Memory
ReadsOwned view None line (Ok x) = ⊥
ReadsOwned view None line (Err e) = IsAnswerRefusal e (unknown_line line)

-- the value or the error of the definition; an allocation failure may replace either
abbrev pub AnswersResponse : {A B : Type 0} → (A → B) → Result B AnswerRefusal → Result A Error → Type 0
AnswersResponse view (Ok value) (Ok x) = view x ≡ value
AnswersResponse view (Ok value) (Err e) = e ≡ Memory
AnswersResponse view (Err refusal) (Ok x) = ⊥
AnswersResponse view (Err refusal) (Err e) = IsAnswerRefusal e refusal
