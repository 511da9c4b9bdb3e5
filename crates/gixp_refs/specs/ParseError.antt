-- The errors of reading refs.
use Rattle.std.specs.Prelude.{◌≡◌, ℕ, Bool, true, false, List, codes, Option, Result, Ok, Err}
use Rattle.std.specs.Option.{option_map, option_copied}
use Rattle.bstr.specs.Owned.{bstring_bytes}
use Rattle.gixp_hash.specs.declared.object_id.ObjectId.{ObjectId}
use Rattle.gixp_packetline.specs.Reading.{refusal_of}
use Rattle.gixp_refs.specs.declared.handshake.refs.line.Attributes.{Attributes}
use Rattle.gixp_refs.specs.declared.handshake.refs.parse.Error.{Error}
use Rattle.gixp_refs.specs.declared.handshake.refs.parse.Error.TheVariants.{Io, DecodePacketline, Id, MalformedSymref, MalformedV1RefLine, MalformedV2RefLine, UnknownAttribute, InvariantViolation, UploadPack, Reader, Memory}
use Rattle.gixp_refs.specs.declared.handshake.refs.parse.Invariant.{Invariant}
use Rattle.gixp_refs.specs.declared.handshake.refs.parse.Invariant.TheVariants.{UnbornObject, UnbornTag, UnbornNullTarget, PeeledAlone, PeeledElsewhere}
use Rattle.gixp_refs.specs.RefLine.{RefsRefusal, io_failed, bad_frame, bad_id, malformed_symref, malformed_v1, malformed_v2, unknown_attribute, invariant, upload_pack, by_reader, no_memory, refusal_from, AttributeValues}
use Rattle.gixp_packetline.specs.ReadFails.{Errors}

-- the sentence for a contradiction between lines or attributes
abbrev pub invariant_text : Invariant → List ℕ
invariant_text UnbornObject = codes "got 'unborn' as object name of direct reference"
invariant_text UnbornTag = codes "got 'unborn' as tag target"
invariant_text UnbornNullTarget = codes "got 'unborn' while (null) was a symref target"
invariant_text PeeledAlone = codes "Expecting peeled refs to be preceded by direct refs"
invariant_text PeeledElsewhere = codes "Expecting peeled refs to have the same base path as the previous, unpeeled one"

-- an error, as contracts compare it
abbrev pub parse_refusal : Error → RefsRefusal
parse_refusal (Io kind) = io_failed kind
parse_refusal (DecodePacketline e) = bad_frame e
parse_refusal (Id e) = bad_id e
parse_refusal (MalformedSymref symref) = malformed_symref (bstring_bytes symref)
parse_refusal (MalformedV1RefLine line) = malformed_v1 (bstring_bytes line)
parse_refusal (MalformedV2RefLine line) = malformed_v2 (bstring_bytes line)
parse_refusal (UnknownAttribute attribute line) = unknown_attribute (bstring_bytes attribute) (bstring_bytes line)
parse_refusal (InvariantViolation message) = invariant (invariant_text message)
parse_refusal (UploadPack message) = upload_pack (bstring_bytes message)
parse_refusal (Reader e) = by_reader (refusal_of e)
parse_refusal Memory = no_memory

abbrev pub object_of : Option ObjectId → Option (List ℕ)
object_of o = option_map (λ (id : ObjectId). id.bytes) o

-- the attributes of a line
abbrev pub attribute_values : Attributes → AttributeValues
attribute_values a = record { target = option_copied a.symref_target; peeled = object_of a.peeled }

-- whether an error is an allocation failure
abbrev pub is_no_memory : RefsRefusal → Bool
is_no_memory no_memory = true
is_no_memory _ = false

-- whether an error is an I/O error or an allocation failure
abbrev pub is_outside : RefsRefusal → Bool
is_outside (io_failed kind) = true
is_outside no_memory = true
is_outside _ = false

-- how contracts compare the errors of calls that read refs
abbrev pub parse_errors : Errors Error RefsRefusal
parse_errors = record { refusal = parse_refusal; from_reader = refusal_from; memory = Memory; is_no_memory = is_no_memory }

-- the error is this one, unless an allocation failed
abbrev pub IsParseRefusal : Error → RefsRefusal → Type 0
IsParseRefusal e r = is_no_memory (parse_refusal e) ≡ false → parse_refusal e ≡ r

-- an I/O error or an allocation failure
abbrev pub IsFromOutside : Error → Type 0
IsFromOutside e = is_outside (parse_refusal e) ≡ true

-- the value or the error of the definition; an allocation failure may replace either
abbrev pub AnswersRefs : {A B : Type 0} → (A → B) → Result B RefsRefusal → Result A Error → Type 0
AnswersRefs view (Ok value) (Ok x) = view x ≡ value
AnswersRefs view (Ok value) (Err e) = e ≡ Memory
AnswersRefs view (Err refusal) (Ok x) = ⊥
AnswersRefs view (Err refusal) (Err e) = IsParseRefusal e refusal
