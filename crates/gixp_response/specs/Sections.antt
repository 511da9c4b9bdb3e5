-- Responses of version 2: a list of sections, each of them a header, lines and a stop (gitprotocol-v2, "fetch"). A stop
-- is a flush or delimiter packet.
use Rattle.std.specs.Prelude.{ℕ, Bool, true, false, if◌then◌else◌, List, [], ◌∷◌, codes, Option, Some, None, Result, Ok, Err}
use Rattle.std.specs.Option.{option_map}
use Rattle.std.specs.Str.{is_utf8}
use Rattle.std.specs.declared.io.ErrorKind.TheVariants.{UnexpectedEof}
use Rattle.gixp_packetline.specs.declared.protocol.Protocol.TheVariants.{V2}
use Rattle.gixp_packetline.specs.declared.protocol.MessageKind.{MessageKind}
use Rattle.gixp_packetline.specs.declared.protocol.MessageKind.TheVariants.{Flush, Delimiter}
use Rattle.gixp_packetline.specs.Items.{is_stop}
use Rattle.gixp_packetline.specs.Pieces.{Refusal, Piece, line, mark, Pieces, unexpected_frame, not_utf8}
use Rattle.gixp_capabilities.specs.Capabilities.{is_text}
use Rattle.gixp_response.specs.AnswerLine.{trimmed, acknowledgement_line, shallow_update_line, wanted_ref_line}
use Rattle.gixp_response.specs.ResponseError.{AnswerRefusal, io_failed, unknown_line, unknown_header, by_reader, from_reader}
use Rattle.gixp_response.specs.Answer.{AnswerValue, no_more, of_acknowledgement, of_update, of_wanted, Found, whole, refused, in_front}
use Rattle.gixp_response.specs.declared.fetch.response.sections.Section.{Section}
use Rattle.gixp_response.specs.declared.fetch.response.sections.Section.TheVariants.{Acknowledgments, ShallowInfo, WantedRefs}
use Rattle.gixp_response.specs.declared.fetch.response.sections.Header.{Header}
use Rattle.gixp_response.specs.declared.fetch.response.sections.Header.TheVariants.{Of, Packfile}

-- the header of a text without white space at its end
abbrev pub header_of : List ℕ → Option Header
header_of text =
    if is_text text (codes "acknowledgments") then Some (Of Acknowledgments)
    else if is_text text (codes "shallow-info") then Some (Of ShallowInfo)
    else if is_text text (codes "wanted-refs") then Some (Of WantedRefs)
    else if is_text text (codes "packfile") then Some Packfile
    else None

-- the item of a line in a section of this kind
abbrev pub item_of : Section → List ℕ → Option AnswerValue
item_of Acknowledgments text = option_map of_acknowledgement (acknowledgement_line text)
item_of ShallowInfo text = option_map of_update (shallow_update_line text)
item_of WantedRefs text = option_map of_wanted (wanted_ref_line text)

-- the value, or this error where there is none
abbrev pub or_refused : {A : Type 0} → AnswerRefusal → Option A → Result A AnswerRefusal
or_refused e (Some value) = Ok value
or_refused e None = Err e

-- a line must be UTF-8
abbrev pub as_text : {A : Type 0} → List ℕ → Result A AnswerRefusal → Result A AnswerRefusal
as_text text read = if is_utf8 text then read else Err (by_reader not_utf8)

abbrev pub read_header : List ℕ → Result Header AnswerRefusal
read_header text = as_text text (or_refused (unknown_header text) (header_of (trimmed text)))

abbrev pub read_item : Section → List ℕ → Result AnswerValue AnswerRefusal
read_item section text = as_text text (or_refused (unknown_line text) (item_of section text))

-- after a header: its section, or the pack
abbrev pub opened : Result Header AnswerRefusal → Pieces → (Option Section → Found) → Found
opened (Ok (Of section)) rest later = later (Some section)
opened (Ok Packfile) rest later = whole (no_more true) rest
opened (Err e) rest later = refused e

-- an item before the items after it
abbrev pub added : Result AnswerValue AnswerRefusal → Found → Found
added (Ok item) later = in_front item later
added (Err e) later = refused e

-- after a section: a flush packet ends the response, a header follows a delimiter packet
abbrev pub closed : MessageKind → Pieces → Found → Found
closed Flush rest later = whole (no_more false) rest
closed Delimiter rest later = later
closed _ rest later = refused (by_reader unexpected_frame)

-- whether a stop is a flush packet
abbrev pub is_flush : Option MessageKind → Bool
is_flush (Some Flush) = true
is_flush _ = false

-- the error of a special packet in place of a header
abbrev pub not_opened : Bool → AnswerRefusal
not_opened true = io_failed UnexpectedEof
not_opened false = by_reader unexpected_frame

-- the response in these packet lines; they begin in this section, or with a header
abbrev pub sections_from : List Piece → Refusal → Option Section → Found
sections_from [] end at = refused (from_reader end)
sections_from (line text ∷ ps) end None = opened (read_header text) (record { list = ps; end = end }) (sections_from ps end)
sections_from (line text ∷ ps) end (Some section) = added (read_item section text) (sections_from ps end (Some section))
sections_from (mark kind ∷ ps) end None = refused (not_opened (is_stop V2 kind))
sections_from (mark kind ∷ ps) end (Some section) = closed kind (record { list = ps; end = end }) (sections_from ps end None)

-- the response in these packet lines, which begin with a header
abbrev pub v2_answer : Pieces → Found
v2_answer p = sections_from p.list p.end None
