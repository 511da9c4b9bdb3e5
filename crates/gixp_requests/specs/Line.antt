-- Stored argument lines, and the parts of a request (gitprotocol-v2, "fetch"; gitprotocol-pack, "Packfile Negotiation").
use Rattle.std.specs.Prelude.{ℕ, Bool, List, ◌++◌, Vec, map, codes}
use Rattle.std.specs.List.{list_all, flat_map}
use Rattle.std.specs.declared.alloc.Global.{Global}
use Rattle.bstr.specs.Owned.{bstring_bytes}
use Rattle.gixp_hash.specs.declared.object_id.ObjectId.{ObjectId}
use Rattle.gixp_packetline.specs.Frames.{Frame}
use Rattle.gixp_transport.specs.Message.{MessageValue, text, fits, line_frame, message_value}
use Rattle.gixp_requests.specs.declared.fetch.arguments.line.Line.{Line}
use Rattle.gixp_requests.specs.declared.fetch.arguments.line.Line.TheVariants.{Want, Text}
use Rattle.gixp_requests.specs.declared.fetch.arguments.part.Part.{Part}
use Rattle.gixp_requests.specs.declared.fetch.arguments.part.Part.TheVariants.{Messages, Lines, Haves}
use Rattle.gixp_requests.specs.Arguments.{id_text}

abbrev pub line_text : Line → List ℕ
line_text (Want id) = codes "want " ++ id_text id
line_text (Text line) = bstring_bytes line

-- the `have` line of an id
abbrev pub have_text : ObjectId → List ℕ
have_text id = codes "have " ++ id_text id

abbrev pub line_texts : Vec Line Global → List (List ℕ)
line_texts v = map line_text v.items

abbrev pub have_texts : Vec ObjectId Global → List (List ℕ)
have_texts v = map have_text v.items

-- whether each argument line fits into a packet line
abbrev pub all_lines_fit : List Line → Bool
all_lines_fit lines = list_all (λ line. fits (line_text line)) lines

abbrev pub all_line_frames : List Line → List Frame
all_line_frames lines = map (λ line. line_frame (line_text line)) lines

-- whether each `have` line fits into a packet line
abbrev pub all_haves_fit : List ObjectId → Bool
all_haves_fit ids = list_all (λ id. fits (have_text id)) ids

abbrev pub have_frames : List ObjectId → List Frame
have_frames ids = map (λ id. line_frame (have_text id)) ids

-- the messages of a part of a request
abbrev pub part_values : Part → List MessageValue
part_values (Messages messages) = map message_value messages.now
part_values (Lines lines) = map text (map line_text lines.now)
part_values (Haves ids) = map text (map have_text ids.now)

-- the messages of a request
abbrev pub parts_values : List Part → List MessageValue
parts_values parts = flat_map part_values parts
