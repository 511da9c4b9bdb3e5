-- The messages of a request, and the request of a command (gitprotocol-pack, "Packfile Negotiation"; gitprotocol-v2, "Command Request").
use Rattle.std.specs.Prelude.{ℕ, Bool, true, nat_le, List, [], ◌∷◌, ◌++◌, length, map, codes, Option, Some, None, String, string_bytes}
use Rattle.std.specs.List.{list_all}
use Rattle.std.specs.Borrow.{Bor}
use Rattle.std.specs.Option.{option_map}
use Rattle.std.specs.declared.alloc.Global.{Global}
use Rattle.bstr.specs.declared.bstring.BString.{BString}
use Rattle.bstr.specs.Owned.{bstring_bytes}
use Rattle.gixp_packetline.specs.declared.protocol.MessageKind.TheVariants.{Flush as FlushKind, Delimiter as DelimiterKind}
use Rattle.gixp_transport.specs.declared.message.Message.{Message}
use Rattle.gixp_transport.specs.declared.message.Message.TheVariants.{Line, Flush, Delimiter}
use Rattle.gixp_packetline.specs.Frames.{Frame, payload, special}

-- the packet line of a text line, with its LF
abbrev pub line_frame : List ℕ → Frame
line_frame line = payload (line ++ 10 ∷ [])

-- whether a text line fits into a packet line with its LF
abbrev pub fits : List ℕ → Bool
fits line = nat_le (length line) 65515

-- a message as plain data
pub data MessageValue : Type 0 where
  text : List ℕ → MessageValue
  flush : MessageValue
  delimiter : MessageValue

-- the packet line of a message
abbrev pub value_frame : MessageValue → Frame
value_frame (text line) = line_frame line
value_frame flush = special FlushKind
value_frame delimiter = special DelimiterKind

-- whether a message fits into a packet line
abbrev pub value_fits : MessageValue → Bool
value_fits (text line) = fits line
value_fits flush = true
value_fits delimiter = true

abbrev pub message_value : Message → MessageValue
message_value (Line line) = text line.now
message_value Flush = flush
message_value Delimiter = delimiter

abbrev pub message_frame : Message → Frame
message_frame message = value_frame (message_value message)

abbrev pub message_fits : Message → Bool
message_fits message = value_fits (message_value message)

-- the packet lines of a request
abbrev pub request_frames : List Message → List Frame
request_frames messages = map message_frame messages

-- whether each message of a request fits into a packet line
abbrev pub all_fit : List Message → Bool
all_fit messages = list_all message_fits messages

-- whether each of these lines fits into a packet line
abbrev pub lines_fit : List BString → Bool
lines_fit lines = list_all (λ line. fits (bstring_bytes line)) lines

-- a feature as a line: its name, with `=` and its value if it has one
abbrev pub feature_line : List ℕ → Option (List ℕ) → List ℕ
feature_line name None = name
feature_line name (Some value) = name ++ codes "=" ++ value

abbrev pub feature_lines : List (Bor (List ℕ) × Option (String Global)) → List (List ℕ)
feature_lines features = map (λ (f : Bor (List ℕ) × Option (String Global)). feature_line f.0.now (option_map string_bytes f.1)) features

-- the lines before the arguments of a command
abbrev pub command_lines : List ℕ → List (List ℕ) → List (List ℕ)
command_lines command features = (codes "command=" ++ command) ∷ features

-- a delimiter packet and the arguments, if there are any
abbrev pub argument_values : List (List ℕ) → List MessageValue
argument_values [] = []
argument_values (a ∷ more) = delimiter ∷ map text (a ∷ more)

-- the messages of a command with its features and arguments
abbrev pub command_values : List ℕ → List (List ℕ) → List (List ℕ) → List MessageValue
command_values command features arguments = map text (command_lines command features) ++ argument_values arguments ++ flush ∷ []

-- the packet lines of a command with its features and arguments
abbrev pub command_frames : List ℕ → List (List ℕ) → List (List ℕ) → List Frame
command_frames command features arguments = map value_frame (command_values command features arguments)

-- whether each line of a command fits into a packet line
abbrev pub command_fits : List ℕ → List (List ℕ) → List (List ℕ) → Bool
command_fits command features arguments = list_all value_fits (command_values command features arguments)
