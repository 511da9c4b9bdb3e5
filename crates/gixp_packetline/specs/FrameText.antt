-- Packet lines as text (gitprotocol-common, "pkt-line Format"; gitprotocol-v2, "Packet-Line Framing").
use Rattle.std.specs.Prelude.{ℕ, ◌+◌, ◌/◌, ◌%◌, ◌<◌, ◌≤◌, List, [], ◌∷◌, ◌++◌, length, flat_map, codes, ⊤}
use Rattle.hex.specs.Hex.{encode_lower}
use Rattle.gixp_packetline.specs.declared.protocol.MessageKind.{MessageKind}
use Rattle.gixp_packetline.specs.declared.protocol.MessageKind.TheVariants.{Flush, Delimiter, ResponseEnd, Text}
use Rattle.gixp_packetline.specs.Frames.{Frame, payload, special}

-- the four lower-case hexadecimal digits of a number below 65,536
abbrev pub digits_of : ℕ → List ℕ
digits_of n = encode_lower (n / 256 ∷ n % 256 ∷ [])

-- the digits of a flush, delimiter or response-end packet; a text has no digits of its own
abbrev pub message_text : MessageKind → List ℕ
message_text Flush = codes "0000"
message_text Delimiter = codes "0001"
message_text ResponseEnd = codes "0002"
message_text Text = []

-- a payload after the four digits of its length, which includes these digits
abbrev pub payload_text : List ℕ → List ℕ
payload_text p = digits_of (4 + length p) ++ p

-- a packet line as text
abbrev pub frame_text : Frame → List ℕ
frame_text (payload p) = payload_text p
frame_text (special kind) = message_text kind

-- packet lines as text, one after another
abbrev pub texts_of : List Frame → List ℕ
texts_of frames = flat_map frame_text frames

-- a packet line that can be written
abbrev pub IsLawful : Frame → Type 0
IsLawful (payload p) = (0 < length p) × (length p ≤ 65516)
IsLawful (special Flush) = ⊤
IsLawful (special Delimiter) = ⊤
IsLawful (special ResponseEnd) = ⊤
IsLawful (special Text) = ⊥

abbrev pub AreLawful : List Frame → Type 0
AreLawful [] = ⊤
AreLawful (f ∷ fs) = IsLawful f × AreLawful fs
