-- The packet lines of a list of bytes. A `Frame` is a packet line.
use Rattle.std.specs.Prelude.{ℕ, zero, suc, ◌+◌, ◌*◌, ◌<◌, ◌≤◌, ◌==◌, nat_lt, if◌then◌else◌, List, [], ◌∷◌, length, take, drop, Option, Some, None, Result, Ok}
use Rattle.hex.specs.Hex.{decode_sized}
use Rattle.hex.specs.declared.error.FromHexError.{FromHexError}
use Rattle.gixp_packetline.specs.declared.packet.PacketError.{PacketError}
use Rattle.gixp_packetline.specs.declared.packet.PacketError.TheVariants.{HexDecode, DataLengthLimitExceeded, DataIsEmpty, InvalidLineLength}
use Rattle.gixp_packetline.specs.declared.protocol.MessageKind.{MessageKind}
use Rattle.gixp_packetline.specs.declared.protocol.MessageKind.TheVariants.{Flush, Delimiter, ResponseEnd}
use Rattle.gixp_packetline.specs.declared.packet.Head.{Head}
use Rattle.gixp_packetline.specs.declared.packet.Head.TheVariants.{Partial, Bad, Special, Data}

-- the number of two bytes, the high byte first
abbrev pub pair_number : Result (List ℕ) FromHexError → Option ℕ
pair_number (Ok (high ∷ low ∷ [])) = Some (high * 256 + low)
pair_number _ = None

-- the number that four hexadecimal digits of either case make
abbrev pub size_of : List ℕ → Option ℕ
size_of digits = pair_number (decode_sized digits 2)

-- which packet line begins with this length, where n bytes were read
abbrev pub frame_head : Option ℕ → ℕ → Head
frame_head None n = Bad HexDecode
frame_head (Some size) n =
    if size == 0 then Special Flush
    else if size == 1 then Special Delimiter
    else if size == 2 then Special ResponseEnd
    else if size == 3 then Bad InvalidLineLength
    else if size == 4 then Bad DataIsEmpty
    else if nat_lt 65520 size then Bad DataLengthLimitExceeded
    else if nat_lt n size then Partial
    else Data size

abbrev pub head_of : List ℕ → Head
head_of bytes = if nat_lt (length bytes) 4 then Partial else frame_head (size_of (take 4 bytes)) (length bytes)

-- the head of the first packet line fits a list of n bytes
abbrev pub FitsFront : ℕ → Head → Type 0
FitsFront n Partial = n < 65520
FitsFront n (Bad e) = 4 ≤ n
FitsFront n (Special kind) = 4 ≤ n
FitsFront n (Data size) = (4 < size) × (size ≤ n) × (size ≤ 65520)

-- a packet line: a data packet with its payload, or a flush, delimiter or response-end packet
pub data Frame : Type 0 where
  payload : List ℕ → Frame
  special : MessageKind → Frame

-- the bytes after the last whole packet line: part of a packet line, or four bytes that begin none
pub data End : Type 0 where
  ended : End
  bad : PacketError → End

-- the whole packet lines at the front of a list of bytes, and the end after them
pub record Frames : Type 0 where
  pub list : List Frame
  pub end : End

abbrev pub no_frames : End → Frames
no_frames end = record { list = []; end = end }

abbrev pub with_frame : Frame → Frames → Frames
with_frame f fs = record { list = f ∷ fs.list; end = fs.end }

-- the packet lines of these bytes, by the head of the first one
abbrev pub frames_by : Head → List ℕ → (List ℕ → Frames) → Frames
frames_by Partial bytes rest = no_frames ended
frames_by (Bad e) bytes rest = no_frames (bad e)
frames_by (Special kind) bytes rest = with_frame (special kind) (rest (drop 4 bytes))
frames_by (Data size) bytes rest = with_frame (payload (drop 4 (take size bytes))) (rest (drop size bytes))

-- at most n packet lines
unfoldable pub frames_within : ℕ → List ℕ → Frames
frames_within zero bytes = no_frames ended
frames_within (suc n) bytes = frames_by (head_of bytes) bytes (frames_within n)

-- the whole packet lines at the front; a list of n bytes has at most n
unfoldable pub frames_of : List ℕ → Frames
frames_of bytes = frames_within (length bytes) bytes
