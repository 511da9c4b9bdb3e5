-- The packet line at the front of a list of bytes (gitprotocol-common, "pkt-line Format").
use Rattle.std.specs.Prelude.{◌≡◌, ℕ, ◌+◌, ◌<◌, List, length, drop, Option, Some, None, Result, Ok, Err}
use Rattle.std.specs.Borrow.{Bor}
use Rattle.gixp_packetline.specs.declared.packet.PacketError.{PacketError}
use Rattle.gixp_packetline.specs.declared.packet_line.PacketLine.{PacketLine}
use Rattle.gixp_packetline.specs.declared.packet_line.PacketLine.TheVariants.{Data, Special}
use Rattle.gixp_packetline.specs.Frames.{Frame, payload, special, ended, bad, frames_of, no_frames, with_frame}

abbrev pub frame_of : PacketLine → Frame
frame_of (Data text) = payload text.now
frame_of (Special kind) = special kind

-- the number of bytes of a packet line, its four digits included
abbrev pub frame_size : Frame → ℕ
frame_size (payload text) = 4 + length text
frame_size (special kind) = 4

-- the first packet line, and the bytes after it; none where the bytes end within one; an error where they begin none
abbrev pub SplitsPacketLine : List ℕ → Result (Option (PacketLine × Bor (List ℕ))) PacketError → Type 0
SplitsPacketLine bytes (Ok (Some found)) = (frames_of bytes ≡ with_frame (frame_of found.0) (frames_of found.1.now))
    × (length found.1.now < length bytes) × (found.1.now ≡ drop (frame_size (frame_of found.0)) bytes)
SplitsPacketLine bytes (Ok None) = frames_of bytes ≡ no_frames ended
SplitsPacketLine bytes (Err e) = frames_of bytes ≡ no_frames (bad e)
