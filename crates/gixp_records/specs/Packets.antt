-- The packet line at an offset, or its error (gitprotocol-common, "pkt-line Format").
use Rattle.std.specs.Prelude.{◌≡◌, ℕ, ◌+◌, ◌<◌, ◌≤◌, false, List, length, take, drop, Result, Ok, Err}
use Rattle.std.specs.declared.io.ErrorKind.TheVariants.{UnexpectedEof}
use Rattle.gixp_packetline.specs.Frames.{Frame, payload, special, frames_of, with_frame}
use Rattle.gixp_packetline.specs.PacketLine.{frame_size}
use Rattle.gixp_packetline.specs.Pieces.{Refusal, io, decode, server, unexpected_frame, bad_band, line, mark, Pieces, no_pieces, with_piece, stream_pieces, is_error}
use Rattle.gixp_records.specs.declared.packets.PacketRefused.{PacketRefused}
use Rattle.gixp_records.specs.declared.packets.PacketRefused.TheVariants.{Incomplete, Malformed, Server, Unexpected, UnknownBand}
use Rattle.gixp_records.specs.declared.packets.NextPacket.{NextPacket}
use Rattle.gixp_records.specs.declared.packets.NextPacket.TheVariants.{Line, Mark}
use Rattle.gixp_records.specs.Span.{text_at, IsWithin}

-- the stream that begins at this offset, as a reader of any version sees it
abbrev pub pieces_at : List ℕ → ℕ → Pieces
pieces_at bytes at = stream_pieces (drop at bytes)

-- the error as a reader's error
abbrev pub refusal_in : List ℕ → PacketRefused → Refusal
refusal_in bytes Incomplete = io UnexpectedEof
refusal_in bytes (Malformed e) = decode e
refusal_in bytes (Server words) = server (text_at bytes words)
refusal_in bytes Unexpected = unexpected_frame
refusal_in bytes (UnknownBand band) = bad_band band

-- the server's message is within the bytes
abbrev pub AreWordsWithin : List ℕ → PacketRefused → Type 0
AreWordsWithin bytes (Server words) = IsWithin bytes words
AreWordsWithin bytes _ = Unit {0}

-- the next offset is after this one, and within the bytes
abbrev pub IsAfterPacket : List ℕ → ℕ → ℕ → Type 0
IsAfterPacket bytes at next = (at < next) × (next ≤ length bytes)

-- a frame is at the start of the bytes
abbrev pub IsFront : Frame → List ℕ → Type 0
IsFront (payload text) bytes = (take (length text) (drop 4 bytes) ≡ text) × (4 + length text ≤ length bytes)
IsFront (special kind) bytes = 4 ≤ length bytes

-- this frame is at the offset, and the rest follows it
pub record HasFront (bytes : List ℕ) (at : ℕ) (frame : Frame) (rest : List ℕ) : Type 0 where
  pub frames : frames_of (drop at bytes) ≡ with_frame frame (frames_of rest)
  pub following : rest ≡ drop (frame_size frame) (drop at bytes)
  pub front : IsFront frame (drop at bytes)
  pub place : at ≤ length bytes

-- the packet line at an offset and the stream after it, or the error that the stream consists of
abbrev pub IsNextPacket : List ℕ → ℕ → Result NextPacket PacketRefused → Type 0
IsNextPacket bytes at (Ok (Line span next)) = (pieces_at bytes at ≡ with_piece (line (text_at bytes span)) (pieces_at bytes next))
    × IsWithin bytes span × (is_error (text_at bytes span) ≡ false) × IsAfterPacket bytes at next
IsNextPacket bytes at (Ok (Mark kind next)) = (pieces_at bytes at ≡ with_piece (mark kind) (pieces_at bytes next)) × IsAfterPacket bytes at next
IsNextPacket bytes at (Err e) = (pieces_at bytes at ≡ no_pieces (refusal_in bytes e)) × AreWordsWithin bytes e
