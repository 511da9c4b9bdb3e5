-- The packet lines of a stream, before a version or a sideband is chosen: lines, special packets and one last error
-- (gitprotocol-common, "pkt-line Format"; gitprotocol-pack, "Packfile Negotiation" for `ERR `).
use Rattle.std.specs.Prelude.{ℕ, Bool, if◌then◌else◌, List, [], ◌∷◌, drop, take, nat_eq, codes}
use Rattle.std.specs.List.{starts_with}
use Rattle.std.specs.Io.BufRead.{strip_last}
use Rattle.std.specs.declared.io.ErrorKind.{ErrorKind}
use Rattle.std.specs.declared.io.ErrorKind.TheVariants.{UnexpectedEof}
use Rattle.gixp_packetline.specs.declared.packet.PacketError.{PacketError}
use Rattle.gixp_packetline.specs.declared.protocol.MessageKind.{MessageKind}
use Rattle.gixp_packetline.specs.declared.packet.Head.{Head}
use Rattle.gixp_packetline.specs.declared.packet.Head.TheVariants.{Partial, Bad, Special, Data}
use Rattle.gixp_packetline.specs.Frames.{Frame, payload, special, End, ended, bad, Frames, frames_of}

-- an error of a reader, as contracts compare it
pub data Refusal : Type 0 where
  io : ErrorKind → Refusal
  decode : PacketError → Refusal
  server : List ℕ → Refusal
  unexpected_frame : Refusal
  not_utf8 : Refusal
  bad_band : ℕ → Refusal
  interrupted : Refusal
  memory : Refusal

-- a packet line as a reader of any version sees it: a line, or a special packet
pub data Piece : Type 0 where
  line : List ℕ → Piece
  mark : MessageKind → Piece

-- the lines and special packets up to the first error, which is the same under each version
pub record Pieces : Type 0 where
  pub list : List Piece
  pub end : Refusal

-- no packet line before this error
abbrev pub no_pieces : Refusal → Pieces
no_pieces e = record { list = []; end = e }

-- one more packet line at the front
abbrev pub with_piece : Piece → Pieces → Pieces
with_piece p ps = record { list = p ∷ ps.list; end = ps.end }

-- the error after the last whole packet line; the end of the stream is an error too
abbrev pub end_refusal : End → Refusal
end_refusal ended = io UnexpectedEof
end_refusal (bad e) = decode e

-- whether a payload is an `ERR ` line of the server
abbrev pub is_error : List ℕ → Bool
is_error text = starts_with nat_eq text (codes "ERR ")

-- the message of an `ERR ` line, without one ending LF
abbrev pub error_message : List ℕ → List ℕ
error_message text = strip_last 10 (drop 4 text)

-- each payload is a line, but an `ERR ` line is an error
abbrev pub pieces_from : List Frame → End → Pieces
pieces_from [] end = no_pieces (end_refusal end)
pieces_from (payload text ∷ fs) end = if is_error text then no_pieces (server (error_message text))
    else with_piece (line text) (pieces_from fs end)
pieces_from (special kind ∷ fs) end = with_piece (mark kind) (pieces_from fs end)

abbrev pub pieces_of : Frames → Pieces
pieces_of fs = pieces_from fs.list fs.end

abbrev pub stream_pieces : List ℕ → Pieces
stream_pieces bytes = pieces_of (frames_of bytes)

-- the line of a data packet and the packet lines after it, or the error of an `ERR ` line
abbrev pub pieces_of_line : List ℕ → Pieces → Pieces
pieces_of_line text rest = if is_error text then no_pieces (server (error_message text)) else with_piece (line text) rest

-- the packet lines of a stream, by the head of the first one
abbrev pub pieces_by : Head → List ℕ → Pieces
pieces_by Partial bytes = no_pieces (io UnexpectedEof)
pieces_by (Bad e) bytes = no_pieces (decode e)
pieces_by (Special kind) bytes = with_piece (mark kind) (stream_pieces (drop 4 bytes))
pieces_by (Data size) bytes = pieces_of_line (drop 4 (take size bytes)) (stream_pieces (drop size bytes))
