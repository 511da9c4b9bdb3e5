-- The bands of a pack, packet line by packet line (gitprotocol-pack, "Packfile Data").
use Rattle.std.specs.Prelude.{◌≡◌, ℕ, ◌∷◌, true, false, List, [], Result, Ok, Err}
use Rattle.gixp_packetline.specs.Pieces.{line, mark, Pieces, no_pieces, with_piece}
use Rattle.gixp_sidebands.specs.Bands.{band_of, unband, unband_line, Message, messages_line, messages_of}
use Rattle.gixp_records.specs.declared.packets.PacketRefused.{PacketRefused}
use Rattle.gixp_records.specs.declared.bands.BandPiece.{BandPiece}
use Rattle.gixp_records.specs.declared.bands.BandPiece.TheVariants.{Content, Progress, Error, Stop}
use Rattle.gixp_records.specs.Span.{text_at, IsWithin}
use Rattle.gixp_records.specs.Packets.{pieces_at, refusal_in, AreWordsWithin, IsAfterPacket}

-- content before the rest; empty content adds nothing
abbrev pub with_content : List ℕ → Pieces → Pieces
with_content [] rest = rest
with_content (b ∷ text) rest = with_piece (line (b ∷ text)) rest

-- the content that a packet line adds before the rest
abbrev pub content_before : List ℕ → BandPiece → Pieces → Pieces
content_before bytes (Content text) rest = with_content (text_at bytes text) rest
content_before bytes (Progress text) rest = rest
content_before bytes (Error text) rest = rest
content_before bytes (Stop kind) rest = with_piece (mark kind) rest

-- the messages that a packet line adds before the rest; a stop ends them
abbrev pub messages_before : List ℕ → BandPiece → List Message → List Message
messages_before bytes (Content text) rest = rest
messages_before bytes (Progress text) rest = record { is_error = false; text = text_at bytes text } ∷ rest
messages_before bytes (Error text) rest = record { is_error = true; text = text_at bytes text } ∷ rest
messages_before bytes (Stop kind) rest = []

-- the text of a packet line is within the bytes
abbrev pub IsPieceWithin : List ℕ → BandPiece → Type 0
IsPieceWithin bytes (Content text) = IsWithin bytes text
IsPieceWithin bytes (Progress text) = IsWithin bytes text
IsPieceWithin bytes (Error text) = IsWithin bytes text
IsPieceWithin bytes (Stop kind) = Unit {0}

-- the content of a payload, or the error that its first byte isn't a band
abbrev pub IsPieceOf : List ℕ → List ℕ → Result BandPiece PacketRefused → Type 0
IsPieceOf bytes payload (Ok piece) =
    ((rest : Pieces) → unband_line (band_of payload) payload rest ≡ content_before bytes piece rest)
    × ((rest : List Message) → messages_line (band_of payload) payload rest ≡ messages_before bytes piece rest)
    × IsPieceWithin bytes piece
IsPieceOf bytes payload (Err e) =
    ((rest : Pieces) → unband_line (band_of payload) payload rest ≡ no_pieces (refusal_in bytes e))
    × ((rest : List Message) → messages_line (band_of payload) payload rest ≡ [])
    × AreWordsWithin bytes e

-- the packet line at an offset, with the content and the messages of the rest; or an error, and then there is no content and no
-- message
abbrev pub IsNextPiece : List ℕ → ℕ → Result (BandPiece × ℕ) PacketRefused → Type 0
IsNextPiece bytes at (Ok (piece, next)) =
    (unband (pieces_at bytes at) ≡ content_before bytes piece (unband (pieces_at bytes next)))
    × (messages_of (pieces_at bytes at) ≡ messages_before bytes piece (messages_of (pieces_at bytes next)))
    × IsPieceWithin bytes piece × IsAfterPacket bytes at next
IsNextPiece bytes at (Err e) = (unband (pieces_at bytes at) ≡ no_pieces (refusal_in bytes e))
    × (messages_of (pieces_at bytes at) ≡ []) × AreWordsWithin bytes e
