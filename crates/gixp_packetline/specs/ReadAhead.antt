-- The bytes that were read from a stream and not yet taken.
use Rattle.std.specs.Prelude.{◌≡◌, ◌⊎◌, ℕ, Bool, true, false, List, Option, Some}
use Rattle.std.specs.Option.{option_map}
use Rattle.std.specs.Io.KnownBytes.{prepend_known}
use Rattle.gixp_packetline.specs.Pieces.{unexpected_frame, line, Pieces, with_piece, stream_pieces}
use Rattle.gixp_packetline.specs.Reading.{Reading}

-- the packet lines of these bytes, where they are known, after a line that was peeked at
abbrev pub pieces_after : Bool → List ℕ → Option (List ℕ) → Option Pieces
pieces_after true text known = option_map (with_piece (line text)) (option_map stream_pieces known)
pieces_after false text known = option_map stream_pieces known

-- unless an unexpected packet came: the packet lines to come are those of these bytes and of the rest of the reader, or
-- at the end of the stream of these bytes alone
abbrev pub HoldsAhead : Reading → Option (List ℕ) → List ℕ → Type 0
HoldsAhead r rest ahead = (r.refused ≡ Some unexpected_frame → ⊥)
    → (r.to_come ≡ pieces_after r.peeked r.line (prepend_known ahead rest)) ⊎ (r.to_come ≡ pieces_after r.peeked r.line (Some ahead))
