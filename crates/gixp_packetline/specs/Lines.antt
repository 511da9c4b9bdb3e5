-- The lines that a reader returns next, from the packet lines of a stream (gitprotocol-v2, "Packet-Line Framing"). A
-- stop is a flush packet, or under version 2 a delimiter packet.
use Rattle.std.specs.Prelude.{ℕ, if◌then◌else◌, List, [], ◌∷◌, ◌++◌}
use Rattle.gixp_packetline.specs.declared.protocol.Protocol.{Protocol}
use Rattle.gixp_packetline.specs.declared.protocol.MessageKind.{MessageKind}
use Rattle.gixp_packetline.specs.Pieces.{Refusal, unexpected_frame, Piece, line, mark, Pieces}
use Rattle.gixp_packetline.specs.Items.{is_stop, plain, items_of, ItemsEnd, at_stop, at_refusal, FirstLines}

-- what a reader finds next: a line, a stop, or an error; with the packet lines after it
pub data Next : Type 0 where
  gives : List ℕ → Pieces → Next
  stops : MessageKind → Pieces → Next
  refuses : Refusal → Next

abbrev pub next_from : Protocol → List Piece → Refusal → Next
next_from version [] end = refuses end
next_from version (line text ∷ ps) end = gives text (record { list = ps; end = end })
next_from version (mark kind ∷ ps) end = if is_stop version kind then stops kind (record { list = ps; end = end })
    else refuses unexpected_frame

-- what a reader of this version finds next
abbrev pub next_of : Protocol → Pieces → Next
next_of version ps = next_from version ps.list ps.end

-- how the lines end: at a stop, with the packet lines after it, or at an error
pub data Ending : Type 0 where
  stop : MessageKind → Pieces → Ending
  refusal : Refusal → Ending

-- the lines before the first stop or error, and that end
pub record Lines : Type 0 where
  pub lines : List (List ℕ)
  pub ending : Ending

-- no line before this end
abbrev pub no_lines : Ending → Lines
no_lines ending = record { lines = []; ending = ending }

abbrev pub lines_from : Protocol → List Piece → Refusal → Lines
lines_from version [] end = no_lines (refusal end)
lines_from version (line text ∷ ps) end = let rest = lines_from version ps end in record { lines = text ∷ rest.lines; ending = rest.ending }
lines_from version (mark kind ∷ ps) end =
    if is_stop version kind then no_lines (stop kind (record { list = ps; end = end })) else no_lines (refusal unexpected_frame)

-- the lines before the first stop or error
abbrev pub lines_of : Protocol → Pieces → Lines
lines_of version ps = lines_from version ps.list ps.end

-- these lines, followed by this end
abbrev pub lines_to : List (List ℕ) → Ending → Lines
lines_to texts ending = record { lines = texts; ending = ending }

-- these lines before the others
abbrev pub before : List (List ℕ) → Lines → Lines
before texts rest = record { lines = texts ++ rest.lines; ending = rest.ending }

-- the end of the lines, written with items
abbrev pub items_end : Protocol → Ending → ItemsEnd
items_end version (stop kind rest) = at_stop kind (items_of version plain rest)
items_end version (refusal e) = at_refusal e

-- the lines and their end, written with items
abbrev pub as_first : Protocol → Lines → FirstLines
as_first version l = record { lines = l.lines; ending = items_end version l.ending }
