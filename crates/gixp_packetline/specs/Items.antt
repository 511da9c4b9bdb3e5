-- The items of a stream under a version, plain and banded (gitprotocol-common, "pkt-line Format"; gitprotocol-v2, "Packet-Line
-- Framing"; gitprotocol-pack, "Packfile Data", for the bands).
use Rattle.std.specs.Prelude.{ℕ, Bool, true, false, ◌==◌, if◌then◌else◌, List, [], ◌∷◌, Option, Some, None, Result, Ok, Err}
use Rattle.std.specs.Io.BufRead.{strip_last}
use Rattle.gixp_packetline.specs.declared.protocol.Protocol.{Protocol}
use Rattle.gixp_packetline.specs.declared.protocol.Protocol.TheVariants.{V2}
use Rattle.gixp_packetline.specs.declared.protocol.MessageKind.{MessageKind}
use Rattle.gixp_packetline.specs.declared.protocol.MessageKind.TheVariants.{Flush, Delimiter}
use Rattle.gixp_packetline.specs.Pieces.{Refusal, unexpected_frame, bad_band, Piece, line, mark, Pieces}

-- whether a payload is read whole, or by the sideband that its first byte names
pub data Banding : Type 0 where
  plain : Banding
  banded : Banding

-- what a packet line means to a reader: a line, a text of band 2 or 3 (the latter is an error), or a stop
pub data Item : Type 0 where
  line_item : List ℕ → Item
  text_item : (is_error : Bool) → List ℕ → Item
  stop_item : MessageKind → Item

-- the items of a stream up to its first error, and that error
pub record Items : Type 0 where
  pub list : List Item
  pub end : Refusal

-- no item before the error
abbrev pub no_items : Refusal → Items
no_items e = record { list = []; end = e }

-- one more item at the front
abbrev pub with_item : Item → Items → Items
with_item i rest = record { list = i ∷ rest.list; end = rest.end }

-- the packets that stop a reader: a flush packet, and under version 2 a delimiter packet too
abbrev pub is_stop : Protocol → MessageKind → Bool
is_stop version Flush = true
is_stop V2 Delimiter = true
is_stop _ _ = false

-- an empty text is no item
abbrev pub unless_empty : (List ℕ → Item) → List ℕ → Option Item
unless_empty item [] = None
unless_empty item (x ∷ xs) = Some (item (x ∷ xs))

-- a payload by its first byte: band 1 is content, band 2 progress, band 3 an error text; any other is an error
abbrev pub by_band : ℕ → List ℕ → Result (Option Item) Refusal
by_band band text =
    if band == 1 then Ok (unless_empty line_item text)
    else if band == 2 then Ok (unless_empty (text_item false) (strip_last 10 text))
    else if band == 3 then Ok (unless_empty (text_item true) (strip_last 10 text))
    else Err (bad_band band)

-- the item of a payload, if it has one, or the error of its band
abbrev pub item_of : Banding → List ℕ → Result (Option Item) Refusal
item_of plain text = Ok (Some (line_item text))
item_of banded [] = Ok None
item_of banded (band ∷ text) = by_band band text

-- the items after a payload; an error ends them
abbrev pub with_found : Result (Option Item) Refusal → Items → Items
with_found (Ok None) rest = rest
with_found (Ok (Some i)) rest = with_item i rest
with_found (Err e) rest = no_items e

-- each payload and each stop is an item; a special packet that is not a stop is an error
abbrev pub items_from : Protocol → Banding → List Piece → Refusal → Items
items_from version band [] end = no_items end
items_from version band (line text ∷ ps) end = with_found (item_of band text) (items_from version band ps end)
items_from version band (mark kind ∷ ps) end =
    if is_stop version kind then with_item (stop_item kind) (items_from version band ps end) else no_items unexpected_frame

-- the items of the packet lines of a stream
abbrev pub items_of : Protocol → Banding → Pieces → Items
items_of version band ps = items_from version band ps.list ps.end

-- how the lines end: at the first stop, with the items after it, or at the error
pub data ItemsEnd : Type 0 where
  at_stop : MessageKind → Items → ItemsEnd
  at_refusal : Refusal → ItemsEnd

pub record FirstLines : Type 0 where
  pub lines : List (List ℕ)
  pub ending : ItemsEnd

abbrev pub first_lines_from : List Item → Refusal → FirstLines
first_lines_from [] end = record { lines = []; ending = at_refusal end }
first_lines_from (line_item text ∷ is) end = let rest = first_lines_from is end in
    record { lines = text ∷ rest.lines; ending = rest.ending }
first_lines_from (text_item is_error text ∷ is) end = first_lines_from is end
first_lines_from (stop_item kind ∷ is) end = record { lines = []; ending = at_stop kind (record { list = is; end = end }) }

abbrev pub first_lines : Items → FirstLines
first_lines items = first_lines_from items.list items.end
