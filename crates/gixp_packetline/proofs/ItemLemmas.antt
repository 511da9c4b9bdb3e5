-- Lines among items.
use Rattle.std.proofs.Common.{◌≡◌, ℕ, Bool, true, false, cond, List, [], ◌∷◌, refl, ap}
use Rattle.gixp_packetline.specs.declared.protocol.Protocol.{Protocol}
use Rattle.gixp_packetline.specs.declared.protocol.MessageKind.{MessageKind}
use Rattle.gixp_packetline.specs.Pieces.{Refusal, unexpected_frame, Piece, line, mark, Pieces}
use Rattle.gixp_packetline.specs.Items.{is_stop, plain, items_of, with_item, no_items, stop_item, first_lines, FirstLines}
use Rattle.gixp_packetline.specs.Lines.{lines_from, no_lines, stop, refusal, as_first}

abbrev with_line : List ℕ → FirstLines → FirstLines
with_line text rest = record { lines = text ∷ rest.lines; ending = rest.ending }

-- at a special packet both end, or both fail
at_mark : (v : Protocol) (b : Bool) (kind : MessageKind) (rest : Pieces)
    → as_first v (cond b (no_lines (stop kind rest)) (no_lines (refusal unexpected_frame)))
    ≡ first_lines (cond b (with_item (stop_item kind) (items_of v plain rest)) (no_items unexpected_frame))
at_mark v true kind rest = refl
at_mark v false kind rest = refl

-- the lines are those among the items before the first stop
pub lines_of_items : (v : Protocol) (list : List Piece) (end : Refusal)
    → as_first v (lines_from v list end) ≡ first_lines (items_of v plain (record { list = list; end = end }))
lines_of_items v [] end = refl
lines_of_items v (line text ∷ ps) end = ap (with_line text) (lines_of_items v ps end)
lines_of_items v (mark kind ∷ ps) end = at_mark v (is_stop v kind) kind (record { list = ps; end = end })
