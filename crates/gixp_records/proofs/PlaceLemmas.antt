-- Pieces from one offset to another.
use Rattle.std.proofs.Common.{◌≡◌, ℕ, List, [], ◌∷◌, ◌++◌, sym, ap, ◌∙◌, arith, append_assoc}
use Rattle.gixp_packetline.specs.Pieces.{Piece, Pieces, with_piece}
use Rattle.gixp_records.specs.Packets.{pieces_at, IsAfterPacket}
use Rattle.gixp_records.specs.Place.{pieces_before, ArePiecesTo}

pub pieces_more : (bytes : List ℕ) (from at next : ℕ) (taken : List Piece) (p : Piece) → ArePiecesTo bytes from at taken
    → pieces_at bytes at ≡ with_piece p (pieces_at bytes next) → IsAfterPacket bytes at next
    → ArePiecesTo bytes from next (taken ++ p ∷ [])
pieces_more bytes from at next taken p so e b =
    let rest = pieces_at bytes next in
    let after = b.0 in
    let inside = b.1 in
    let order = so.in_order in
    record {
      pieces = so.pieces ∙ ap (pieces_before taken) e
          ∙ ap (λ (l : List Piece). let q : Pieces = record { list = l; end = rest.end } in q)
          (sym (append_assoc taken (p ∷ []) rest.list));
      in_order = omega arith;
      within = inside;
    }
