-- The offset of the pack in a response to a fetch (gitprotocol-v2, "fetch"; gitprotocol-pack, "Packfile Negotiation").
use Rattle.std.specs.Prelude.{◌≡◌, ℕ, ◌≤◌, ◌||◌, Bool, true, false, nat_eq, All, List, [], ◌∷◌, ◌++◌, length, codes}
use Rattle.std.specs.List.{starts_with}
use Rattle.gixp_packetline.specs.Pieces.{Piece, line, mark, Pieces, no_pieces}
use Rattle.gixp_records.specs.declared.packets.PacketRefused.{PacketRefused}
use Rattle.gixp_records.specs.Packets.{pieces_at, refusal_in, AreWordsWithin}

-- the header before a pack
abbrev pub is_header : List ℕ → Bool
is_header text = starts_with nat_eq text (codes "packfile")

-- an acknowledgement or a shallow update
abbrev pub precedes_pack : List ℕ → Bool
precedes_pack text = starts_with nat_eq text (codes "NAK") || starts_with nat_eq text (codes "ACK ")
    || starts_with nat_eq text (codes "shallow ") || starts_with nat_eq text (codes "unshallow ")

-- these pieces, then the others
abbrev pub pieces_before : List Piece → Pieces → Pieces
pieces_before taken rest = record { list = taken ++ rest.list; end = rest.end }

-- the piece isn't such a header
abbrev pub IsNoHeader : Piece → Type 0
IsNoHeader (line text) = is_header text ≡ false
IsNoHeader (mark kind) = Unit {0}

-- the piece isn't another line
abbrev pub PrecedesPack : Piece → Type 0
PrecedesPack (line text) = precedes_pack text ≡ true
PrecedesPack (mark kind) = Unit {0}

-- from one offset to another there are exactly these pieces
pub record ArePiecesTo (bytes : List ℕ) (from next : ℕ) (taken : List Piece) : Type 0 where
  pub pieces : pieces_at bytes from ≡ pieces_before taken (pieces_at bytes next)
  pub in_order : from ≤ next
  pub within : next ≤ length bytes

-- the offset follows the first header
pub record FollowsHeader (bytes : List ℕ) (from place : ℕ) : Type 0 where
  pub taken : List Piece
  pub header : List ℕ
  pub pieces : ArePiecesTo bytes from place (taken ++ line header ∷ [])
  pub others : All IsNoHeader taken
  pub named : is_header header ≡ true

-- the offset is that of the first line that is neither an acknowledgement nor a shallow update
pub record FollowsAcknowledgements (bytes : List ℕ) (from place : ℕ) : Type 0 where
  pub taken : List Piece
  pub first : List ℕ
  pub rest : Pieces
  pub pieces : ArePiecesTo bytes from place taken
  pub others : All PrecedesPack taken
  pub line : pieces_at bytes place ≡ pieces_before (line first ∷ []) rest
  pub other : precedes_pack first ≡ false

-- after some pieces the stream has only an error
pub record RefusedFrom (bytes : List ℕ) (from : ℕ) (e : PacketRefused) : Type 0 where
  pub taken : List Piece
  pub at : ℕ
  pub pieces : ArePiecesTo bytes from at taken
  pub refused : pieces_at bytes at ≡ no_pieces (refusal_in bytes e)
  pub words : AreWordsWithin bytes e
