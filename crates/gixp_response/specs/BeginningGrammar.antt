-- Responses of versions 0 and 1 as a relation: the shortest beginning that is a response (gitprotocol-pack, "Packfile Negotiation").
use Rattle.std.specs.Prelude.{◌≡◌, ⊤, Bool, true, List, [], ◌∷◌, ◌++◌, Option, Some, None}
use Rattle.gixp_packetline.specs.declared.protocol.Protocol.{Protocol}
use Rattle.gixp_packetline.specs.Items.{is_stop}
use Rattle.gixp_packetline.specs.Lines.{refuses, next_of}
use Rattle.gixp_packetline.specs.Pieces.{Refusal, Piece, line, mark, Pieces}
use Rattle.gixp_response.specs.ResponseError.{AnswerRefusal, from_reader}
use Rattle.gixp_response.specs.Answer.{AnswerValue, front}
use Rattle.gixp_response.specs.Beginnings.{AnswerItem, line_item, stopped, Expected, ends, answer_in}

-- the items of these packet lines after the items before them, the last one first
abbrev pub items_after : List Piece → List AnswerItem → List AnswerItem
items_after [] before = before
items_after (line text ∷ ps) before = items_after ps (line_item text ∷ before)
items_after (mark kind ∷ ps) before = items_after ps (stopped ∷ before)

-- whether a response ends after the packet lines `taken`, and if so, whether a pack follows
abbrev pub ends_after : Protocol → Expected → List Piece → Pieces → Option Bool
ends_after version a taken rest = ends a (items_after taken []) (next_of version rest)

-- each special packet among these packet lines is a stop
abbrev pub AreStops : Protocol → List Piece → Type 0
AreStops version [] = ⊤
AreStops version (line text ∷ ps) = AreStops version ps
AreStops version (mark kind ∷ ps) = (is_stop version kind ≡ true) × AreStops version ps

-- these packet lines begin with a response, and no shorter beginning is one
pub record IsShortest (version : Protocol) (a : Expected) (p : Pieces) (value : AnswerValue) (rest : Pieces) : Type 0 where
  pub taken : List Piece
  pub pack : Bool
  pub split : p ≡ front taken rest
  pub stops : AreStops version taken
  pub ended : ends_after version a taken rest ≡ Some pack
  pub response : value ≡ answer_in (items_after taken []) pack
  pub shortest : (shorter : List Piece) (next : Piece) (more : List Piece) → taken ≡ shorter ++ next ∷ more
      → ends_after version a shorter (front (next ∷ more) rest) ≡ None

-- no beginning is a response, and an error comes after the longest one
pub record BeginningIsRefused (version : Protocol) (a : Expected) (p : Pieces) (e : AnswerRefusal) : Type 0 where
  pub taken : List Piece
  pub rest : Pieces
  pub split : p ≡ front taken rest
  pub stops : AreStops version taken
  pub refusal : Refusal
  pub next : next_of version rest ≡ refuses refusal
  pub error : e ≡ from_reader refusal
  pub unended : (shorter more : List Piece) → taken ≡ shorter ++ more → ends_after version a shorter (front more rest) ≡ None
