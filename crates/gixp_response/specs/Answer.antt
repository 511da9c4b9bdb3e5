-- The response to a fetch request, and the response that the packet lines of a stream have (gitprotocol-v2, "fetch";
-- gitprotocol-pack, "Packfile Negotiation").
use Rattle.std.specs.Prelude.{Bool, true, false, List, [], ◌∷◌, ◌++◌, Option, Some, None}
use Rattle.std.specs.Prelude.{Vec}
use Rattle.std.specs.declared.alloc.Global.{Global}
use Rattle.std.specs.declared.io.ErrorKind.TheVariants.{UnexpectedEof}
use Rattle.gixp_packetline.specs.Pieces.{Piece, Pieces, not_utf8}
use Rattle.gixp_response.specs.declared.fetch.response.line.Acknowledgement.{Acknowledgement}
use Rattle.gixp_shallow.specs.declared.update.ShallowUpdate.{ShallowUpdate}
use Rattle.gixp_response.specs.AnswerLine.{WantedValue}
use Rattle.gixp_response.specs.ResponseError.{AnswerRefusal, io_failed, unknown_line, unknown_header, by_reader}

pub record AnswerValue : Type 0 where
  pub acknowledgements : List Acknowledgement
  pub shallow_updates : List ShallowUpdate
  pub wanted_refs : List WantedValue
  -- whether a pack follows
  pub pack : Bool

-- a response without items; it only says whether a pack follows
abbrev pub no_more : Bool → AnswerValue
no_more pack = record { acknowledgements = []; shallow_updates = []; wanted_refs = []; pack = pack }

abbrev pub of_acknowledgement : Acknowledgement → AnswerValue
of_acknowledgement a = record { acknowledgements = a ∷ []; shallow_updates = []; wanted_refs = []; pack = false }

abbrev pub of_update : ShallowUpdate → AnswerValue
of_update u = record { acknowledgements = []; shallow_updates = u ∷ []; wanted_refs = []; pack = false }

abbrev pub of_wanted : WantedValue → AnswerValue
of_wanted w = record { acknowledgements = []; shallow_updates = []; wanted_refs = w ∷ []; pack = false }

-- the items of both responses, each kind in order; the flag says whether a pack follows
abbrev pub both : Bool → AnswerValue → AnswerValue → AnswerValue
both pack a b = record {
  acknowledgements = a.acknowledgements ++ b.acknowledgements;
  shallow_updates = a.shallow_updates ++ b.shallow_updates;
  wanted_refs = a.wanted_refs ++ b.wanted_refs;
  pack = pack;
}

-- the shallow updates that came with a handshake, if any
abbrev pub update_items : Option (Vec ShallowUpdate Global) → List ShallowUpdate
update_items None = []
update_items (Some updates) = updates.items

-- the result of reading: a whole response with the packet lines after it, or an error
pub data Found : Type 0 where
  whole : AnswerValue → Pieces → Found
  refused : AnswerRefusal → Found

-- these items before those of the response
abbrev pub in_front : AnswerValue → Found → Found
in_front had (whole v rest) = whole (both v.pack had v) rest
in_front had (refused e) = refused e

-- these packet lines before the others
abbrev pub front : List Piece → Pieces → Pieces
front taken rest = record { list = taken ++ rest.list; end = rest.end }

-- the errors that a line causes, or a stop in place of a line
abbrev pub is_of_line : AnswerRefusal → Bool
is_of_line (io_failed UnexpectedEof) = true
is_of_line (unknown_line line) = true
is_of_line (unknown_header line) = true
is_of_line (by_reader not_utf8) = true
is_of_line _ = false
