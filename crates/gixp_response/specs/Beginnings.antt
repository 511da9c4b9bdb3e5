-- Responses of versions 0 and 1: the shortest beginning of the stream that is a response (gitprotocol-pack, "Packfile
-- Negotiation"; where it ends is this project's own rule).
use Rattle.std.specs.Prelude.{ℕ, Bool, true, false, not, ◌&&◌, if◌then◌else◌, List, [], ◌∷◌, ◌++◌, Option, Some, None}
use Rattle.std.specs.List.{list_any}
use Rattle.std.specs.Str.{is_utf8}
use Rattle.std.specs.declared.io.ErrorKind.TheVariants.{UnexpectedEof}
use Rattle.gixp_packetline.specs.declared.protocol.Protocol.{Protocol}
use Rattle.gixp_packetline.specs.Items.{is_stop}
use Rattle.gixp_packetline.specs.Lines.{Next, gives, stops, refuses}
use Rattle.gixp_packetline.specs.Pieces.{Refusal, io, Piece, line, mark, Pieces, no_pieces, unexpected_frame}
use Rattle.gixp_capabilities.specs.Capabilities.{is_text}
use Rattle.gixp_response.specs.AnswerLine.{acknowledgement_line, shallow_update_line}
use Rattle.gixp_response.specs.ResponseError.{by_reader, from_reader}
use Rattle.gixp_response.specs.Answer.{AnswerValue, Found, whole, refused}
use Rattle.gixp_response.specs.declared.fetch.response.line.Acknowledgement.{Acknowledgement}
use Rattle.gixp_response.specs.declared.fetch.response.line.Acknowledgement.TheVariants.{Common, Ready, Nak}
use Rattle.gixp_shallow.specs.declared.update.ShallowUpdate.{ShallowUpdate}
use Rattle.gixp_response.specs.declared.fetch.response.beginnings.ResponseLine.{ResponseLine}
use Rattle.gixp_response.specs.declared.fetch.response.beginnings.ResponseLine.TheVariants.{Acknowledgement as LineAcknowledgement, ShallowUpdate as LineUpdate}

-- an item of a response: an acknowledgement, a shallow update, another line, or a stop
pub data AnswerItem : Type 0 where
  acknowledged : Acknowledgement → AnswerItem
  updated : ShallowUpdate → AnswerItem
  other : AnswerItem
  stopped : AnswerItem

abbrev pub update_or_other : Option ShallowUpdate → AnswerItem
update_or_other (Some u) = updated u
update_or_other None = other

abbrev pub item_by : Option Acknowledgement → Option ShallowUpdate → AnswerItem
item_by (Some a) u = acknowledged a
item_by None u = update_or_other u

-- a line that isn't UTF-8 is another line
abbrev pub line_item : List ℕ → AnswerItem
line_item text = if is_utf8 text then item_by (acknowledgement_line text) (shallow_update_line text) else other

abbrev pub is_nak : AnswerItem → Bool
is_nak (acknowledged Nak) = true
is_nak _ = false

abbrev pub is_ready : AnswerItem → Bool
is_ready (acknowledged Ready) = true
is_ready _ = false

abbrev pub is_stopped : AnswerItem → Bool
is_stopped stopped = true
is_stopped _ = false

abbrev pub is_other : AnswerItem → Bool
is_other other = true
is_other _ = false

-- whether an error is the end of the stream
abbrev pub is_at_end : Refusal → Bool
is_at_end (io UnexpectedEof) = true
is_at_end _ = false

-- whether the last item passes the test; lists of items have the last one first
abbrev pub last_is : (AnswerItem → Bool) → List AnswerItem → Bool
last_is p [] = false
last_is p (i ∷ before) = p i

abbrev pub last_two_are : (AnswerItem → Bool) → List AnswerItem → Bool
last_two_are p [] = false
last_two_are p (i ∷ before) = p i && last_is p before

-- the item of a line that the code has read
abbrev pub line_item_of : Option ResponseLine → AnswerItem
line_item_of (Some (LineAcknowledgement a)) = acknowledged a
line_item_of (Some (LineUpdate u)) = updated u
line_item_of None = other

-- what the client expects: whether a pack follows, and whether it wants to negotiate
pub record Expected : Type 0 where
  pub expects_pack : Bool
  pub negotiates : Bool

abbrev pub expected : Bool → Bool → Expected
expected expects_pack negotiates = record { expects_pack = expects_pack; negotiates = negotiates }

-- the last item is a `NAK`, and the client wants to negotiate; a client that expects a pack goes on if a `ready` came before
abbrev pub ends_by_nak : Expected → List AnswerItem → Bool
ends_by_nak a before = (last_is is_nak before && a.negotiates) && not (a.expects_pack && list_any is_ready before)

-- a response ends before another line, which begins the pack, and at the end of the stream, unless a stop comes right before that
abbrev pub ends_before : List AnswerItem → Next → Option Bool
ends_before before (gives text rest) = if is_other (line_item text) then Some true else None
ends_before before (refuses e) = if is_at_end e && not (last_is is_stopped before) then Some false else None
ends_before before (stops kind rest) = None

-- whether a response ends after these items, and if so, whether a pack follows
abbrev pub ends : Expected → List AnswerItem → Next → Option Bool
ends a before next =
    if ends_by_nak a before then Some false
    else if last_two_are is_stopped before then Some false
    else ends_before before next

abbrev pub is_common : Acknowledgement → Bool
is_common (Common id) = true
is_common _ = false

-- whether both name the same commit as common
abbrev pub is_same_common : Acknowledgement → Acknowledgement → Bool
is_same_common (Common a) (Common b) = is_text a.bytes b.bytes
is_same_common _ _ = false

-- a commit that is already named as common isn't added again
abbrev pub with_acknowledgement : List Acknowledgement → Acknowledgement → List Acknowledgement
with_acknowledgement had a = if list_any (λ x. is_same_common x a) had then had else had ++ a ∷ []

abbrev pub acknowledgements_in : List AnswerItem → List Acknowledgement
acknowledgements_in [] = []
acknowledgements_in (acknowledged a ∷ before) = with_acknowledgement (acknowledgements_in before) a
acknowledgements_in (_ ∷ before) = acknowledgements_in before

abbrev pub updates_in : List AnswerItem → List ShallowUpdate
updates_in [] = []
updates_in (updated u ∷ before) = updates_in before ++ u ∷ []
updates_in (_ ∷ before) = updates_in before

-- the response that these items make
abbrev pub answer_in : List AnswerItem → Bool → AnswerValue
answer_in before pack =
    record { acknowledgements = acknowledgements_in before; shallow_updates = updates_in before; wanted_refs = []; pack = pack }

-- the response with one more item
abbrev pub answer_with : AnswerValue → AnswerItem → AnswerValue
answer_with had (acknowledged a) = record had { acknowledgements = with_acknowledgement had.acknowledgements a }
answer_with had (updated u) = record had { shallow_updates = had.shallow_updates ++ u ∷ [] }
answer_with had _ = had

-- the response ends here, or further on
abbrev pub unless_ends : Option Bool → List AnswerItem → Pieces → Found → Found
unless_ends (Some pack) before rest longer = whole (answer_in before pack) rest
unless_ends None before rest longer = longer

-- the response that ends after the items `before` or further on; the others are the packet lines to come
abbrev pub beginnings_from : Protocol → Expected → List Piece → Refusal → List AnswerItem → Found
beginnings_from version a [] end before =
    unless_ends (ends a before (refuses end)) before (no_pieces end) (refused (from_reader end))
beginnings_from version a (line text ∷ ps) end before =
    unless_ends (ends a before (gives text (record { list = ps; end = end }))) before (record { list = line text ∷ ps; end = end })
    (beginnings_from version a ps end (line_item text ∷ before))
beginnings_from version a (mark kind ∷ ps) end before =
    if is_stop version kind
    then unless_ends (ends a before (stops kind (record { list = ps; end = end }))) before (record { list = mark kind ∷ ps; end = end })
    (beginnings_from version a ps end (stopped ∷ before))
    else unless_ends (ends a before (refuses unexpected_frame)) before (record { list = mark kind ∷ ps; end = end })
    (refused (by_reader unexpected_frame))

-- the response by the shortest beginning
abbrev pub v1_answer : Protocol → Expected → Pieces → Found
v1_answer version a p = beginnings_from version a p.list p.end []
