-- The sidebands of a stream: content on band 1, messages on bands 2 and 3 (gitprotocol-pack, "Packfile Data"). A stop
-- is a flush packet, or under version 2 a delimiter packet.
use Rattle.std.specs.Prelude.{◌≡◌, ℕ, ◌+◌, ◌-◌, ◌^◌, ◌<◌, ◌≤◌, ◌⊎◌, ◌==◌, ◌&&◌, Bool, true, false, not, nat_lt, if◌then◌else◌, List, [], ◌∷◌, ◌++◌, length, drop, take, Option, Some, None, IfSome, Result, Ok, Err}
use Rattle.std.specs.Option.{option_map}
use Rattle.std.specs.Borrow.{GName, Bor}
use Rattle.std.specs.Io.BufRead.{strip_last}
use Rattle.std.specs.declared.io.ErrorKind.{ErrorKind}
use Rattle.std.specs.declared.io.ErrorKind.TheVariants.{OutOfMemory, Other, InvalidData}
use Rattle.gixp_packetline.specs.declared.protocol.MessageKind.{MessageKind}
use Rattle.gixp_sidebands.specs.declared.sidebands.band.Band.{Band}
use Rattle.gixp_sidebands.specs.declared.sidebands.band.Band.TheVariants.{Empty, Content, Text, Unknown}
use Rattle.gixp_packetline.specs.Pieces.{Refusal, io, bad_band, interrupted, memory, Piece, line, mark, Pieces, no_pieces, with_piece}
use Rattle.gixp_packetline.specs.Items.{Item, line_item, text_item, stop_item, Items}
use Rattle.gixp_packetline.specs.Lines.{Ending}
use Rattle.gixp_packetline.specs.declared.read.Error.{Error}
use Rattle.gixp_packetline.specs.Reading.{Reading, AtStop, Refuses, Faults, Fails, lines_ahead}
use Rattle.std.specs.IoError.{error_kind}
use Rattle.std.specs.declared.io.Error.{Error as io_error}

-- the meaning of a line, by its first byte and its length
abbrev pub band_at : ℕ → ℕ → Band
band_at band len =
    if band == 1 then (if len == 1 then Empty else Content)
    else if band == 2 then Text false
    else if band == 3 then Text true
    else Unknown band

-- the meaning of a line to a sideband reader
abbrev pub band_of : List ℕ → Band
band_of [] = Empty
band_of (band ∷ text) = band_at band (length (band ∷ text))

abbrev pub is_content : Band → Bool
is_content Content = true
is_content _ = false

-- the error of a line whose first byte is not a band
abbrev pub band_refusal : Band → Option Refusal
band_refusal (Unknown band) = Some (bad_band band)
band_refusal _ = None

-- a line that is neither content nor an error
abbrev pub IsPassed : Band → Type 0
IsPassed Content = ⊥
IsPassed (Unknown band) = ⊥
IsPassed _ = Unit {0}

-- the content of a line, before the content after it
abbrev pub unband_line : Band → List ℕ → Pieces → Pieces
unband_line Content text rest = with_piece (line (drop 1 text)) rest
unband_line (Unknown band) text rest = no_pieces (bad_band band)
unband_line _ text rest = rest

abbrev pub unband_from : List Piece → Refusal → Pieces
unband_from [] end = no_pieces end
unband_from (line text ∷ ps) end = unband_line (band_of text) text (unband_from ps end)
unband_from (mark kind ∷ ps) end = with_piece (mark kind) (unband_from ps end)

-- the content of a banded stream: each line of band 1 without its band byte, each special packet, and an error for a line without a band
abbrev pub unband : Pieces → Pieces
unband ps = unband_from ps.list ps.end

abbrev pub unband_after_from : List Piece → Refusal → Pieces
unband_after_from [] end = no_pieces end
unband_after_from (p ∷ ps) end = unband_from ps end

-- the content after the first packet line
abbrev pub unband_after : Pieces → Pieces
unband_after ps = unband_after_from ps.list ps.end

abbrev pub content_from : List Piece → List ℕ
content_from [] = []
content_from (line text ∷ ps) = text ++ content_from ps
content_from (mark kind ∷ ps) = []

-- the bytes of band 1 before the next special packet or error, joined
abbrev pub content_of : Pieces → List ℕ
content_of ps = content_from (unband ps).list

-- the message of a packet of band 2 (progress) or 3 (error), without one ending LF; it may be empty
pub record Message : Type 0 where
  pub is_error : Bool
  pub text : List ℕ

abbrev pub message_in : Bool → List ℕ → Message
message_in is_error text = record { is_error = is_error; text = strip_last 10 (drop 1 text) }

-- the messages of a line and of those after it
abbrev pub messages_line : Band → List ℕ → List Message → List Message
messages_line (Text is_error) text rest = message_in is_error text ∷ rest
messages_line (Unknown band) text rest = []
messages_line _ text rest = rest

abbrev pub messages_from : List Piece → List Message
messages_from [] = []
messages_from (line text ∷ ps) = messages_line (band_of text) text (messages_from ps)
messages_from (mark kind ∷ ps) = []

-- the messages before the next special packet or error
abbrev pub messages_of : Pieces → List Message
messages_of ps = messages_from ps.list

-- how many bytes of the open packet were returned
abbrev pub handed : Option ℕ → ℕ
handed None = 0
handed (Some n) = n

abbrev pub is_begun : Option ℕ → Bool
is_begun place = nat_lt 0 (handed place)

-- whether an open packet is a content line that was peeked at, with bytes left, and within the bound of the reader
abbrev pub is_held : Option ℕ → Reading → Bool
is_held None r = true
is_held (Some n) r = r.peeked && (is_content (band_of r.line) && (nat_lt (n + 1) (length r.line) && nat_lt (length r.line) r.left))

abbrev pub front_line : List Piece → List ℕ
front_line [] = []
front_line (line text ∷ ps) = text
front_line (mark kind ∷ ps) = []

-- the open packet, if there is one, is the first of these packet lines
abbrev pub IsFirst : Option ℕ → Reading → Pieces → Type 0
IsFirst None r p = Unit {0}
IsFirst (Some n) r p = front_line p.list ≡ r.line

-- the bytes of the open packet that were not yet returned
abbrev pub shown : Option ℕ → Reading → List ℕ
shown None r = []
shown (Some n) r = drop (n + 1) r.line

-- the bytes of band 1 before the next stop that were not yet returned; none at a stop
abbrev pub content_left : Option ℕ → Option MessageKind → Pieces → List ℕ
content_left (Some n) stopped p = drop n (content_of p)
content_left None (Some kind) p = []
content_left None None p = content_of p

-- the messages before the next stop that were not yet reported; none at a stop
abbrev pub messages_left : Option MessageKind → Pieces → List Message
messages_left (Some kind) p = []
messages_left None p = messages_of p

-- no message was reported or lost
abbrev pub KeepsMessages : Reading → Reading → Type 0
KeepsMessages old new =
    IfSome old.to_come (λ p. (q : Pieces) × (new.to_come ≡ Some q) × (messages_left new.stopped q ≡ messages_left old.stopped p))

-- the end of the content: the next stop, with the content after it, or an error; it doesn't depend on the offset in a packet
abbrev pub end_left : Reading → Pieces → Ending
end_left r p = (lines_ahead r (unband p)).ending

-- the end of the content is unchanged
abbrev pub KeepsEnd : Reading → Reading → Type 0
KeepsEnd old new = IfSome old.to_come (λ p. (q : Pieces) × (new.to_come ≡ Some q) × (end_left new q ≡ end_left old p))

-- no failure was counted, though the count could still rise
abbrev pub IsUncounted : Reading → Reading → Type 0
IsUncounted old new = (new.failures ≡ old.failures) × (new.failures < 2 ^ 64 - 1)

-- the end of the content is unchanged unless a failure was counted; a read that failed with `UnexpectedEof` ends the content
abbrev pub KeepsEndUncounted : Reading → Reading → Type 0
KeepsEndUncounted old new = IsUncounted old new → KeepsEnd old new

-- the state of a sideband reader, from the state of the reader below, which it borrows by this name; a packet that was
-- begun counts as taken
abbrev pub banded_reading : Bool → GName → Reading → Reading
banded_reading begun name r = record {
  to_come = option_map (if begun then unband_after else unband) r.to_come;
  refused = if begun then None else if r.peeked then band_refusal (band_of r.line) else r.refused;
  stopped = r.stopped;
  version = r.version;
  line = drop 1 r.line;
  peeked = not begun && (r.peeked && is_content (band_of r.line));
  failures = r.failures;
  left = r.left;
  held = record r.held { names = name ∷ r.held.names };
}

-- these bytes of band 1 were returned
pub record HandsOut (place : Option ℕ) (old : Reading) (bytes : List ℕ) (place' : Option ℕ) (new : Reading) : Type 0 where
  pub content : IfSome old.to_come (λ p. IsFirst place old p → (q : Pieces) × (new.to_come ≡ Some q) × IsFirst place' new q
      × (content_left place old.stopped p ≡ bytes ++ content_left place' new.stopped q))
  pub messages : IfSome old.to_come (λ p. (q : Pieces) × (new.to_come ≡ Some q)
      × (messages_left new.stopped q ≡ messages_left old.stopped p))
  pub ending : KeepsEnd old new
  pub stopped : new.stopped ≡ old.stopped
  pub version : new.version ≡ old.version
  pub failures : new.failures ≡ old.failures
  pub left : new.left ≤ old.left
  pub bound : length bytes + (new.left - handed place') ≤ old.left - handed place
  pub held : new.held ≡ old.held

-- the I/O error that `Read` and `BufRead` return for an error of the reader
abbrev pub io_kind : Refusal → ErrorKind
io_kind (io kind) = kind
io_kind memory = OutOfMemory
io_kind interrupted = Other
io_kind _ = InvalidData

-- a sideband reader: the offset in the open packet, the names of the borrowed reader and interrupt, the state of the
-- reader below, and the error of the last call of `Read` or `BufRead`
pub record Side : Type 0 where
  pub place : Option ℕ
  pub name : GName
  pub asks : GName
  pub reading : Reading
  pub fault : Option Refusal

-- the state of a sideband reader, as a reader of lines
abbrev pub side_reading : Side → Reading
side_reading s = banded_reading (is_begun s.place) s.name s.reading

-- the content still to come, where the reader below has these packet lines to come
abbrev pub side_content : Side → Pieces → List ℕ
side_content s p = content_left s.place s.reading.stopped p

-- the open packet is the first of these packet lines
abbrev pub IsFirstOf : Side → Pieces → Type 0
IsFirstOf s p = IsFirst s.place s.reading p

-- these bytes of content were passed on; the content still to come follows them
abbrev pub Passes : Side → Side → List ℕ → Type 0
Passes old new bytes = IfSome old.reading.to_come (λ p. IsFirstOf old p → (q : Pieces) × (new.reading.to_come ≡ Some q)
    × IsFirstOf new q × (side_content old p ≡ bytes ++ side_content new q))

-- an upper bound of the bytes of content still to come; each returned byte lowers it
abbrev pub content_bound : Side → ℕ
content_bound s = s.reading.left - handed s.place

-- the open packet has bytes of content to return
pub record ShowsContent (old new : Side) : Type 0 where
  pub content : Passes old new []
  pub ending : KeepsEnd old.reading new.reading
  pub some : 0 < length (shown new.place new.reading)
  pub version : new.reading.version ≡ old.reading.version
  pub failures : new.reading.failures ≡ old.reading.failures
  pub left : new.reading.left ≤ old.reading.left
  pub bound : content_bound new ≤ content_bound old
  pub held : (side_reading new).held ≡ (side_reading old).held
  pub fault : new.fault ≡ None

-- the reader is at a stop, and no content is left before it
pub record EndsContent (old new : Side) : Type 0 where
  pub at_stop : AtStop (side_reading old) (side_reading new)
  pub content : IfSome old.reading.to_come (λ p. side_content old p ≡ [])
  pub rest : Passes old new []
  pub ending : KeepsEnd old.reading new.reading
  pub bound : content_bound new ≤ content_bound old
  pub place : new.place ≡ None
  pub fault : new.fault ≡ None

-- an error, which `fault` has until the next call. It only occurs with no packet open. No content is lost, except by a
-- failed read with `UnexpectedEof`; before another error of the stream there was none left.
pub record RefusesContent (old new : Side) (e : io_error) : Type 0 where
  pub refusal : Refusal
  pub fault : new.fault ≡ Some refusal
  pub kind : error_kind e ≡ io_kind refusal
  pub fails : Fails (side_reading old) (side_reading new) refusal
  pub unopened : old.place ≡ None
  pub place : new.place ≡ None
  pub lost : List ℕ
  pub rest : Passes old new lost
  pub ending : KeepsEndUncounted old.reading new.reading
  pub bound : content_bound new ≤ content_bound old
  pub keeps : Faults (side_reading old) (side_reading new) refusal → lost ≡ []
  pub ends : Refuses (side_reading old) (side_reading new) refusal → IfSome old.reading.to_come (λ p. side_content old p ≡ [])

-- a call that opens the next packet of content (true) or is at a stop (false)
abbrev pub FillsContent : Side → Side → Result Bool io_error → Type 0
FillsContent old new (Ok true) = ShowsContent old new
FillsContent old new (Ok false) = EndsContent old new
FillsContent old new (Err e) = RefusesContent old new e

-- a call that lends the bytes of the open packet; none only at a stop
abbrev pub FillsLent : Side → Side → Result (Bor (List ℕ)) io_error → Type 0
FillsLent old new (Ok bytes) = (bytes.now ≡ shown new.place new.reading) × (ShowsContent old new ⊎ EndsContent old new)
FillsLent old new (Err e) = RefusesContent old new e

-- the offset after a call that opens a packet
abbrev pub place_after : Result Bool Error → Option ℕ
place_after (Ok true) = Some 0
place_after _ = None

-- a packet of content that a call opened is the first of the packet lines to come
abbrev pub ShowsFirst : Reading → Reading → Result Bool Error → Type 0
ShowsFirst old new (Ok true) = IfSome old.to_come (λ p. (q : Pieces) × (new.to_come ≡ Some q) × (front_line q.list ≡ new.line))
ShowsFirst old new _ = Unit {0}

-- these bytes of content were returned
pub record ReadsBytes (old new : Side) (bytes : List ℕ) : Type 0 where
  pub content : Passes old new bytes
  pub ending : KeepsEnd old.reading new.reading
  pub bound : length bytes + content_bound new ≤ content_bound old
  pub version : new.reading.version ≡ old.reading.version
  pub failures : new.reading.failures ≡ old.reading.failures
  pub left : new.reading.left ≤ old.reading.left
  pub held : (side_reading new).held ≡ (side_reading old).held
  pub fault : new.fault ≡ None

-- a call of `read`: its bytes are the next ones; it returns 0 for a nonempty buffer only at a stop
abbrev pub ReadsContent : Side → Side → Result ℕ io_error → List ℕ → Type 0
ReadsContent old new (Ok n) buf = (ReadsBytes old new (take n buf) × (n ≡ 0 → length buf ≡ 0)) ⊎ ((n ≡ 0) × EndsContent old new)
ReadsContent old new (Err e) buf = RefusesContent old new e

-- these lists, one after another
abbrev pub joined : List (List ℕ) → List ℕ
joined [] = []
joined (xs ∷ xss) = xs ++ joined xss

-- a message is reported unless its text is empty
abbrev pub messages_before : Bool → List ℕ → List Message → List Message
messages_before is_error [] rest = rest
messages_before is_error (x ∷ xs) rest = record { is_error = is_error; text = x ∷ xs } ∷ rest

abbrev pub received_messages : List Message → List Message
received_messages [] = []
received_messages (m ∷ ms) = messages_before m.is_error m.text (received_messages ms)

-- the texts among the items before the first stop
abbrev pub first_texts : List Item → List Message
first_texts [] = []
first_texts (line_item text ∷ is) = first_texts is
first_texts (text_item is_error text ∷ is) = record { is_error = is_error; text = text } ∷ first_texts is
first_texts (stop_item kind ∷ is) = []

-- the items without texts
abbrev pub no_texts : List Item → List Item
no_texts [] = []
no_texts (line_item text ∷ is) = line_item text ∷ no_texts is
no_texts (text_item is_error text ∷ is) = no_texts is
no_texts (stop_item kind ∷ is) = stop_item kind ∷ no_texts is

abbrev pub without_texts : Items → Items
without_texts items = record { list = no_texts items.list; end = items.end }
