-- Content and messages among banded items.
use Rattle.std.proofs.Common.{◌≡◌, ℕ, Bool, true, false, cond, eqb, List, [], ◌∷◌, ◌++◌, length, drop, refl, sym, ap, ◌∙◌, arith, ne_eqb, Option, Some, None, Result, Ok, Err}
use Rattle.std.specs.Io.BufRead.{strip_last}
use Rattle.gixp_packetline.specs.declared.protocol.Protocol.{Protocol}
use Rattle.gixp_packetline.specs.declared.protocol.MessageKind.{MessageKind}
use Rattle.gixp_sidebands.specs.declared.sidebands.band.Band.{Band}
use Rattle.gixp_sidebands.specs.declared.sidebands.band.Band.TheVariants.{Empty, Content, Text, Unknown}
use Rattle.gixp_packetline.specs.Pieces.{Refusal, bad_band, unexpected_frame, Piece, line, mark, Pieces}
use Rattle.gixp_packetline.specs.Items.{is_stop, plain, banded, Item, line_item, text_item, stop_item, item_of, unless_empty, Items, with_found, items_from, items_of, with_item, no_items, first_lines}
use Rattle.gixp_packetline.specs.Lines.{lines_of, lines_from, no_lines, stop, refusal}
use Rattle.gixp_sidebands.specs.Bands.{band_of, unband_line, unband_from, content_from, Message, messages_line, messages_from, joined, messages_before, received_messages, first_texts, without_texts}

-- the item of a line, by its band
abbrev item_by : Band → List ℕ → Result (Option Item) Refusal
item_by Empty text = Ok None
item_by Content text = Ok (Some (line_item (drop 1 text)))
item_by (Text is_error) text = Ok (unless_empty (text_item is_error) (strip_last 10 (drop 1 text)))
item_by (Unknown band) text = Err (bad_band band)

-- by whether the first byte is a band, and which one
item_cases : (band : ℕ) (text : List ℕ) (b1 b2 b3 b4 : Bool) → unless_empty line_item text ≡ cond b4 None (Some (line_item text))
    → cond b1 (Ok (unless_empty line_item text))
    (cond b2 (Ok (unless_empty (text_item false) (strip_last 10 text)))
    (cond b3 (Ok (unless_empty (text_item true) (strip_last 10 text))) (Err (bad_band band))))
    ≡ item_by (cond b1 (cond b4 Empty Content) (cond b2 (Text false) (cond b3 (Text true) (Unknown band)))) (band ∷ text)
item_cases band text true b2 b3 true e = ap Ok e
item_cases band text true b2 b3 false e = ap Ok e
item_cases band text false true b3 b4 e = refl
item_cases band text false false true b4 e = refl
item_cases band text false false false b4 e = refl

content_cases : (band : ℕ) (text : List ℕ) → unless_empty line_item text ≡ cond (eqb (length (band ∷ text)) 1) None (Some (line_item text))
content_cases band [] = refl
content_cases band (x ∷ xs) = ap (λ b. cond b None (Some (line_item (x ∷ xs)))) (sym (ne_eqb (length (band ∷ (x ∷ xs))) 1 (omega arith)))

item_at : (text : List ℕ) → item_of banded text ≡ item_by (band_of text) text
item_at [] = refl
item_at (band ∷ text) = item_cases band text (eqb band 1) (eqb band 2) (eqb band 3) (eqb (length (band ∷ text)) 1) (content_cases band text)

-- a text is no line, and is reported unless it is empty
no_line : (is_error : Bool) (text : List ℕ) (rest : Items)
    → (first_lines (with_found (Ok (unless_empty (text_item is_error) text)) rest)).lines ≡ (first_lines rest).lines
no_line is_error [] rest = refl
no_line is_error (x ∷ xs) rest = refl

one_text : (is_error : Bool) (text : List ℕ) (rest : Items) → first_texts
    (with_found (Ok (unless_empty (text_item is_error) text)) rest).list ≡ messages_before is_error text (first_texts rest.list)
one_text is_error [] rest = refl
one_text is_error (x ∷ xs) rest = refl

line_step : (v : Protocol) (k : Band) (text : List ℕ) (rest : Pieces) (items : Items) → (lines_of v rest).lines ≡ (first_lines items).lines
    → (lines_of v (unband_line k text rest)).lines ≡ (first_lines (with_found (item_by k text) items)).lines
line_step v Empty text rest items h = h
line_step v Content text rest items h = ap (λ x. drop 1 text ∷ x) h
line_step v (Text b) text rest items h = h ∙ sym (no_line b (strip_last 10 (drop 1 text)) items)
line_step v (Unknown b) text rest items h = refl

lines_mark : (v : Protocol) (b : Bool) (kind : MessageKind) (rest : Pieces) (items : Items)
    → (cond b (no_lines (stop kind rest)) (no_lines (refusal unexpected_frame))).lines
    ≡ (first_lines (cond b (with_item (stop_item kind) items) (no_items unexpected_frame))).lines
lines_mark v true kind rest items = refl
lines_mark v false kind rest items = refl

-- the lines of the content are those among the banded items
pub content_lines : (v : Protocol) (list : List Piece) (end : Refusal)
    → (lines_of v (unband_from list end)).lines ≡ (first_lines (items_from v banded list end)).lines
content_lines v [] end = refl
content_lines v (line text ∷ ps) end =
    line_step v (band_of text) text (unband_from ps end) (items_from v banded ps end) (content_lines v ps end)
    ∙ ap (λ x. (first_lines (with_found x (items_from v banded ps end))).lines) (sym (item_at text))
content_lines v (mark kind ∷ ps) end = lines_mark v (is_stop v kind) kind (unband_from ps end) (items_from v banded ps end)

joined_mark : (b : Bool) (kind : MessageKind) (rest : Pieces)
    → [] ≡ joined (cond b (no_lines (stop kind rest)) (no_lines (refusal unexpected_frame))).lines
joined_mark true kind rest = refl
joined_mark false kind rest = refl

joined_lines : (v : Protocol) (list : List Piece) (end : Refusal) → content_from list ≡ joined (lines_from v list end).lines
joined_lines v [] end = refl
joined_lines v (line text ∷ ps) end = ap (λ x. text ++ x) (joined_lines v ps end)
joined_lines v (mark kind ∷ ps) end = joined_mark (is_stop v kind) kind (record { list = ps; end = end })

-- the bytes of the content are these lines, joined
pub content_items : (v : Protocol) (list : List Piece) (end : Refusal)
    → content_from (unband_from list end).list ≡ joined (first_lines (items_from v banded list end)).lines
content_items v list end = joined_lines v (unband_from list end).list (unband_from list end).end ∙ ap joined (content_lines v list end)

text_step : (k : Band) (text : List ℕ) (rest : List Message) (items : Items) → received_messages rest ≡ first_texts items.list
    → received_messages (messages_line k text rest) ≡ first_texts (with_found (item_by k text) items).list
text_step Empty text rest items h = h
text_step Content text rest items h = h
text_step (Text b) text rest items h = ap (messages_before b (strip_last 10 (drop 1 text))) h
    ∙ sym (one_text b (strip_last 10 (drop 1 text)) items)
text_step (Unknown b) text rest items h = refl

texts_mark : (b : Bool) (kind : MessageKind) (items : Items)
    → [] ≡ first_texts (cond b (with_item (stop_item kind) items) (no_items unexpected_frame)).list
texts_mark true kind items = refl
texts_mark false kind items = refl

-- the reported messages are the texts among the banded items
pub messages_items : (v : Protocol) (list : List Piece) (end : Refusal)
    → received_messages (messages_from list) ≡ first_texts (items_from v banded list end).list
messages_items v [] end = refl
messages_items v (line text ∷ ps) end =
    text_step (band_of text) text (messages_from ps) (items_from v banded ps end) (messages_items v ps end)
    ∙ ap (λ x. first_texts (with_found x (items_from v banded ps end)).list) (sym (item_at text))
messages_items v (mark kind ∷ ps) end = texts_mark (is_stop v kind) kind (items_from v banded ps end)

-- ---- items without texts

no_item : (is_error : Bool) (text : List ℕ) (rest : Items)
    → without_texts (with_found (Ok (unless_empty (text_item is_error) text)) rest) ≡ without_texts rest
no_item is_error [] rest = refl
no_item is_error (x ∷ xs) rest = refl

item_step : (v : Protocol) (k : Band) (text : List ℕ) (rest : Pieces) (items : Items) → items_of v plain rest ≡ without_texts items
    → items_of v plain (unband_line k text rest) ≡ without_texts (with_found (item_by k text) items)
item_step v Empty text rest items h = h
item_step v Content text rest items h = ap (with_item (line_item (drop 1 text))) h
item_step v (Text b) text rest items h = h ∙ sym (no_item b (strip_last 10 (drop 1 text)) items)
item_step v (Unknown b) text rest items h = refl

items_mark : (b : Bool) (kind : MessageKind) (content items : Items) → content ≡ without_texts items
    → cond b (with_item (stop_item kind) content) (no_items unexpected_frame)
    ≡ without_texts (cond b (with_item (stop_item kind) items) (no_items unexpected_frame))
items_mark true kind content items h = ap (with_item (stop_item kind)) h
items_mark false kind content items h = refl

-- the items of the content are the banded items without texts
pub content_without_texts : (v : Protocol) (list : List Piece) (end : Refusal) → items_of v plain (unband_from list end)
    ≡ without_texts (items_from v banded list end)
content_without_texts v [] end = refl
content_without_texts v (line text ∷ ps) end =
    item_step v (band_of text) text (unband_from ps end) (items_from v banded ps end) (content_without_texts v ps end)
    ∙ ap (λ x. without_texts (with_found x (items_from v banded ps end))) (sym (item_at text))
content_without_texts v (mark kind ∷ ps) end = items_mark (is_stop v kind) kind (items_of v plain (unband_from ps end))
    (items_from v banded ps end) (content_without_texts v ps end)
