-- A response of version 2 is a list of sections, and no other list of packet lines is one.
use Rattle.std.proofs.Common.{◌≡◌, ℕ, true, false, List, [], ◌∷◌, Option, Some, None, Result, Ok, Err, refl, sym, ap, ◌∙◌, inl, inr}
use Rattle.std.specs.Prelude.{◌⊎◌}
use Rattle.gixp_packetline.specs.declared.protocol.MessageKind.{MessageKind}
use Rattle.gixp_packetline.specs.declared.protocol.MessageKind.TheVariants.{Flush, Delimiter, ResponseEnd, Text}
use Rattle.gixp_packetline.specs.Pieces.{Refusal, Piece, line, mark, Pieces}
use Rattle.gixp_response.specs.declared.fetch.response.sections.Section.{Section}
use Rattle.gixp_response.specs.declared.fetch.response.sections.Header.{Header}
use Rattle.gixp_response.specs.declared.fetch.response.sections.Header.TheVariants.{Of, Packfile}
use Rattle.gixp_response.specs.ResponseError.{AnswerRefusal}
use Rattle.gixp_response.specs.Answer.{AnswerValue, no_more, both, Found, whole, refused, in_front}
use Rattle.gixp_response.specs.Sections.{read_header, read_item, opened, added, closed, sections_from}
use Rattle.gixp_response.specs.SectionGrammar.{SectionText, AreItems, IsSection, lines_to_stop, section_text, Last, pack_after, flushed, AreSections, answer_before, answer_by}

-- items before those of a response
abbrev pub items_before : List AnswerValue → Found → Found
items_before vs (whole w rest) = whole (answer_before vs w) rest
items_before vs (refused e) = refused e

none_before : (f : Found) → f ≡ items_before [] f
none_before (whole w rest) = refl
none_before (refused e) = refl

more_before : (v : AnswerValue) (vs : List AnswerValue) (f : Found) → in_front v (items_before vs f) ≡ items_before (v ∷ vs) f
more_before v vs (whole w rest) = refl
more_before v vs (refused e) = refl

-- the lines of a section are read as its items
items_read : (kind : Section) (ts : List (List ℕ)) (vs : List AnswerValue) (stop : MessageKind) (rest : List Piece) (end : Refusal)
    → AreItems kind ts vs
    → sections_from (lines_to_stop ts stop rest) end (Some kind)
    ≡ items_before vs (closed stop (record { list = rest; end = end }) (sections_from rest end None))
items_read kind [] [] stop rest end h = none_before (closed stop (record { list = rest; end = end }) (sections_from rest end None))
items_read kind [] (v ∷ vs) stop rest end h = absurd h
items_read kind (t ∷ ts) [] stop rest end h = absurd h
items_read kind (t ∷ ts) (v ∷ vs) stop rest end h =
    let one : read_item kind t ≡ Ok v = h.0 in
    rw (one, items_read kind ts vs stop rest end h.1)
    (more_before v vs (closed stop (record { list = rest; end = end }) (sections_from rest end None)))

pub section_read : (s : SectionText) (stop : MessageKind) (rest : List Piece) (end : Refusal) → IsSection s
    → sections_from (section_text s stop rest) end None
    ≡ items_before s.items (closed stop (record { list = rest; end = end }) (sections_from rest end None))
section_read s stop rest end h =
    let head : read_header s.header ≡ Ok (Of s.kind) = h.0 in
    rw head (items_read s.kind s.lines s.items stop rest end h.1)

-- the sections are read as their items
pub sections_read : (ps : List Piece) (ss : List SectionText) (last : Last) (rest : List Piece) (end : Refusal)
    → AreSections ps ss last rest
    → sections_from ps end None ≡ whole (answer_by ss last) (record { list = rest; end = end })
sections_read ps [] (pack_after header) rest end h =
    let head : read_header header ≡ Ok Packfile = h.0 in
    rw h.1 (rw head refl)
sections_read ps [] (flushed s) rest end h = rw h.1 (section_read s Flush rest end h.0)
sections_read ps (s ∷ ss) last rest end h =
    rw h.2 (section_read s Delimiter h.1 end h.0 ∙ ap (items_before s.items) (sections_read h.1 ss last rest end h.3))

-- the packet lines in a section, if a response ends in them
record Inside (kind : Section) (ps : List Piece) (v : AnswerValue) (rest : List Piece) : Type 0 where
  lines : List (List ℕ)
  items : List AnswerValue
  are : AreItems kind lines items
  -- a flush packet ends it, or a delimiter packet and further sections follow
  ends : ((ps ≡ lines_to_stop lines Flush rest) × (v ≡ answer_before items (no_more false)))
      ⊎ ((more : List Piece) × (ss : List SectionText) × (last : Last) × (ps ≡ lines_to_stop lines Delimiter more)
      × AreSections more ss last rest × (v ≡ answer_before items (answer_by ss last)))

record Sections (ps : List Piece) (v : AnswerValue) (rest : List Piece) : Type 0 where
  before : List SectionText
  last : Last
  are : AreSections ps before last rest
  value : v ≡ answer_by before last

-- the packet lines at a header, or in a section
abbrev At : Option Section → List Piece → AnswerValue → List Piece → Type 0
At None ps v rest = Sections ps v rest
At (Some kind) ps v rest = Inside kind ps v rest

whole_value : (v w : AnswerValue) (p q : Pieces) → whole v p ≡ whole w q → (v ≡ w) × (p ≡ q)
whole_value v w p q h = (cc, cc)

-- the response after an item
front_found : (item : AnswerValue) (f : Found) (v : AnswerValue) (q : Pieces) → in_front item f ≡ whole v q → (w : AnswerValue)
    × (f ≡ whole w q) × (v ≡ both w.pack item w)
front_found item (whole w p) v q h = let e = whole_value (both w.pack item w) v p q h in (w, ap (whole w) e.1, sym e.0)
front_found item (refused e) v q h = cc

inside_line : (kind : Section) (t : List ℕ) (ps rest : List Piece) (item v w : AnswerValue) → read_item kind t ≡ Ok item
    → v ≡ both w.pack item w → Inside kind ps w rest → Inside kind (line t ∷ ps) v rest
inside_line kind t ps rest item v w e is i = record {
  lines = t ∷ i.lines;
  items = item ∷ i.items;
  are = (e, i.are);
  ends = ended i.ends;
}
  where
    ended : ((ps ≡ lines_to_stop i.lines Flush rest) × (w ≡ answer_before i.items (no_more false)))
        ⊎ ((more : List Piece) × (ss : List SectionText) × (last : Last) × (ps ≡ lines_to_stop i.lines Delimiter more)
        × AreSections more ss last rest × (w ≡ answer_before i.items (answer_by ss last)))
        → (((line t ∷ ps) ≡ lines_to_stop (t ∷ i.lines) Flush rest) × (v ≡ answer_before (item ∷ i.items) (no_more false)))
        ⊎ ((more : List Piece) × (ss : List SectionText) × (last : Last) × ((line t ∷ ps) ≡ lines_to_stop (t ∷ i.lines) Delimiter more)
        × AreSections more ss last rest × (v ≡ answer_before (item ∷ i.items) (answer_by ss last)))
    ended (inl x) = inl (ap (λ y. line t ∷ y) x.0, is ∙ ap (λ (y : AnswerValue). both y.pack item y) x.1)
    ended (inr x) = inr (x.0, x.1, x.2, ap (λ y. line t ∷ y) x.3, x.4, is ∙ ap (λ (y : AnswerValue). both y.pack item y) x.5)

inside_header : (kind : Section) (t : List ℕ) (ps rest : List Piece) (v : AnswerValue) → read_header t ≡ Ok (Of kind)
    → Inside kind ps v rest → Sections (line t ∷ ps) v rest
inside_header kind t ps rest v e i = ended i.ends
  where
    section : SectionText
    section = record { header = t; kind = kind; lines = i.lines; items = i.items }

    ended : ((ps ≡ lines_to_stop i.lines Flush rest) × (v ≡ answer_before i.items (no_more false)))
        ⊎ ((more : List Piece) × (ss : List SectionText) × (last : Last) × (ps ≡ lines_to_stop i.lines Delimiter more)
        × AreSections more ss last rest × (v ≡ answer_before i.items (answer_by ss last)))
        → Sections (line t ∷ ps) v rest
    ended (inl x) = record {
      before = [];
      last = flushed (record { header = t; kind = kind; lines = i.lines; items = i.items });
      are = ((e, i.are), ap (λ y. line t ∷ y) x.0);
      value = x.1;
    }
    ended (inr x) = record {
      before = record { header = t; kind = kind; lines = i.lines; items = i.items } ∷ x.1;
      last = x.2;
      are = ((e, i.are), x.0, ap (λ y. line t ∷ y) x.3, x.4);
      value = x.5;
    }

header_found : (t : List ℕ) (ps : List Piece) (end : Refusal) (v : AnswerValue) (q : Pieces) (o : Result Header AnswerRefusal)
    → read_header t ≡ o
    → opened o (record { list = ps; end = end }) (sections_from ps end) ≡ whole v q
    → ((kind : Section) → sections_from ps end (Some kind) ≡ whole v q → Inside kind ps v q.list × (q.end ≡ end))
    → Sections (line t ∷ ps) v q.list × (q.end ≡ end)
header_found t ps end v q (Ok (Of kind)) e h f = let i = f kind h in (inside_header kind t ps q.list v e i.0, i.1)
header_found t ps end v q (Ok Packfile) e h f =
    let p : Pieces = record { list = ps; end = end } in
    let s = whole_value (no_more true) v p q h in (
      record { before = []; last = pack_after t; are = (e, ap (λ (x : Pieces). line t ∷ x.list) s.1); value = sym s.0 },
      ap (λ (x : Pieces). x.end) (sym s.1),
    )
header_found t ps end v q (Err r) e h f = cc

item_found : (kind : Section) (t : List ℕ) (ps : List Piece) (end : Refusal) (v : AnswerValue) (q : Pieces)
    (o : Result AnswerValue AnswerRefusal) → read_item kind t ≡ o
    → added o (sections_from ps end (Some kind)) ≡ whole v q
    → ((w : AnswerValue) → sections_from ps end (Some kind) ≡ whole w q → Inside kind ps w q.list × (q.end ≡ end))
    → Inside kind (line t ∷ ps) v q.list × (q.end ≡ end)
item_found kind t ps end v q (Ok item) e h f =
    let x = front_found item (sections_from ps end (Some kind)) v q h in
    let i = f x.0 x.1 in
    (inside_line kind t ps q.list item v x.0 e x.2 i.0, i.1)
item_found kind t ps end v q (Err r) e h f = cc

stop_found : (kind : Section) (k : MessageKind) (ps : List Piece) (end : Refusal) (v : AnswerValue) (q : Pieces)
    → closed k (record { list = ps; end = end }) (sections_from ps end None) ≡ whole v q
    → (sections_from ps end None ≡ whole v q → Sections ps v q.list × (q.end ≡ end))
    → Inside kind (mark k ∷ ps) v q.list × (q.end ≡ end)
stop_found kind Flush ps end v q h f =
    let p : Pieces = record { list = ps; end = end } in
    let s = whole_value (no_more false) v p q h in (
      record { lines = []; items = []; are = tt; ends = inl (ap (λ (x : Pieces). mark Flush ∷ x.list) s.1, sym s.0) },
      ap (λ (x : Pieces). x.end) (sym s.1),
    )
stop_found kind Delimiter ps end v q h f =
    let i = f h in
    (record { lines = []; items = []; are = tt; ends = inr (ps, i.0.before, i.0.last, refl, i.0.are, i.0.value) }, i.1)
stop_found kind ResponseEnd ps end v q h f = cc
stop_found kind Text ps end v q h f = cc

found_at : (at : Option Section) (ps : List Piece) (end : Refusal) (v : AnswerValue) (q : Pieces) → sections_from ps end at ≡ whole v q
    → At at ps v q.list × (q.end ≡ end)
found_at None [] end v q h = cc
found_at (Some kind) [] end v q h = cc
found_at None (line t ∷ ps) end v q h = header_found t ps end v q (read_header t) refl h (λ kind e. found_at (Some kind) ps end v q e)
found_at (Some kind) (line t ∷ ps) end v q h =
    item_found kind t ps end v q (read_item kind t) refl h (λ w e. found_at (Some kind) ps end w q e)
found_at None (mark k ∷ ps) end v q h = cc
found_at (Some kind) (mark k ∷ ps) end v q h = stop_found kind k ps end v q h (λ e. found_at None ps end v q e)

-- a response that is read is a list of sections
pub sections_found : (ps : List Piece) (end : Refusal) (v : AnswerValue) (q : Pieces) → sections_from ps end None ≡ whole v q
    → (ss : List SectionText) × (last : Last) × AreSections ps ss last q.list × (q.end ≡ end) × (v ≡ answer_by ss last)
sections_found ps end v q h = let x = found_at None ps end v q h in (x.0.before, x.0.last, x.0.are, x.1, x.0.value)
