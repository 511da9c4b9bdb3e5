-- Reading a response of version 2 fails exactly if, after some sections, an error comes in place of a header or an item.
use Rattle.std.proofs.Common.{◌≡◌, ℕ, List, [], ◌∷◌, ◌++◌, map, Option, Some, None, Result, Ok, Err, refl, sym, ap, ◌∙◌, inl, inr}
use Rattle.std.specs.Prelude.{◌⊎◌}
use Rattle.gixp_packetline.specs.declared.protocol.MessageKind.{MessageKind}
use Rattle.gixp_packetline.specs.declared.protocol.MessageKind.TheVariants.{Flush, Delimiter, ResponseEnd, Text}
use Rattle.gixp_packetline.specs.Pieces.{Refusal, Piece, line, mark, unexpected_frame}
use Rattle.gixp_response.specs.declared.fetch.response.sections.Section.{Section}
use Rattle.gixp_response.specs.declared.fetch.response.sections.Header.{Header}
use Rattle.gixp_response.specs.declared.fetch.response.sections.Header.TheVariants.{Of, Packfile}
use Rattle.gixp_response.specs.ResponseError.{AnswerRefusal, by_reader, from_reader}
use Rattle.gixp_response.specs.Answer.{AnswerValue, Found, whole, refused, in_front}
use Rattle.gixp_response.specs.Sections.{read_header, read_item, opened, added, closed, sections_from}
use Rattle.gixp_response.specs.SectionGrammar.{SectionText, AreItems, lines_to_stop, HeaderRefused, ItemRefused, IsCut, AreRefused}
use Rattle.gixp_response.proofs.SectionGrammarLemmas.{items_before, section_read}

-- ---- such an error makes reading fail

header_read : (ps : List Piece) (end : Refusal) (e : AnswerRefusal) → HeaderRefused ps end e → sections_from ps end None ≡ refused e
header_read [] end e h = ap refused (sym h)
header_read (line text ∷ ps) end e h = rw h refl
header_read (mark kind ∷ ps) end e h = ap refused (sym h)

stop_read : (kind : MessageKind) (section : Section) (ps : List Piece) (end : Refusal) (e : AnswerRefusal)
    → ItemRefused section (mark kind ∷ ps) end e → sections_from (mark kind ∷ ps) end (Some section) ≡ refused e
stop_read Flush section ps end e h = absurd (let e = h.0 in cc)
stop_read Delimiter section ps end e h = absurd (let e = h.0 in cc)
stop_read ResponseEnd section ps end e h = ap refused (sym h.1)
stop_read Text section ps end e h = ap refused (sym h.1)

item_read : (section : Section) (ps : List Piece) (end : Refusal) (e : AnswerRefusal) → ItemRefused section ps end e
    → sections_from ps end (Some section) ≡ refused e
item_read section [] end e h = ap refused (sym h)
item_read section (line text ∷ ps) end e h = rw h refl
item_read section (mark kind ∷ ps) end e h = stop_read kind section ps end e h

cut_items : (section : Section) (ts : List (List ℕ)) (vs : List AnswerValue) (more : List Piece) (end : Refusal) (e : AnswerRefusal)
    → AreItems section ts vs → ItemRefused section more end e
    → sections_from (map line ts ++ more) end (Some section) ≡ refused e
cut_items section [] [] more end e h k = item_read section more end e k
cut_items section [] (v ∷ vs) more end e h k = absurd h
cut_items section (t ∷ ts) [] more end e h k = absurd h
cut_items section (t ∷ ts) (v ∷ vs) more end e h k =
    let one : read_item section t ≡ Ok v = h.0 in
    rw (one, cut_items section ts vs more end e h.1 k) refl

cut_read : (ps : List Piece) (end : Refusal) (e : AnswerRefusal) → IsCut ps end e → sections_from ps end None ≡ refused e
cut_read ps end e h =
    let head : read_header h.begun.header ≡ Ok (Of h.begun.kind) = h.is_section.0 in
    rw h.pieces (rw head (cut_items h.begun.kind h.begun.lines h.begun.items h.more end e h.is_section.1 h.cut))

pub refused_read : (ps : List Piece) (end : Refusal) (ss : List SectionText) (e : AnswerRefusal) → AreRefused ps end ss e
    → sections_from ps end None ≡ refused e
refused_read ps end [] e (inl h) = header_read ps end e h
refused_read ps end [] e (inr h) = cut_read ps end e h
refused_read ps end (s ∷ ss) e h = rw h.2 (section_read s Delimiter h.1 end h.0 ∙ ap (items_before s.items) (refused_read h.1 end ss e h.3))

-- ---- reading fails only by such an error

-- in a section: items, and then an error, or a delimiter packet and further sections
record InsideRefused (section : Section) (ps : List Piece) (end : Refusal) (e : AnswerRefusal) : Type 0 where
  lines : List (List ℕ)
  items : List AnswerValue
  are : AreItems section lines items
  cut : ((more : List Piece) × (ps ≡ map line lines ++ more) × ItemRefused section more end e)
      ⊎ ((more : List Piece) × (ss : List SectionText) × (ps ≡ lines_to_stop lines Delimiter more) × AreRefused more end ss e)

abbrev AtRefused : Option Section → List Piece → Refusal → AnswerRefusal → Type 0
AtRefused None ps end e = (ss : List SectionText) × AreRefused ps end ss e
AtRefused (Some section) ps end e = InsideRefused section ps end e

same_refusal : (e f : AnswerRefusal) → refused e ≡ refused f → f ≡ e
same_refusal e f h = cc

front_refused : (item : AnswerValue) (f : Found) (e : AnswerRefusal) → in_front item f ≡ refused e → f ≡ refused e
front_refused item (whole w p) e h = cc
front_refused item (refused x) e h = h

inside_more : (section : Section) (t : List ℕ) (ps : List Piece) (end : Refusal) (item : AnswerValue) (e : AnswerRefusal)
    → read_item section t ≡ Ok item → InsideRefused section ps end e
    → InsideRefused section (line t ∷ ps) end e
inside_more section t ps end item e h i = record { lines = t ∷ i.lines; items = item ∷ i.items; are = (h, i.are); cut = more i.cut }
  where
    more : ((more : List Piece) × (ps ≡ map line i.lines ++ more) × ItemRefused section more end e)
        ⊎ ((more : List Piece) × (ss : List SectionText) × (ps ≡ lines_to_stop i.lines Delimiter more) × AreRefused more end ss e)
        → ((more : List Piece) × ((line t ∷ ps) ≡ map line (t ∷ i.lines) ++ more) × ItemRefused section more end e)
        ⊎ ((more : List Piece) × (ss : List SectionText) × ((line t ∷ ps) ≡ lines_to_stop (t ∷ i.lines) Delimiter more)
        × AreRefused more end ss e)
    more (inl x) = inl (x.0, ap (λ y. line t ∷ y) x.1, x.2)
    more (inr x) = inr (x.0, x.1, ap (λ y. line t ∷ y) x.2, x.3)

with_header : (section : Section) (t : List ℕ) (ps : List Piece) (end : Refusal) (e : AnswerRefusal) → read_header t ≡ Ok (Of section)
    → InsideRefused section ps end e
    → AtRefused None (line t ∷ ps) end e
with_header section t ps end e h i = ended i.cut
  where
    ended : ((more : List Piece) × (ps ≡ map line i.lines ++ more) × ItemRefused section more end e)
        ⊎ ((more : List Piece) × (ss : List SectionText) × (ps ≡ lines_to_stop i.lines Delimiter more) × AreRefused more end ss e)
        → (ss : List SectionText) × AreRefused (line t ∷ ps) end ss e
    ended (inl x) = (
      [],
      inr (record {
        begun = record { header = t; kind = section; lines = i.lines; items = i.items };
        is_section = (h, i.are);
        more = x.0;
        pieces = ap (λ y. line t ∷ y) x.1;
        cut = x.2;
      }),
    )
    ended (inr x) = (
      record { header = t; kind = section; lines = i.lines; items = i.items } ∷ x.1,
      ((h, i.are), x.0, ap (λ y. line t ∷ y) x.2, x.3),
    )

header_refused : (t : List ℕ) (ps : List Piece) (end : Refusal) (e : AnswerRefusal) (o : Result Header AnswerRefusal) → read_header t ≡ o
    → opened o (record { list = ps; end = end }) (sections_from ps end) ≡ refused e
    → ((section : Section) → sections_from ps end (Some section) ≡ refused e → InsideRefused section ps end e)
    → AtRefused None (line t ∷ ps) end e
header_refused t ps end e (Ok (Of section)) h k f = with_header section t ps end e h (f section k)
header_refused t ps end e (Ok Packfile) h k f = cc
header_refused t ps end e (Err r) h k f = ([], inl (h ∙ ap Err (sym (same_refusal r e k))))

item_refused : (section : Section) (t : List ℕ) (ps : List Piece) (end : Refusal) (e : AnswerRefusal)
    (o : Result AnswerValue AnswerRefusal) → read_item section t ≡ o
    → added o (sections_from ps end (Some section)) ≡ refused e
    → (sections_from ps end (Some section) ≡ refused e → InsideRefused section ps end e)
    → InsideRefused section (line t ∷ ps) end e
item_refused section t ps end e (Ok item) h k f =
    inside_more section t ps end item e h (f (front_refused item (sections_from ps end (Some section)) e k))
item_refused section t ps end e (Err r) h k f =
    record { lines = []; items = []; are = tt; cut = inl (line t ∷ ps, refl, h ∙ ap Err (sym (same_refusal r e k))) }

stop_refused : (section : Section) (kind : MessageKind) (ps : List Piece) (end : Refusal) (e : AnswerRefusal)
    → closed kind (record { list = ps; end = end }) (sections_from ps end None) ≡ refused e
    → (sections_from ps end None ≡ refused e → AtRefused None ps end e)
    → InsideRefused section (mark kind ∷ ps) end e
stop_refused section Flush ps end e h f = cc
stop_refused section Delimiter ps end e h f =
    let i = f h in
    record { lines = []; items = []; are = tt; cut = inr (ps, i.0, refl, i.1) }
stop_refused section ResponseEnd ps end e h f =
    record {
      lines = [];
      items = [];
      are = tt;
      cut = inl (mark ResponseEnd ∷ ps, refl, (refl, same_refusal (by_reader unexpected_frame) e h));
    }
stop_refused section Text ps end e h f =
    record { lines = []; items = []; are = tt; cut = inl (mark Text ∷ ps, refl, (refl, same_refusal (by_reader unexpected_frame) e h)) }

refused_at : (at : Option Section) (ps : List Piece) (end : Refusal) (e : AnswerRefusal) → sections_from ps end at ≡ refused e
    → AtRefused at ps end e
refused_at None [] end e h = ([], inl (same_refusal (from_reader end) e h))
refused_at (Some section) [] end e h = record { lines = []; items = []; are = tt; cut = inl ([], refl, same_refusal (from_reader end) e h) }
refused_at None (line t ∷ ps) end e h = header_refused t ps end e (read_header t) refl h (λ section k. refused_at (Some section) ps end e k)
refused_at (Some section) (line t ∷ ps) end e h =
    item_refused section t ps end e (read_item section t) refl h (λ k. refused_at (Some section) ps end e k)
refused_at None (mark kind ∷ ps) end e h = ([], inl (same_refusal _ e h))
refused_at (Some section) (mark kind ∷ ps) end e h = stop_refused section kind ps end e h (λ k. refused_at None ps end e k)

-- if reading fails, the packet lines are some sections and an error after them
pub refused_found : (ps : List Piece) (end : Refusal) (e : AnswerRefusal) → sections_from ps end None ≡ refused e
    → (ss : List SectionText) × AreRefused ps end ss e
refused_found ps end e h = refused_at None ps end e h
