-- Responses of version 2 as a grammar: which packet lines are a list of sections, and their items (gitprotocol-v2, "fetch").
use Rattle.std.specs.Prelude.{◌≡◌, ◌⊎◌, ℕ, ⊤, true, false, List, [], ◌∷◌, ◌++◌, map, Ok, Err}
use Rattle.gixp_packetline.specs.declared.protocol.Protocol.TheVariants.{V2}
use Rattle.gixp_packetline.specs.declared.protocol.MessageKind.{MessageKind}
use Rattle.gixp_packetline.specs.declared.protocol.MessageKind.TheVariants.{Flush, Delimiter}
use Rattle.gixp_packetline.specs.Items.{is_stop}
use Rattle.gixp_packetline.specs.Pieces.{Refusal, Piece, line, mark, unexpected_frame}
use Rattle.gixp_response.specs.declared.fetch.response.sections.Section.{Section}
use Rattle.gixp_response.specs.declared.fetch.response.sections.Header.TheVariants.{Of, Packfile}
use Rattle.gixp_response.specs.ResponseError.{AnswerRefusal, by_reader, from_reader}
use Rattle.gixp_response.specs.Answer.{AnswerValue, no_more, both}
use Rattle.gixp_response.specs.Sections.{read_header, read_item, not_opened}

-- a section: its header line, its kind, its lines, and their items
pub record SectionText : Type 0 where
  pub header : List ℕ
  pub kind : Section
  pub lines : List (List ℕ)
  pub items : List AnswerValue

-- each line of a section of this kind has this item
abbrev pub AreItems : Section → List (List ℕ) → List AnswerValue → Type 0
AreItems kind [] [] = ⊤
AreItems kind [] (v ∷ vs) = ⊥
AreItems kind (t ∷ ts) [] = ⊥
AreItems kind (t ∷ ts) (v ∷ vs) = (read_item kind t ≡ Ok v) × AreItems kind ts vs

-- a header of this kind, and lines that are items of it
abbrev pub IsSection : SectionText → Type 0
IsSection s = (read_header s.header ≡ Ok (Of s.kind)) × AreItems s.kind s.lines s.items

-- lines, a stop, and the packet lines after it
abbrev pub lines_to_stop : List (List ℕ) → MessageKind → List Piece → List Piece
lines_to_stop texts stop rest = map line texts ++ mark stop ∷ rest

-- a header, lines and a stop
abbrev pub section_text : SectionText → MessageKind → List Piece → List Piece
section_text s stop rest = line s.header ∷ lines_to_stop s.lines stop rest

-- the end of a response: the header `packfile`, or a section with a flush packet
pub data Last : Type 0 where
  pack_after : List ℕ → Last
  flushed : SectionText → Last

-- the packet lines are these sections, each with a delimiter packet after it, and then this end
abbrev pub AreSections : List Piece → List SectionText → Last → List Piece → Type 0
AreSections ps [] (pack_after header) rest = (read_header header ≡ Ok Packfile) × (ps ≡ line header ∷ rest)
AreSections ps [] (flushed s) rest = IsSection s × (ps ≡ section_text s Flush rest)
AreSections ps (s ∷ ss) last rest = IsSection s × (more : List Piece) × (ps ≡ section_text s Delimiter more) × AreSections more ss last rest

-- the items of the sections before those of the rest, each kind in order
abbrev pub answer_before : List AnswerValue → AnswerValue → AnswerValue
answer_before [] rest = rest
answer_before (v ∷ vs) rest = let more = answer_before vs rest in both more.pack v more

abbrev pub answer_at : Last → AnswerValue
answer_at (pack_after header) = no_more true
answer_at (flushed s) = answer_before s.items (no_more false)

abbrev pub answer_by : List SectionText → Last → AnswerValue
answer_by [] last = answer_at last
answer_by (s ∷ ss) last = answer_before s.items (answer_by ss last)

-- an error in place of a header: the end of the stream, a line that is not a header, or a special packet
abbrev pub HeaderRefused : List Piece → Refusal → AnswerRefusal → Type 0
HeaderRefused [] end e = e ≡ from_reader end
HeaderRefused (line text ∷ ps) end e = read_header text ≡ Err e
HeaderRefused (mark kind ∷ ps) end e = e ≡ not_opened (is_stop V2 kind)

-- an error in place of an item: the end of the stream, a line that is not an item, or a special packet that is not a stop
abbrev pub ItemRefused : Section → List Piece → Refusal → AnswerRefusal → Type 0
ItemRefused section [] end e = e ≡ from_reader end
ItemRefused section (line text ∷ ps) end e = read_item section text ≡ Err e
ItemRefused section (mark kind ∷ ps) end e = (is_stop V2 kind ≡ false) × (e ≡ by_reader unexpected_frame)

-- a header and items, and then an error in place of an item
pub record IsCut (ps : List Piece) (end : Refusal) (e : AnswerRefusal) : Type 0 where
  pub begun : SectionText
  pub is_section : IsSection begun
  pub more : List Piece
  pub pieces : ps ≡ line begun.header ∷ (map line begun.lines ++ more)
  pub cut : ItemRefused begun.kind more end e

-- the packet lines are these sections, each with a delimiter packet after it, and then an error in place of a header or an item
abbrev pub AreRefused : List Piece → Refusal → List SectionText → AnswerRefusal → Type 0
AreRefused ps end [] e = HeaderRefused ps end e ⊎ IsCut ps end e
AreRefused ps end (s ∷ ss) e = IsSection s × (more : List Piece) × (ps ≡ section_text s Delimiter more) × AreRefused more end ss e
