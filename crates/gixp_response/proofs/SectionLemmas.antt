-- How a response of version 2 is read, one packet line after the other.
use Rattle.std.proofs.Common.{◌≡◌, ℕ, Bool, true, false, cond, List, [], ◌∷◌, ◌++◌, Option, Some, None, Result, Ok, Err, refl, sym, ap, subst, ◌∙◌, append_assoc, append-nil}
use Rattle.std.specs.declared.io.ErrorKind.TheVariants.{UnexpectedEof}
use Rattle.std.specs.Str.{is_utf8}
use Rattle.gixp_packetline.specs.declared.protocol.Protocol.TheVariants.{V2}
use Rattle.gixp_packetline.specs.declared.protocol.MessageKind.{MessageKind}
use Rattle.gixp_packetline.specs.declared.protocol.MessageKind.TheVariants.{Flush, Delimiter, ResponseEnd, Text}
use Rattle.gixp_packetline.specs.declared.read.Error.{Error as ReadError}
use Rattle.gixp_packetline.specs.Items.{is_stop}
use Rattle.gixp_packetline.specs.Lines.{stops, refuses, next_from}
use Rattle.gixp_packetline.specs.Pieces.{Refusal, Piece, line, mark, Pieces, unexpected_frame, not_utf8}
use Rattle.gixp_packetline.specs.Reading.{Reading, TakesLine, AtStop, Fails, IsPlain, refusal_of, reset_to}
use Rattle.gixp_response.specs.declared.fetch.response.error.Error.{Error}
use Rattle.gixp_response.specs.declared.fetch.response.error.Error.TheVariants.{Io, Memory}
use Rattle.gixp_response.specs.declared.fetch.response.sections.Section.{Section}
use Rattle.gixp_response.specs.declared.fetch.response.sections.Header.{Header}
use Rattle.gixp_response.specs.declared.fetch.response.sections.Header.TheVariants.{Of, Packfile}
use Rattle.gixp_response.specs.ResponseError.{AnswerRefusal, io_failed, unknown_line, unknown_header, by_reader, from_reader, answer_refusal, IsAnswerRefusal, AnswersResponse}
use Rattle.gixp_response.specs.Answer.{AnswerValue, no_more, both, Found, whole, refused, in_front, is_of_line}
use Rattle.gixp_response.specs.Sections.{or_refused, header_of, item_of, read_header, read_item, closed, not_opened, is_flush, sections_from, v2_answer}
use Rattle.gixp_response.specs.AnswerLine.{trimmed}
use Rattle.gixp_response.specs.AnswerReading.{stop_after, Adds, Going, IsRunning, EndsAt, ReadsAnswer, AnswerFails}
use Rattle.gixp_response.proofs.AnswerRunLemmas.{going-start, going-turn, going-line, going-stop, going-reset, going-whole, going-refused, going-memory, going-fails, stop_taken, last_line, last_mark}

-- the rest of the response after these items, in this section or at a header
abbrev pub left_of : AnswerValue → Option Section → Pieces → Found
left_of had at q = in_front had (sections_from q.list q.end at)

-- a response of version 2 is being read
pub record Within (had : AnswerValue) (at : Option Section) (old now : Reading) : Type 0 where
  pub taken : List Piece
  pub going : Going v2_answer (left_of had at) taken old now
  pub running : IsRunning V2 now
  pub no_pack : had.pack ≡ false

none_had : (f : Found) → f ≡ in_front (no_more false) f
none_had (whole v rest) = refl
none_had (refused e) = refl

-- at first nothing was read
pub within-start : (old now : Reading) → now ≡ reset_to V2 old → Within (no_more false) None old now
within-start old now e =
    let all = going-start v2_answer V2 old now e in
    record {
      taken = [];
      going = going-turn v2_answer v2_answer (left_of (no_more false) None) [] old now all.0
          (λ q. none_had (v2_answer q));
      running = all.1;
      no_pack = refl;
    }

-- a header begins a section
pub within-header : (had : AnswerValue) (s : Section) (old mid new : Reading) → Within had None old mid → TakesLine mid new
    → read_header new.line ≡ Ok (Of s)
    → Within had (Some s) old new
within-header had s old mid new h t is =
    let all = going-line v2_answer (left_of had None) V2 h.taken old mid new h.going h.running t in
    record {
      taken = h.taken ++ line new.line ∷ [];
      going = going-turn v2_answer _ (left_of had (Some s)) _ old new all.0 (λ q. rw is refl);
      running = all.1;
      no_pack = h.no_pack;
    }

-- the header of the pack
pub within-pack : (had : AnswerValue) (old mid new : Reading) → Within had None old mid → TakesLine mid new
    → read_header new.line ≡ Ok Packfile
    → ReadsAnswer v2_answer V2 old new (record had { pack = true })
within-pack had old mid new h t is =
    let all = going-line v2_answer (left_of had None) V2 h.taken old mid new h.going h.running t in
    going-whole v2_answer _ V2 _ old new (record had { pack = true }) all.0 all.1.version all.1.stopped all.1.stopped
    (λ q. rw is (simp append-nil refl))

both_assoc : (a b : AnswerValue) (f : Found) → in_front a (in_front b f) ≡ in_front (both a.pack a b) f
both_assoc a b (whole v rest) = simp append_assoc refl
both_assoc a b (refused e) = refl

pub within-item : (had more : AnswerValue) (s : Section) (old mid new : Reading) (item : AnswerValue) → Within had (Some s) old mid
    → TakesLine mid new
    → read_item s new.line ≡ Ok item → more ≡ both had.pack had item → Within more (Some s) old new
within-item had more s old mid new item h t is m =
    let all = going-line v2_answer (left_of had (Some s)) V2 h.taken old mid new h.going h.running t in
    record {
      taken = h.taken ++ line new.line ∷ [];
      going = going-turn v2_answer _ (left_of more (Some s)) _ old new all.0
          (λ q. rw (is, m) (both_assoc had item (sections_from q.list q.end (Some s))));
      running = all.1;
      no_pack = rw m h.no_pack;
    }

pub within-adds : (had more : AnswerValue) (s : Section) (old mid new : Reading) (o : Result AnswerValue AnswerRefusal)
    → Within had (Some s) old mid → TakesLine mid new
    → read_item s new.line ≡ o → Adds o had more (Ok tt) → Within more (Some s) old new
within-adds had more s old mid new (Ok item) h t is a = within-item had more s old mid new item h t is a
within-adds had more s old mid new (Err r) h t is a = absurd a

-- a stop that is not a flush packet is followed by a header
closed_is : (kind : MessageKind) (rest : Pieces) (later : Found) → is_stop V2 kind ≡ true → is_flush (Some kind) ≡ false
    → closed kind rest later ≡ later
closed_is Flush rest later s f = cc
closed_is Delimiter rest later s f = refl
closed_is ResponseEnd rest later s f = cc
closed_is Text rest later s f = cc

flushed_is : (kind : MessageKind) (rest : Pieces) (later : Found) → is_flush (Some kind) ≡ true
    → closed kind rest later ≡ whole (no_more false) rest
flushed_is Flush rest later f = refl
flushed_is Delimiter rest later f = cc
flushed_is ResponseEnd rest later f = cc
flushed_is Text rest later f = cc

-- after a section with a delimiter packet comes a header
pub within-delimiter : (had : AnswerValue) (s : Section) (old mid new last : Reading) → Within had (Some s) old mid → AtStop mid new
    → is_flush new.stopped ≡ false → last ≡ reset_to V2 new
    → Within had None old last
within-delimiter had s old mid new last h a f e =
    let t = stop_taken V2 mid new h.running a in
    let went = going-stop v2_answer (left_of had (Some s)) V2 h.taken old mid new t.0 h.going h.running t.1 in
    let stop : is_stop V2 t.0 ≡ true = subst (λ v. is_stop v t.0 ≡ true) h.running.version t.1.is_stop in
    let none : is_flush (Some t.0) ≡ false = subst (λ o. is_flush o ≡ false) t.1.stopped f in
    let turned = going-turn v2_answer _ (left_of had None) _ old new went
    (λ q. ap (in_front had) (closed_is t.0 q (sections_from q.list q.end None) stop none)) in
    let all = going-reset v2_answer (left_of had None) V2 _ old new last turned e in
    record { taken = h.taken ++ mark t.0 ∷ []; going = all.0; running = all.1; no_pack = h.no_pack }

had_all : (had : AnswerValue) → had.pack ≡ false → both false had (no_more false) ≡ had
had_all had e = simp (append-nil, sym e) refl

flush_is : (at : Option MessageKind) → is_flush at ≡ true → at ≡ Some Flush
flush_is (Some Flush) h = refl
flush_is _ h = cc

-- a section with a flush packet is the last
pub within-flush : (had : AnswerValue) (s : Section) (old mid new : Reading) → Within had (Some s) old mid → AtStop mid new
    → is_flush new.stopped ≡ true
    → ReadsAnswer v2_answer V2 old new had
within-flush had s old mid new h a f =
    let t = stop_taken V2 mid new h.running a in
    let went = going-stop v2_answer (left_of had (Some s)) V2 h.taken old mid new t.0 h.going h.running t.1 in
    let flush : is_flush (Some t.0) ≡ true = subst (λ o. is_flush o ≡ true) t.1.stopped f in
    going-whole v2_answer _ V2 _ old new had went (t.1.version ∙ h.running.version)
    (subst (λ b. EndsAt V2 b new.stopped) (sym h.no_pack) (flush_is new.stopped f))
    (subst (λ b. new.stopped ≡ stop_after b (h.taken ++ mark t.0 ∷ [])) (sym h.no_pack) (last_mark h.taken t.0 new.stopped t.1.stopped))
    (λ q. ap (in_front had) (flushed_is t.0 q (sections_from q.list q.end None) flush) ∙ ap (λ v. whole v q) (had_all had h.no_pack))

-- a stop in place of a header
pub within-no_header : (plain : Bool) (had : AnswerValue) (old mid new : Reading) → Within had None old mid → AtStop mid new
    → AnswerFails v2_answer plain old new (Io UnexpectedEof)
within-no_header plain had old mid new h a =
    let t = stop_taken V2 mid new h.running a in
    let went = going-stop v2_answer (left_of had None) V2 h.taken old mid new t.0 h.going h.running t.1 in
    let stop : is_stop V2 t.0 ≡ true = subst (λ v. is_stop v t.0 ≡ true) h.running.version t.1.is_stop in
    going-refused plain v2_answer _ _ old new (io_failed UnexpectedEof) (Io UnexpectedEof) went
    (last_mark h.taken t.0 new.stopped t.1.stopped) (λ q. rw stop refl) refl (λ _. refl)

of_header : (b : Bool) (o : Option Header) (text : List ℕ) (r : AnswerRefusal)
    → cond b (or_refused (unknown_header text) o) (Err (by_reader not_utf8)) ≡ Err r → is_of_line r ≡ true
of_header true (Some x) text r h = cc
of_header true None text r h = let e : unknown_header text ≡ r = cc in subst (λ x. is_of_line x ≡ true) e refl
of_header false o text r h = let e : by_reader not_utf8 ≡ r = cc in subst (λ x. is_of_line x ≡ true) e refl

of_item : (b : Bool) (o : Option AnswerValue) (text : List ℕ) (r : AnswerRefusal)
    → cond b (or_refused (unknown_line text) o) (Err (by_reader not_utf8)) ≡ Err r → is_of_line r ≡ true
of_item true (Some x) text r h = cc
of_item true None text r h = let e : unknown_line text ≡ r = cc in subst (λ x. is_of_line x ≡ true) e refl
of_item false o text r h = let e : by_reader not_utf8 ≡ r = cc in subst (λ x. is_of_line x ≡ true) e refl

memory_is : (r : AnswerRefusal) (e : Error) → e ≡ Memory → IsAnswerRefusal e r
memory_is r e h = subst (λ k. IsAnswerRefusal k r) (sym h) (λ n. cc)

-- a line that is not a header
pub within-bad_header : (plain : Bool) (had : AnswerValue) (old mid new : Reading) (o : Result Header AnswerRefusal) (e : Error)
    → Within had None old mid → TakesLine mid new
    → read_header new.line ≡ o → AnswersResponse (λ (x : Header). x) o (Err e) → AnswerFails v2_answer plain old new e
within-bad_header plain had old mid new (Ok x) e h t is a =
    let all = going-line v2_answer (left_of had None) V2 h.taken old mid new h.going h.running t in
    subst (AnswerFails v2_answer plain old new) (sym a) (going-memory plain v2_answer _ _ old new all.0 all.1.stopped)
within-bad_header plain had old mid new (Err r) e h t is a =
    let all = going-line v2_answer (left_of had None) V2 h.taken old mid new h.going h.running t in
    let l : is_of_line r ≡ true = of_header (is_utf8 new.line) (header_of (trimmed new.line)) new.line r is in
    going-refused plain v2_answer _ _ old new r e all.0 (last_line h.taken new.line new.stopped all.1.stopped) (λ q. rw is refl) l a

-- a line that is not an item of its section, or an allocation failed for it
pub within-bad_item : (plain : Bool) (had more : AnswerValue) (s : Section) (old mid new : Reading)
    (o : Result AnswerValue AnswerRefusal) (e : Error) → Within had (Some s) old mid → TakesLine mid new
    → read_item s new.line ≡ o → Adds o had more (Err e) → AnswerFails v2_answer plain old new e
within-bad_item plain had more s old mid new (Ok x) e h t is a =
    let all = going-line v2_answer (left_of had (Some s)) V2 h.taken old mid new h.going h.running t in
    subst (AnswerFails v2_answer plain old new) (sym a) (going-memory plain v2_answer _ _ old new all.0 all.1.stopped)
within-bad_item plain had more s old mid new (Err r) e h t is a =
    let all = going-line v2_answer (left_of had (Some s)) V2 h.taken old mid new h.going h.running t in
    let l : is_of_line r ≡ true = of_item (is_utf8 new.line) (item_of s new.line) new.line r is in
    going-refused plain v2_answer _ _ old new r e all.0 (last_line h.taken new.line new.stopped all.1.stopped) (λ q. rw is refl) l a

refuses_header : (b : Bool) (kind : MessageKind) (p : Pieces) (e : Refusal) → cond b (stops kind p) (refuses unexpected_frame)
    ≡ refuses e → refused (not_opened b) ≡ refused (from_reader e)
refuses_header true kind p e h = cc
refuses_header false kind p e h = let s : unexpected_frame ≡ e = cc in rw (← s) refl

refuses_section : (kind : MessageKind) (p : Pieces) (later : Found) (e : Refusal)
    → cond (is_stop V2 kind) (stops kind p) (refuses unexpected_frame) ≡ refuses e
    → closed kind p later ≡ refused (from_reader e)
refuses_section Flush p later e h = cc
refuses_section Delimiter p later e h = cc
refuses_section ResponseEnd p later e h = let s : unexpected_frame ≡ e = cc in rw (← s) refl
refuses_section Text p later e h = let s : unexpected_frame ≡ e = cc in rw (← s) refl

-- an error of the reader is one of the response
sections_refused : (at : Option Section) (list : List Piece) (end e : Refusal) → next_from V2 list end ≡ refuses e
    → sections_from list end at ≡ refused (from_reader e)
sections_refused None [] end e h = let s : end ≡ e = cc in rw (← s) refl
sections_refused (Some s) [] end e h = let s : end ≡ e = cc in rw (← s) refl
sections_refused None (line t ∷ ps) end e h = cc
sections_refused (Some s) (line t ∷ ps) end e h = cc
sections_refused None (mark kind ∷ ps) end e h = refuses_header (is_stop V2 kind) kind (record { list = ps; end = end }) e h
sections_refused (Some s) (mark kind ∷ ps) end e h = refuses_section kind (record { list = ps; end = end }) (sections_from ps end None) e h

-- an error of the reader, or an I/O error, an interrupt or an allocation failure
pub within-fails : (plain : Bool) (had : AnswerValue) (at : Option Section) (old mid new : Reading) (r : ReadError) (e : Error)
    → Within had at old mid → Fails mid new (refusal_of r)
    → (plain ≡ true → IsPlain new (refusal_of r)) → answer_refusal e ≡ from_reader (refusal_of r) → AnswerFails v2_answer plain old new e
within-fails plain had at old mid new r e h f p is =
    going-fails plain v2_answer (left_of had at) V2 h.taken old mid new r e h.going h.running
    (λ q n. ap (in_front had) (sections_refused at q.list q.end (refusal_of r) n)) f p is

-- the header that was read is the one of the definition
pub header_is : (o : Result Header AnswerRefusal) (h : Header) → AnswersResponse (λ (x : Header). x) o (Ok h) → o ≡ Ok h
header_is (Ok x) h a = ap Ok (sym a)
header_is (Err r) h a = absurd a
