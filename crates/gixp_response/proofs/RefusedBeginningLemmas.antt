-- Reading a response of version 0 or 1 fails exactly if no beginning of the stream ends one.
use Rattle.std.proofs.Common.{◌≡◌, Bool, true, false, cond, List, [], ◌∷◌, ◌++◌, Option, Some, None, refl, sym, ap, subst, ◌∙◌}
use Rattle.gixp_packetline.specs.declared.protocol.Protocol.{Protocol}
use Rattle.gixp_packetline.specs.declared.protocol.MessageKind.{MessageKind}
use Rattle.gixp_packetline.specs.Items.{is_stop}
use Rattle.gixp_packetline.specs.Lines.{gives, stops, refuses, next_from, next_of}
use Rattle.gixp_packetline.specs.Pieces.{Refusal, Piece, line, mark, Pieces, no_pieces, with_piece, unexpected_frame}
use Rattle.gixp_response.specs.ResponseError.{AnswerRefusal, by_reader, from_reader}
use Rattle.gixp_response.specs.Answer.{Found, refused, front}
use Rattle.gixp_response.specs.Beginnings.{AnswerItem, line_item, stopped, Expected, ends, unless_ends, beginnings_from, v1_answer}
use Rattle.gixp_response.specs.BeginningGrammar.{items_after, AreStops, BeginningIsRefused}

-- the same, after items that were read before
record Refusing (v : Protocol) (a : Expected) (before : List AnswerItem) (p : Pieces) (e : AnswerRefusal) : Type 0 where
  taken : List Piece
  rest : Pieces
  split : p ≡ front taken rest
  stops : AreStops v taken
  refusal : Refusal
  next : next_of v rest ≡ refuses refusal
  error : e ≡ from_reader refusal
  unended : (shorter more : List Piece) → taken ≡ shorter ++ more → ends a (items_after shorter before) (next_of v (front more rest))
      ≡ None

refused_parts : (e f : AnswerRefusal) → refused e ≡ refused f → e ≡ f
refused_parts e f h = cc

refused_here : (v : Protocol) (a : Expected) (before : List AnswerItem) (p : Pieces) (e : AnswerRefusal) (refusal : Refusal)
    → next_of v p ≡ refuses refusal → ends a before (next_of v p) ≡ None
    → refused (from_reader refusal) ≡ refused e → Refusing v a before p e
refused_here v a before p e refusal n none h = record {
  taken = [];
  rest = p;
  split = refl;
  stops = tt;
  refusal = refusal;
  next = n;
  error = sym (refused_parts (from_reader refusal) e h);
  unended = no_shorter;
}
  where
    no_shorter : (shorter more : List Piece) → [] ≡ shorter ++ more → ends a (items_after shorter before) (next_of v (front more p)) ≡ None
    no_shorter [] more k = subst (λ m. ends a before (next_of v (front m p)) ≡ None) k none
    no_shorter (x ∷ xs) more k = cc

-- it fails after one more packet line
refused_further : (v : Protocol) (a : Expected) (before : List AnswerItem) (x : Piece) (p : Pieces) (e : AnswerRefusal)
    → ends a before (next_of v (with_piece x p)) ≡ None
    → Refusing v a (items_after (x ∷ []) before) p e
    → ((ps : List Piece) → items_after (x ∷ ps) before ≡ items_after ps (items_after (x ∷ []) before))
    → ((ps : List Piece) → AreStops v ps → AreStops v (x ∷ ps))
    → Refusing v a before (with_piece x p) e
refused_further v a before x p e none h s m = record {
  taken = x ∷ h.taken;
  rest = h.rest;
  split = ap (with_piece x) h.split;
  stops = m h.taken h.stops;
  refusal = h.refusal;
  next = h.next;
  error = h.error;
  unended = no_shorter;
}
  where
    no_shorter : (shorter more : List Piece) → (x ∷ h.taken) ≡ shorter ++ more
        → ends a (items_after shorter before) (next_of v (front more h.rest)) ≡ None
    no_shorter [] more k =
        let all : with_piece x p ≡ front more h.rest = ap (with_piece x) h.split ∙ ap (λ l. front l h.rest) k in
        subst (λ q. ends a before (next_of v q) ≡ None) all none
    no_shorter (y ∷ ys) more k =
        let first : x ≡ y = cc in
        let others : h.taken ≡ ys ++ more = cc in
        subst (λ z. ends a (items_after (z ∷ ys) before) (next_of v (front more h.rest)) ≡ None) first
        (ap (λ i. ends a i (next_of v (front more h.rest))) (s ys) ∙ h.unended ys more others)

-- it doesn't end here
refused_step : (v : Protocol) (a : Expected) (before : List AnswerItem) (p : Pieces) (longer : Found) (e : AnswerRefusal)
    (o : Option Bool) → ends a before (next_of v p) ≡ o
    → unless_ends o before p longer ≡ refused e → (ends a before (next_of v p) ≡ None → longer ≡ refused e → Refusing v a before p e)
    → Refusing v a before p e
refused_step v a before p longer e (Some pack) i h f = cc
refused_step v a before p longer e None i h f = f i h

-- a special packet is a stop, or an error
refused_mark : (v : Protocol) (a : Expected) (before : List AnswerItem) (kind : MessageKind) (p : Pieces) (longer : Found)
    (e : AnswerRefusal) (b : Bool) → is_stop v kind ≡ b
    → next_of v (with_piece (mark kind) p) ≡ cond b (stops kind p) (refuses unexpected_frame)
    → cond b (unless_ends (ends a before (stops kind p)) before (with_piece (mark kind) p) longer)
    (unless_ends (ends a before (refuses unexpected_frame)) before (with_piece (mark kind) p) (refused (by_reader unexpected_frame)))
    ≡ refused e
    → (is_stop v kind ≡ true → ends a before (next_of v (with_piece (mark kind) p)) ≡ None → longer ≡ refused e
    → Refusing v a before (with_piece (mark kind) p) e)
    → Refusing v a before (with_piece (mark kind) p) e
refused_mark v a before kind p longer e true i n h f =
    refused_step v a before (with_piece (mark kind) p) longer e (ends a before (stops kind p)) (ap (ends a before) n) h (f i)
refused_mark v a before kind p longer e false i n h f =
    refused_step v a before (with_piece (mark kind) p) (refused (by_reader unexpected_frame)) e
    (ends a before (refuses unexpected_frame)) (ap (ends a before) n) h
    (λ none k. refused_here v a before (with_piece (mark kind) p) e unexpected_frame n none k)

refused_from : (v : Protocol) (a : Expected) (ps : List Piece) (end : Refusal) (before : List AnswerItem) (e : AnswerRefusal)
    → beginnings_from v a ps end before ≡ refused e
    → Refusing v a before (record { list = ps; end = end }) e
refused_from v a [] end before e h =
    refused_step v a before (no_pieces end) (refused (from_reader end)) e (ends a before (refuses end)) refl h
    (λ none k. refused_here v a before (no_pieces end) e end refl none k)
refused_from v a (line text ∷ ps) end before e h =
    let p : Pieces = record { list = ps; end = end } in
    refused_step v a before (with_piece (line text) p) (beginnings_from v a ps end (line_item text ∷ before)) e
    (ends a before (gives text p)) refl h
    (λ none k. refused_further v a before (line text) p e none (refused_from v a ps end (line_item text ∷ before) e k) (λ _. refl)
    (λ _ s. s))
refused_from v a (mark kind ∷ ps) end before e h =
    let p : Pieces = record { list = ps; end = end } in
    refused_mark v a before kind p (beginnings_from v a ps end (stopped ∷ before)) e (is_stop v kind) refl refl h
    (λ i none k. refused_further v a before (mark kind) p e none (refused_from v a ps end (stopped ∷ before) e k) (λ _. refl)
    (λ _ s. (i, s)))

-- if reading fails, no beginning ends a response
pub refusal_found : (v : Protocol) (a : Expected) (p : Pieces) (e : AnswerRefusal) → v1_answer v a p ≡ refused e
    → BeginningIsRefused v a p e
refusal_found v a p e h =
    let x = refused_from v a p.list p.end [] e h in
    record {
      taken = x.taken;
      rest = x.rest;
      split = x.split;
      stops = x.stops;
      refusal = x.refusal;
      next = x.next;
      error = x.error;
      unended = x.unended;
    }

-- ---- and back

mark_refused : (a : Expected) (before : List AnswerItem) (kind : MessageKind) (p x : Pieces) (longer : Found) (refusal : Refusal)
    (b : Bool) → cond b (stops kind p) (refuses unexpected_frame) ≡ refuses refusal
    → ends a before (cond b (stops kind p) (refuses unexpected_frame)) ≡ None
    → cond b (unless_ends (ends a before (stops kind p)) before x longer)
    (unless_ends (ends a before (refuses unexpected_frame)) before x (refused (by_reader unexpected_frame)))
    ≡ refused (from_reader refusal)
mark_refused a before kind p x longer refusal true n none = cc
mark_refused a before kind p x longer refusal false n none =
    let same : unexpected_frame ≡ refusal = cc in
    rw none (ap (λ r. refused (from_reader r)) same)

-- if the reader fails and nothing ends the response, reading fails
read_here : (v : Protocol) (a : Expected) (list : List Piece) (end : Refusal) (before : List AnswerItem) (refusal : Refusal)
    → next_from v list end ≡ refuses refusal → ends a before (next_from v list end) ≡ None
    → beginnings_from v a list end before ≡ refused (from_reader refusal)
read_here v a [] end before refusal n none =
    let same : end ≡ refusal = cc in
    rw none (ap (λ r. refused (from_reader r)) same)
read_here v a (line text ∷ ps) end before refusal n none = cc
read_here v a (mark kind ∷ ps) end before refusal n none =
    mark_refused a before kind (record { list = ps; end = end }) (record { list = mark kind ∷ ps; end = end })
    (beginnings_from v a ps end (stopped ∷ before)) refusal (is_stop v kind) n none

mark_passed : (a : Expected) (before : List AnswerItem) (kind : MessageKind) (p x : Pieces) (longer other all : Found) (b : Bool)
    → b ≡ true → ends a before (cond b (stops kind p) (refuses unexpected_frame)) ≡ None
    → longer ≡ all → cond b (unless_ends (ends a before (stops kind p)) before x longer) other ≡ all
mark_passed a before kind p x longer other all true i n h = rw n h
mark_passed a before kind p x longer other all false i n h = cc

-- after packet lines none of whose beginnings ends a response
read_after : (v : Protocol) (a : Expected) (taken : List Piece) (rest : Pieces) (before : List AnswerItem) (refusal : Refusal)
    → AreStops v taken → next_of v rest ≡ refuses refusal
    → ((shorter more : List Piece) → taken ≡ shorter ++ more → ends a (items_after shorter before) (next_of v (front more rest)) ≡ None)
    → beginnings_from v a (taken ++ rest.list) rest.end before ≡ refused (from_reader refusal)
read_after v a [] rest before refusal s n f = read_here v a rest.list rest.end before refusal n (f [] [] refl)
read_after v a (line text ∷ ts) rest before refusal s n f =
    let none : ends a before (gives text (front ts rest)) ≡ None = f [] (line text ∷ ts) refl in
    rw none (read_after v a ts rest (line_item text ∷ before) refusal s n
    (λ shorter more k. f (line text ∷ shorter) more (ap (λ l. line text ∷ l) k)))
read_after v a (mark kind ∷ ts) rest before refusal s n f =
    mark_passed a before kind (front ts rest) (front (mark kind ∷ ts) rest)
    (beginnings_from v a (ts ++ rest.list) rest.end (stopped ∷ before)) _ _ (is_stop v kind) s.0 (f [] (mark kind ∷ ts) refl)
    (read_after v a ts rest (stopped ∷ before) refusal s.1 n (λ shorter more k. f (mark kind ∷ shorter) more (ap (λ l. mark kind ∷ l) k)))

-- if no beginning ends a response, reading fails
pub refusal_read : (v : Protocol) (a : Expected) (p : Pieces) (e : AnswerRefusal) → BeginningIsRefused v a p e → v1_answer v a p ≡ refused e
refusal_read v a p e h = ap (v1_answer v a) h.split ∙ read_after v a h.taken h.rest [] h.refusal h.stops h.next h.unended
    ∙ ap refused (sym h.error)
