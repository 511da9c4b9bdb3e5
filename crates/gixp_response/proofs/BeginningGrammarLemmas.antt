-- A response of version 0 or 1 is the shortest beginning of the stream that ends one.
use Rattle.std.proofs.Common.{◌≡◌, Bool, true, false, cond, List, [], ◌∷◌, ◌++◌, Option, Some, None, refl, sym, ap, subst, ◌∙◌}
use Rattle.gixp_packetline.specs.declared.protocol.Protocol.{Protocol}
use Rattle.gixp_packetline.specs.declared.protocol.MessageKind.{MessageKind}
use Rattle.gixp_packetline.specs.Items.{is_stop}
use Rattle.gixp_packetline.specs.Lines.{gives, stops, refuses, next_from, next_of}
use Rattle.gixp_packetline.specs.Pieces.{Refusal, Piece, line, mark, Pieces, no_pieces, with_piece, unexpected_frame}
use Rattle.gixp_response.specs.ResponseError.{by_reader, from_reader}
use Rattle.gixp_response.specs.Answer.{AnswerValue, Found, whole, refused, front}
use Rattle.gixp_response.specs.Beginnings.{AnswerItem, line_item, stopped, Expected, ends, answer_in, unless_ends, beginnings_from, v1_answer}
use Rattle.gixp_response.specs.BeginningGrammar.{items_after, AreStops, IsShortest}

-- the same, after items that were read before
record Shortest (v : Protocol) (a : Expected) (before : List AnswerItem) (p : Pieces) (value : AnswerValue) (rest : Pieces) : Type 0 where
  taken : List Piece
  pack : Bool
  split : p ≡ front taken rest
  stops : AreStops v taken
  ended : ends a (items_after taken before) (next_of v rest) ≡ Some pack
  response : value ≡ answer_in (items_after taken before) pack
  shortest : (shorter : List Piece) (next : Piece) (more : List Piece) → taken ≡ shorter ++ next ∷ more
      → ends a (items_after shorter before) (next_of v (front (next ∷ more) rest)) ≡ None

not_empty : (shorter : List Piece) (next : Piece) (more : List Piece) → [] ≡ shorter ++ next ∷ more → ⊥
not_empty [] next more h = cc
not_empty (x ∷ xs) next more h = cc

whole_parts : (v w : AnswerValue) (p q : Pieces) → whole v p ≡ whole w q → (v ≡ w) × (p ≡ q)
whole_parts v w p q h = (cc, cc)

here : (v : Protocol) (a : Expected) (before : List AnswerItem) (p : Pieces) (value : AnswerValue) (rest : Pieces) (pack : Bool)
    → ends a before (next_of v p) ≡ Some pack
    → whole (answer_in before pack) p ≡ whole value rest → Shortest v a before p value rest
here v a before p value rest pack e h =
    let parts = whole_parts (answer_in before pack) value p rest h in
    record {
      taken = [];
      pack = pack;
      split = parts.1;
      stops = tt;
      ended = subst (λ x. ends a before (next_of v x) ≡ Some pack) parts.1 e;
      response = sym parts.0;
      shortest = λ shorter next more k. absurd (not_empty shorter next more k);
    }

-- it ends after one more packet line
further : (v : Protocol) (a : Expected) (before : List AnswerItem) (x : Piece) (p : Pieces) (value : AnswerValue) (rest : Pieces)
    → ends a before (next_of v (with_piece x p)) ≡ None
    → Shortest v a (items_after (x ∷ []) before) p value rest
    → ((ps : List Piece) → items_after (x ∷ ps) before ≡ items_after ps (items_after (x ∷ []) before))
    → ((ps : List Piece) → AreStops v ps → AreStops v (x ∷ ps))
    → Shortest v a before (with_piece x p) value rest
further v a before x p value rest e h s m = record {
  taken = x ∷ h.taken;
  pack = h.pack;
  split = ap (with_piece x) h.split;
  stops = m h.taken h.stops;
  ended = ap (λ i. ends a i (next_of v rest)) (s h.taken) ∙ h.ended;
  response = h.response ∙ ap (λ i. answer_in i h.pack) (sym (s h.taken));
  shortest = none_shorter;
}
  where
    none_shorter : (shorter : List Piece) (next : Piece) (more : List Piece) → (x ∷ h.taken) ≡ shorter ++ next ∷ more
        → ends a (items_after shorter before) (next_of v (front (next ∷ more) rest)) ≡ None
    none_shorter [] next more k =
        let same : (x ∷ p.list) ≡ (next ∷ more) ++ rest.list = ap (λ (q : Pieces). x ∷ q.list) h.split ∙ ap (λ l. l ++ rest.list) k in
        let all : with_piece x p ≡ front (next ∷ more) rest = ap (with_piece x) h.split ∙ ap (λ l. front l rest) k in
        subst (λ q. ends a before (next_of v q) ≡ None) all e
    none_shorter (y ∷ ys) next more k =
        let first : x ≡ y = cc in
        let others : h.taken ≡ ys ++ next ∷ more = cc in
        let one = h.shortest ys next more others in
        subst (λ z. ends a (items_after (z ∷ ys) before) (next_of v (front (next ∷ more) rest)) ≡ None) first
        (ap (λ i. ends a i (next_of v (front (next ∷ more) rest))) (s ys) ∙ one)

-- it ends here, or further on
step : (v : Protocol) (a : Expected) (before : List AnswerItem) (p : Pieces) (longer : Found) (value : AnswerValue) (rest : Pieces)
    (o : Option Bool) → ends a before (next_of v p) ≡ o
    → unless_ends o before p longer ≡ whole value rest → (ends a before (next_of v p) ≡ None → longer ≡ whole value rest
    → Shortest v a before p value rest) → Shortest v a before p value rest
step v a before p longer value rest (Some pack) e h f = here v a before p value rest pack e h
step v a before p longer value rest None e h f = f e h

-- a special packet is a stop, or an error
mark_step : (v : Protocol) (a : Expected) (before : List AnswerItem) (kind : MessageKind) (p : Pieces) (longer : Found)
    (value : AnswerValue) (rest : Pieces) (b : Bool) → is_stop v kind ≡ b
    → next_of v (with_piece (mark kind) p) ≡ cond b (stops kind p) (refuses unexpected_frame)
    → cond b (unless_ends (ends a before (stops kind p)) before (with_piece (mark kind) p) longer)
    (unless_ends (ends a before (refuses unexpected_frame)) before (with_piece (mark kind) p) (refused (by_reader unexpected_frame)))
    ≡ whole value rest
    → (is_stop v kind ≡ true → ends a before (next_of v (with_piece (mark kind) p)) ≡ None → longer ≡ whole value rest
    → Shortest v a before (with_piece (mark kind) p) value rest)
    → Shortest v a before (with_piece (mark kind) p) value rest
mark_step v a before kind p longer value rest true i n h f =
    step v a before (with_piece (mark kind) p) longer value rest (ends a before (stops kind p)) (ap (ends a before) n) h (f i)
mark_step v a before kind p longer value rest false i n h f =
    step v a before (with_piece (mark kind) p) (refused (by_reader unexpected_frame)) value rest
    (ends a before (refuses unexpected_frame)) (ap (ends a before) n) h (λ e k. cc)

found_from : (v : Protocol) (a : Expected) (ps : List Piece) (end : Refusal) (before : List AnswerItem) (value : AnswerValue)
    (rest : Pieces) → beginnings_from v a ps end before ≡ whole value rest
    → Shortest v a before (record { list = ps; end = end }) value rest
found_from v a [] end before value rest h =
    step v a before (no_pieces end) (refused (from_reader end)) value rest (ends a before (refuses end)) refl h (λ e k. cc)
found_from v a (line text ∷ ps) end before value rest h =
    let p : Pieces = record { list = ps; end = end } in
    step v a before (with_piece (line text) p) (beginnings_from v a ps end (line_item text ∷ before)) value rest
    (ends a before (gives text p)) refl h
    (λ e k. further v a before (line text) p value rest e (found_from v a ps end (line_item text ∷ before) value rest k) (λ _. refl)
    (λ _ s. s))
found_from v a (mark kind ∷ ps) end before value rest h =
    let p : Pieces = record { list = ps; end = end } in
    mark_step v a before kind p (beginnings_from v a ps end (stopped ∷ before)) value rest (is_stop v kind) refl refl h
    (λ i e k. further v a before (mark kind) p value rest e (found_from v a ps end (stopped ∷ before) value rest k) (λ _. refl)
    (λ _ s. (i, s)))

-- a response that is read is the shortest beginning that ends one
pub shortest_found : (v : Protocol) (a : Expected) (p : Pieces) (value : AnswerValue) (rest : Pieces)
    → v1_answer v a p ≡ whole value rest → IsShortest v a p value rest
shortest_found v a p value rest h =
    let x = found_from v a p.list p.end [] value rest h in
    record { taken = x.taken; pack = x.pack; split = x.split; stops = x.stops; ended = x.ended; response = x.response; shortest = x.shortest }

-- ---- and back

mark_ended : (a : Expected) (before : List AnswerItem) (kind : MessageKind) (p : Pieces) (longer : Found) (pack b : Bool)
    → ends a before (cond b (stops kind p) (refuses unexpected_frame)) ≡ Some pack
    → cond b (unless_ends (ends a before (stops kind p)) before (with_piece (mark kind) p) longer)
    (unless_ends (ends a before (refuses unexpected_frame)) before (with_piece (mark kind) p) (refused (by_reader unexpected_frame)))
    ≡ whole (answer_in before pack) (with_piece (mark kind) p)
mark_ended a before kind p longer pack true h = rw h refl
mark_ended a before kind p longer pack false h = rw h refl

-- where a response ends, it is read
ended_here : (v : Protocol) (a : Expected) (list : List Piece) (end : Refusal) (before : List AnswerItem) (pack : Bool)
    → ends a before (next_from v list end) ≡ Some pack
    → beginnings_from v a list end before ≡ whole (answer_in before pack) (record { list = list; end = end })
ended_here v a [] end before pack h = rw h refl
ended_here v a (line text ∷ ps) end before pack h = rw h refl
ended_here v a (mark kind ∷ ps) end before pack h =
    mark_ended a before kind (record { list = ps; end = end }) (beginnings_from v a ps end (stopped ∷ before)) pack (is_stop v kind) h

mark_passed : (a : Expected) (before : List AnswerItem) (kind : MessageKind) (p x : Pieces) (longer other all : Found) (b : Bool)
    → b ≡ true → ends a before (cond b (stops kind p) (refuses unexpected_frame)) ≡ None
    → longer ≡ all → cond b (unless_ends (ends a before (stops kind p)) before x longer) other ≡ all
mark_passed a before kind p x longer other all true i n h = rw n h
mark_passed a before kind p x longer other all false i n h = cc

-- a beginning that ends a response is read if no shorter one does
found_shortest : (v : Protocol) (a : Expected) (taken : List Piece) (rest : Pieces) (before : List AnswerItem) (pack : Bool)
    → AreStops v taken
    → ends a (items_after taken before) (next_of v rest) ≡ Some pack
    → ((shorter : List Piece) (next : Piece) (more : List Piece) → taken ≡ shorter ++ next ∷ more
    → ends a (items_after shorter before) (next_of v (front (next ∷ more) rest)) ≡ None)
    → beginnings_from v a (taken ++ rest.list) rest.end before ≡ whole (answer_in (items_after taken before) pack) rest
found_shortest v a [] rest before pack s e f = ended_here v a rest.list rest.end before pack e
found_shortest v a (line text ∷ ts) rest before pack s e f =
    let none : ends a before (gives text (front ts rest)) ≡ None = f [] (line text) ts refl in
    rw none (found_shortest v a ts rest (line_item text ∷ before) pack s e
    (λ shorter next more k. f (line text ∷ shorter) next more (ap (λ l. line text ∷ l) k)))
found_shortest v a (mark kind ∷ ts) rest before pack s e f =
    mark_passed a before kind (front ts rest) (front (mark kind ∷ ts) rest)
    (beginnings_from v a (ts ++ rest.list) rest.end (stopped ∷ before)) _ _ (is_stop v kind) s.0 (f [] (mark kind) ts refl)
    (found_shortest v a ts rest (stopped ∷ before) pack s.1 e
    (λ shorter next more k. f (mark kind ∷ shorter) next more (ap (λ l. mark kind ∷ l) k)))

-- the shortest beginning that ends a response is read
pub shortest_read : (v : Protocol) (a : Expected) (p : Pieces) (value : AnswerValue) (rest : Pieces) → IsShortest v a p value rest
    → v1_answer v a p ≡ whole value rest
shortest_read v a p value rest h =
    ap (v1_answer v a) h.split ∙ found_shortest v a h.taken rest [] h.pack h.stops h.ended h.shortest ∙ ap (λ x. whole x rest) (sym h.response)
