-- How a response of version 0 or 1 is read, one packet line after the other.
use Rattle.std.proofs.Common.{◌≡◌, ℕ, Bool, true, false, cond, List, [], ◌∷◌, ◌++◌, Option, Some, None, IfSome, Result, Ok, Err, refl, sym, ap, subst, ◌∙◌, append-nil, inl, inr}
use Rattle.std.specs.Prelude.{not, ◌&&◌, ◌||◌, ◌⊎◌}
use Rattle.std.specs.List.{list_any}
use Rattle.std.specs.declared.io.ErrorKind.{ErrorKind}
use Rattle.std.specs.declared.io.ErrorKind.TheVariants.{UnexpectedEof}
use Rattle.gixp_packetline.specs.declared.protocol.Protocol.{Protocol}
use Rattle.gixp_packetline.specs.declared.protocol.Protocol.TheVariants.{V0, V1}
use Rattle.gixp_packetline.specs.declared.protocol.MessageKind.{MessageKind}
use Rattle.gixp_packetline.specs.declared.protocol.MessageKind.TheVariants.{Flush}
use Rattle.gixp_packetline.specs.declared.read.Error.{Error as ReadError}
use Rattle.gixp_packetline.specs.Items.{is_stop}
use Rattle.gixp_packetline.specs.Lines.{Next, gives, stops, refuses, next_from, next_of}
use Rattle.gixp_packetline.specs.Pieces.{Refusal, io, Piece, line, mark, Pieces, no_pieces, with_piece, unexpected_frame}
use Rattle.gixp_packetline.specs.Reading.{Reading, TakesLine, ShowsLine, TakesStop, AtStop, Reads, Faults, Fails, IsPlain, refusal_of, reset_to, Rose}
use Rattle.gixp_response.specs.declared.fetch.response.error.Error.{Error}
use Rattle.gixp_response.specs.declared.fetch.response.error.Error.TheVariants.{Memory}
use Rattle.gixp_response.specs.declared.fetch.response.beginnings.ResponseLine.{ResponseLine}
use Rattle.gixp_response.specs.declared.fetch.response.beginnings.ResponseLine.TheVariants.{Acknowledgement as LineAcknowledgement, ShallowUpdate as LineUpdate}
use Rattle.gixp_response.specs.ResponseError.{from_reader, by_reader, answer_refusal}
use Rattle.gixp_response.specs.Answer.{AnswerValue, no_more, Found, whole, refused, front}
use Rattle.gixp_response.specs.Beginnings.{AnswerItem, acknowledged, updated, other, stopped, line_item, line_item_of, is_ready, is_nak, is_stopped, is_other, is_at_end, last_is, last_two_are, Expected, ends_by_nak, ends_before, ends, answer_in, answer_with, unless_ends, beginnings_from, v1_answer}
use Rattle.gixp_response.specs.AnswerReading.{last_stop, Going, IsRunning, EndsBare, ReadsAnswer, Answered, AnswerFails}
use Rattle.gixp_response.proofs.AnswerRunLemmas.{line_is, going-start, going-turn, going-line, going-stop, going-reset, going-whole, going-memory, going-fails, stop_taken, stands_last, last_mark}

-- the response that ends after this beginning
abbrev pub longer_of : Protocol → Expected → List AnswerItem → Pieces → Found
longer_of v a before q = beginnings_from v a q.list q.end before

-- if the last item is not a stop, neither is the last packet line
abbrev pub SameLast : List Piece → List AnswerItem → Type 0
SameLast taken before = last_is is_stopped before ≡ false → last_stop taken ≡ None

-- this beginning was read
pub record Read (v : Protocol) (a : Expected) (before : List AnswerItem) (old now : Reading) : Type 0 where
  pub taken : List Piece
  pub going : Going (v1_answer v a) (longer_of v a before) taken old now
  pub running : IsRunning v now
  pub last : SameLast taken before

-- this beginning was read; it ends no response
pub record Amid (v : Protocol) (a : Expected) (answer : AnswerValue) (received_ready follows_stop : Bool) (old now : Reading) : Type 0 where
  pub before : List AnswerItem
  pub read : Read v a before old now
  pub answer_is : answer ≡ answer_in before false
  pub ready_is : received_ready ≡ list_any is_ready before
  pub stop_is : follows_stop ≡ last_is is_stopped before
  pub no_nak : ends_by_nak a before ≡ false
  pub no_stops : last_two_are is_stopped before ≡ false

-- at first nothing was read
pub amid-start : (v : Protocol) (a : Expected) (old now : Reading) → now ≡ reset_to v old → Amid v a (no_more false) false false old now
amid-start v a old now e =
    let all = going-start (v1_answer v a) v old now e in
    record {
      before = [];
      read = record { taken = []; going = all.0; running = all.1; last = λ _. refl };
      answer_is = refl;
      ready_is = refl;
      stop_is = refl;
      no_nak = refl;
      no_stops = refl;
    }

-- if nothing else ends the response, only the next packet line may
goes_on : (a : Expected) (before : List AnswerItem) (next : Next) → ends_by_nak a before ≡ false
    → last_two_are is_stopped before ≡ false → ends a before next ≡ ends_before before next
goes_on a before next n s = rw (n, s) refl

either_whole : (b : Bool) (f g h : Found) → f ≡ h → g ≡ h → cond b f g ≡ h
either_whole true f g h p q = p
either_whole false f g h p q = q

-- a beginning that ends a response, whatever follows
ended_is : (v : Protocol) (a : Expected) (list : List Piece) (end : Refusal) (before : List AnswerItem) (pack : Bool)
    → ((next : Next) → ends a before next ≡ Some pack)
    → beginnings_from v a list end before ≡ whole (answer_in before pack) (record { list = list; end = end })
ended_is v a [] end before pack h = rw (h (refuses end)) refl
ended_is v a (line text ∷ ps) end before pack h = rw (h (gives text (record { list = ps; end = end }))) refl
ended_is v a (mark kind ∷ ps) end before pack h =
    either_whole (is_stop v kind) _ _ _ (rw (h (stops kind (record { list = ps; end = end }))) refl)
    (rw (h (refuses unexpected_frame)) refl)

after_stop : (v : Protocol) (a : Expected) (before : List AnswerItem) (kind : MessageKind) (q : Pieces) → is_stop v kind ≡ true
    → ends_by_nak a before ≡ false → last_two_are is_stopped before ≡ false
    → longer_of v a before (with_piece (mark kind) q) ≡ longer_of v a (stopped ∷ before) q
after_stop v a before kind q s n t = rw (s, n, t) refl

read_stop : (v : Protocol) (a : Expected) (before : List AnswerItem) (old mid new : Reading) (h : Read v a before old mid)
    → ends_by_nak a before ≡ false → last_two_are is_stopped before ≡ false
    → (k : (kind : MessageKind) × TakesStop mid new kind)
    → Going (v1_answer v a) (longer_of v a (stopped ∷ before)) (h.taken ++ mark k.0 ∷ []) old new
read_stop v a before old mid new h n t k =
    let stop : is_stop v k.0 ≡ true = subst (λ w. is_stop w k.0 ≡ true) h.running.version k.1.is_stop in
    going-turn (v1_answer v a) _ (longer_of v a (stopped ∷ before)) (h.taken ++ mark k.0 ∷ []) old new
    (going-stop (v1_answer v a) (longer_of v a before) v h.taken old mid new k.0 h.going h.running k.1)
    (λ q. after_stop v a before k.0 q stop n t)

-- a stop is skipped
pub amid-stop : (v : Protocol) (a : Expected) (answer : AnswerValue) (received_ready : Bool) (old mid new last : Reading)
    → Amid v a answer received_ready false old mid → AtStop mid new → last ≡ reset_to v new
    → Amid v a answer received_ready true old last
amid-stop v a answer received_ready old mid new last h k e =
    let t = stop_taken v mid new h.read.running k in
    let went = read_stop v a h.before old mid new h.read h.no_nak h.no_stops t in
    let all = going-reset (v1_answer v a) (longer_of v a (stopped ∷ h.before)) v _ old new last went e in
    record {
      before = stopped ∷ h.before;
      read = record { taken = h.read.taken ++ mark t.0 ∷ []; going = all.0; running = all.1; last = λ s. cc };
      answer_is = h.answer_is;
      ready_is = h.ready_is;
      stop_is = refl;
      no_nak = refl;
      no_stops = sym h.stop_is;
    }

ends_by_stops : (a : Expected) (before : List AnswerItem) → true ≡ last_is is_stopped before → (next : Next)
    → ends a (stopped ∷ before) next ≡ Some false
ends_by_stops a before e next = rw (← e) refl

abbrev pub IsEarlier : Protocol → Type 0
IsEarlier v = (v ≡ V1) ⊎ (v ≡ V0)

-- under these versions only a flush packet is a stop
flush_in_v1 : (kind : MessageKind) → is_stop V1 kind ≡ true → kind ≡ Flush
flush_in_v1 Flush h = refl
flush_in_v1 _ h = cc

flush_in_v0 : (kind : MessageKind) → is_stop V0 kind ≡ true → kind ≡ Flush
flush_in_v0 Flush h = refl
flush_in_v0 _ h = cc

only_flush : (v : Protocol) → IsEarlier v → (kind : MessageKind) → is_stop v kind ≡ true → kind ≡ Flush
only_flush v (inl e) kind h = flush_in_v1 kind (subst (λ x. is_stop x kind ≡ true) e h)
only_flush v (inr e) kind h = flush_in_v0 kind (subst (λ x. is_stop x kind ≡ true) e h)

ends_bare : (v : Protocol) → IsEarlier v → (at : Option MessageKind) → (at ≡ None) ⊎ (at ≡ Some Flush) → EndsBare v at
ends_bare v (inl e) at h = subst (λ x. EndsBare x at) (sym e) h
ends_bare v (inr e) at h = subst (λ x. EndsBare x at) (sym e) h

-- a second stop ends the response
pub amid-stops : (v : Protocol) (earlier : IsEarlier v) (a : Expected) (answer : AnswerValue) (received_ready : Bool)
    (old mid new : Reading) → Amid v a answer received_ready true old mid → AtStop mid new
    → Answered (v1_answer v a) v old new answer
amid-stops v earlier a answer received_ready old mid new h k =
    let t = stop_taken v mid new h.read.running k in
    let went = read_stop v a h.before old mid new h.read h.no_nak h.no_stops t in
    inl (subst (ReadsAnswer (v1_answer v a) v old new) (sym h.answer_is)
    (going-whole (v1_answer v a) (longer_of v a (stopped ∷ h.before)) v _ old new (answer_in h.before false) went
    (t.1.version ∙ h.read.running.version)
    (ends_bare v earlier new.stopped (inr (t.1.stopped
    ∙ ap Some (only_flush v earlier t.0 (subst (λ x. is_stop x t.0 ≡ true) h.read.running.version t.1.is_stop)))))
    (last_mark h.read.taken t.0 new.stopped t.1.stopped)
    (λ q. ended_is v a q.list q.end (stopped ∷ h.before) false (ends_by_stops a h.before h.stop_is))))

-- the end of the stream, by its I/O error
end_kind : (kind : ErrorKind) → is_at_end (io kind) ≡ true → io kind ≡ io UnexpectedEof
end_kind UnexpectedEof h = refl
end_kind _ h = cc

-- the end of the stream is this error only
end_is : (r : Refusal) → is_at_end r ≡ true → r ≡ io UnexpectedEof
end_is (io kind) h = end_kind kind h
end_is _ h = cc

ends_at_end : (a : Expected) (before : List AnswerItem) → ends_by_nak a before ≡ false → last_two_are is_stopped before ≡ false
    → false ≡ last_is is_stopped before
    → ends a before (refuses (io UnexpectedEof)) ≡ Some false
ends_at_end a before n t s = rw (n, t, ← s) refl

mark_at_end : (b : Bool) (kind : MessageKind) (p : Pieces) → cond b (stops kind p) (refuses unexpected_frame)
    ≡ refuses (io UnexpectedEof) → ⊥
mark_at_end true kind p h = cc
mark_at_end false kind p h = cc

-- the stream ends, not right after a stop
at_end_is : (v : Protocol) (a : Expected) (before : List AnswerItem) (list : List Piece) (end : Refusal)
    → ends a before (refuses (io UnexpectedEof)) ≡ Some false
    → next_from v list end ≡ refuses (io UnexpectedEof) → beginnings_from v a list end before
    ≡ whole (answer_in before false) (no_pieces (io UnexpectedEof))
at_end_is v a before [] end e h = let s : end ≡ io UnexpectedEof = cc in rw (s, e) refl
at_end_is v a before (line t ∷ ps) end e h = cc
at_end_is v a before (mark kind ∷ ps) end e h = absurd (mark_at_end (is_stop v kind) kind (record { list = ps; end = end }) h)

-- no packet line is left at the end of the stream
nothing_left : (v : Protocol) (list : List Piece) (end : Refusal) → next_from v list end ≡ refuses (io UnexpectedEof)
    → record { list = list; end = end } ≡ no_pieces (io UnexpectedEof)
nothing_left v [] end h = let s : end ≡ io UnexpectedEof = cc in rw s refl
nothing_left v (line t ∷ ps) end h = cc
nothing_left v (mark kind ∷ ps) end h = absurd (mark_at_end (is_stop v kind) kind (record { list = ps; end = end }) h)

took_end : (v w : Protocol) (taken : List Piece) (o m n : Option Pieces) → w ≡ v
    → IfSome o (λ p. (q : Pieces) × (m ≡ Some q) × (p ≡ front taken q))
    → IfSome m (λ p. (n ≡ Some (no_pieces (io UnexpectedEof))) × (next_of w p ≡ refuses (io UnexpectedEof)))
    → IfSome o (λ p. (q : Pieces) × (n ≡ Some q) × (p ≡ front taken q))
took_end v w taken None m n i h t = tt
took_end v w taken (Some p) None n i h t = absurd (let x = h.1 in cc)
took_end v w taken (Some p) (Some q) n i h t =
    let same : q ≡ h.0 = let x = h.1 in cc in
    let end : q ≡ no_pieces (io UnexpectedEof) = nothing_left w q.list q.end t.1 in
    (no_pieces (io UnexpectedEof), t.0, h.2 ∙ ap (front taken) (sym same ∙ end))

known_end : (v w : Protocol) (found k : Pieces → Found) (taken : List Piece) (o m n : Option Pieces) (value : AnswerValue) (r : Refusal)
    → w ≡ v → ((q : Pieces) → found (front taken q) ≡ k q)
    → ((q : Pieces) → next_of v q ≡ refuses r → k q ≡ whole value (no_pieces r))
    → IfSome o (λ p. (q : Pieces) × (m ≡ Some q) × (p ≡ front taken q))
    → IfSome m (λ p. (n ≡ Some (no_pieces r)) × (next_of w p ≡ refuses r))
    → IfSome o (λ p. (q : Pieces) × (n ≡ Some q) × (found p ≡ whole value q))
known_end v w found k taken None m n value r i s e h t = tt
known_end v w found k taken (Some p) None n value r i s e h t = absurd (let x = h.1 in cc)
known_end v w found k taken (Some p) (Some q) n value r i s e h t =
    let same : q ≡ h.0 = let x = h.1 in cc in
    (no_pieces r, t.0, ap found h.2 ∙ ap (λ x. found (front taken x)) (sym same) ∙ s q ∙ e q (ap (λ x. next_of x q) (sym i) ∙ t.1))

and_parts : (x y : Bool) → (x && not y) ≡ true → (x ≡ true) × (y ≡ false)
and_parts true true h = cc
and_parts true false h = (refl, refl)
and_parts false y h = cc

fault_is_no_end : (old new : Reading) → Faults old new (io UnexpectedEof) → ⊥
fault_is_no_end old new f = let x = f.fault.0 in cc

end_answers : (v : Protocol) (earlier : IsEarlier v) (a : Expected) (before : List AnswerItem) (old mid new : Reading)
    → Read v a before old mid → ends a before (refuses (io UnexpectedEof)) ≡ Some false
    → last_is is_stopped before ≡ false → Fails mid new (io UnexpectedEof) → Answered (v1_answer v a) v old new (answer_in before false)
end_answers v earlier a before old mid new h e l (inl t) = inl (record {
  taken = h.taken;
  took = took_end v mid.version h.taken old.to_come mid.to_come new.to_come h.running.version h.going.took t.next;
  following = no_pieces (io UnexpectedEof);
  response = h.going.same (no_pieces (io UnexpectedEof)) ∙ at_end_is v a before [] (io UnexpectedEof) e refl;
  at = t.stopped ∙ sym (h.last l);
  answer = known_end v mid.version (v1_answer v a) (longer_of v a before) h.taken old.to_come mid.to_come new.to_come
      (answer_in before false) (io UnexpectedEof)
      h.running.version h.going.same (λ q n. at_end_is v a before q.list q.end e n) h.going.took t.next;
  running = λ p. cc;
  stopped = ends_bare v earlier new.stopped (inl t.stopped);
  version = t.version ∙ h.running.version;
  failures = t.failures ∙ h.going.failures;
})
end_answers v earlier a before old mid new h e l (inr (inl t)) = absurd (fault_is_no_end mid new t)
end_answers v earlier a before old mid new h e l (inr (inr t)) =
    let nothing : Pieces = no_pieces (io UnexpectedEof) in
    let all : front h.taken nothing ≡ record { list = h.taken; end = io UnexpectedEof } = rw append-nil refl in
    let left : longer_of v a before nothing ≡ whole (answer_in before false) nothing = at_end_is v a before [] (io UnexpectedEof) e refl in
    inr (record {
      taken = h.taken;
      now = mid;
      took = h.going.took;
      broke = t;
      answer = ap (v1_answer v a) (sym all) ∙ h.going.same nothing ∙ left;
      stopped = t.stopped;
      version = t.version ∙ h.running.version;
      failures = subst (λ n. Rose n new.failures) h.going.failures t.failures;
    })

-- the end of the stream, not right after a stop
pub amid-end : (v : Protocol) (earlier : IsEarlier v) (a : Expected) (answer : AnswerValue) (received_ready follows_stop : Bool)
    (old mid new : Reading) (r : ReadError) → Amid v a answer received_ready follows_stop old mid
    → Fails mid new (refusal_of r) → true ≡ (is_at_end (refusal_of r) && not follows_stop) → Answered (v1_answer v a) v old new answer
amid-end v earlier a answer received_ready follows_stop old mid new r h f t =
    let parts = and_parts (is_at_end (refusal_of r)) follows_stop (sym t) in
    let kind = end_is (refusal_of r) parts.0 in
    let fails : Fails mid new (io UnexpectedEof) = subst (λ x. Fails mid new x) kind f in
    let stop : false ≡ last_is is_stopped h.before = sym parts.1 ∙ h.stop_is in
    subst (Answered (v1_answer v a) v old new) (sym h.answer_is)
    (end_answers v earlier a h.before old mid new h.read (ends_at_end a h.before h.no_nak h.no_stops stop) (sym stop) fails)

no_end : (x : Bool) (y z : Bool) → z ≡ y → false ≡ (x && not z) → cond (x && not y) (Some false) None ≡ None
no_end x y z e h = let s : (x && not y) ≡ false = ap (λ w. x && not w) (sym e) ∙ sym h in rw s refl

mark_refused : (v : Protocol) (a : Expected) (before : List AnswerItem) (b : Bool) (kind : MessageKind) (p : Pieces) (f : Found)
    (r : Refusal)
    → ends a before (refuses unexpected_frame) ≡ None → cond b (stops kind p) (refuses unexpected_frame) ≡ refuses r
    → cond b f (unless_ends (ends a before (refuses unexpected_frame)) before (with_piece (mark kind) p)
    (refused (by_reader unexpected_frame))) ≡ refused (from_reader r)
mark_refused v a before true kind p f r e h = cc
mark_refused v a before false kind p f r e h = let s : unexpected_frame ≡ r = cc in rw (e, ← s) refl

-- an error of the reader is one of the response, unless it ends the response
refused_is : (v : Protocol) (a : Expected) (before : List AnswerItem) (list : List Piece) (end r : Refusal)
    → ends_by_nak a before ≡ false → last_two_are is_stopped before ≡ false
    → ends_before before (refuses r) ≡ None → next_from v list end ≡ refuses r → beginnings_from v a list end before
    ≡ refused (from_reader r)
refused_is v a before [] end r n t e h =
    let s : end ≡ r = cc in
    let none : ends a before (refuses r) ≡ None = goes_on a before (refuses r) n t ∙ e in
    rw (s, none) refl
refused_is v a before (line text ∷ ps) end r n t e h = cc
refused_is v a before (mark kind ∷ ps) end r n t e h =
    mark_refused v a before (is_stop v kind) kind (record { list = ps; end = end }) _ r (goes_on a before (refuses unexpected_frame) n t) h

-- an error of the reader, or an I/O error, an interrupt or an allocation failure
pub amid-fails : (plain : Bool) (v : Protocol) (a : Expected) (answer : AnswerValue) (received_ready follows_stop : Bool)
    (old mid new : Reading) (r : ReadError) (e : Error)
    → Amid v a answer received_ready follows_stop old mid → Fails mid new (refusal_of r) → false ≡ (is_at_end (refusal_of r) && not follows_stop)
    → (plain ≡ true → IsPlain new (refusal_of r)) → answer_refusal e ≡ from_reader (refusal_of r)
    → AnswerFails (v1_answer v a) plain old new e
amid-fails plain v a answer received_ready follows_stop old mid new r e h f t p is =
    going-fails plain (v1_answer v a) (longer_of v a h.before) v h.read.taken old mid new r e h.read.going h.read.running
    (λ q n. refused_is v a h.before q.list q.end (refusal_of r) h.no_nak h.no_stops
    (no_end (is_at_end (refusal_of r)) (last_is is_stopped h.before) follows_stop h.stop_is t) n) f p is

-- a line that was peeked at is still to come
known_shown : (a b : Option Pieces) (P : Pieces → Pieces → Type 0) → IfSome a (λ p. (q : Pieces) × (b ≡ Some p) × P p q)
    → IfSome a (λ p. b ≡ Some p)
known_shown None b P h = tt
known_shown (Some p) b P h = h.1

took_same : (o m n : Option Pieces) (taken : List Piece) → IfSome o (λ p. (q : Pieces) × (m ≡ Some q) × (p ≡ front taken q))
    → IfSome m (λ p. n ≡ Some p)
    → IfSome o (λ p. (q : Pieces) × (n ≡ Some q) × (p ≡ front taken q))
took_same None m n taken h k = tt
took_same (Some p) None n taken h k = absurd (let x = h.1 in cc)
took_same (Some p) (Some q) n taken h k =
    let same : q ≡ h.0 = let x = h.1 in cc in
    (q, k, h.2 ∙ ap (front taken) (sym same))

read_shown : (v : Protocol) (a : Expected) (before : List AnswerItem) (old mid new : Reading) → Read v a before old mid
    → ShowsLine mid new → Read v a before old new
read_shown v a before old mid new h s = record {
  taken = h.taken;
  going = record {
    took = took_same old.to_come mid.to_come new.to_come h.taken h.going.took (known_shown mid.to_come new.to_come _ s.next);
    same = h.going.same;
    failures = s.failures ∙ h.going.failures;
    held = s.held ∙ h.going.held;
  };
  running = record { stopped = s.stopped; version = s.version ∙ h.running.version };
  last = h.last;
}

-- the next call takes a line that was peeked at
pub peeked_taken : (mid new : Reading) (r : Result Bool ReadError) → mid.peeked ≡ true → Reads mid new r → TakesLine mid new
peeked_taken mid new (Ok true) p h = h
peeked_taken mid new (Ok false) p (inl h) = absurd (let x = h.stays.unpeeked in cc)
peeked_taken mid new (Ok false) p (inr h) = absurd (let x = h.1.unpeeked in cc)
peeked_taken mid new (Err e) p (inl h) = absurd (let x = h.unpeeked in cc)
peeked_taken mid new (Err e) p (inr (inl h)) = absurd (let x = h.stays.unpeeked in cc)
peeked_taken mid new (Err e) p (inr (inr h)) = absurd (let x = h.unpeeked in cc)

-- another line begins the pack
pack_is : (v : Protocol) (a : Expected) (before : List AnswerItem) (list : List Piece) (end : Refusal) (text : List ℕ) (rest : Pieces)
    → ends_by_nak a before ≡ false → last_two_are is_stopped before ≡ false
    → line_item text ≡ other → next_from v list end ≡ gives text rest → beginnings_from v a list end before
    ≡ whole (answer_in before true) (record { list = list; end = end })
pack_is v a before list end text rest n t o h =
    let parts = line_is v list end text rest h in
    rw parts.0 (rw (n, t, o) refl)

known_pack : (v w : Protocol) (found k : Pieces → Found) (taken : List Piece) (o m n : Option Pieces) (value : AnswerValue)
    (text : List ℕ) → w ≡ v → ((q : Pieces) → found (front taken q) ≡ k q)
    → ((q r : Pieces) → next_of v q ≡ gives text r → k q ≡ whole value q)
    → IfSome o (λ p. (q : Pieces) × (m ≡ Some q) × (p ≡ front taken q))
    → IfSome m (λ p. (q : Pieces) × (n ≡ Some p) × (next_of w p ≡ gives text q))
    → IfSome o (λ p. (q : Pieces) × (n ≡ Some q) × (found p ≡ whole value q))
known_pack v w found k taken None m n value text i s e h t = tt
known_pack v w found k taken (Some p) None n value text i s e h t = absurd (let x = h.1 in cc)
known_pack v w found k taken (Some p) (Some q) n value text i s e h t =
    let same : q ≡ h.0 = let x = h.1 in cc in
    (q, t.1, ap found h.2 ∙ ap (λ x. found (front taken x)) (sym same) ∙ s q ∙ e q t.0 (ap (λ x. next_of x q) (sym i) ∙ t.2))

-- the pack begins before another line
pub amid-pack : (v : Protocol) (a : Expected) (answer : AnswerValue) (received_ready follows_stop : Bool) (old mid new : Reading)
    → Amid v a answer received_ready follows_stop old mid → ShowsLine mid new
    → line_item new.line ≡ other → Answered (v1_answer v a) v old new (record answer { pack = true })
amid-pack v a answer received_ready follows_stop old mid new h s o =
    let shown = read_shown v a h.before old mid new h.read s in
    let begun : Pieces = record { list = line new.line ∷ []; end = io UnexpectedEof } in
    let value : record answer { pack = true } ≡ answer_in h.before true = ap (λ (x : AnswerValue). record x { pack = true }) h.answer_is in
    inl (subst (ReadsAnswer (v1_answer v a) v old new) (sym value) (record {
      taken = h.read.taken;
      took = took_same old.to_come mid.to_come new.to_come h.read.taken h.read.going.took (known_shown mid.to_come new.to_come _ s.next);
      following = begun;
      response = h.read.going.same begun
          ∙ pack_is v a h.before (line new.line ∷ []) (io UnexpectedEof) new.line (no_pieces (io UnexpectedEof)) h.no_nak h.no_stops o refl;
      at = shown.running.stopped;
      answer = known_pack v mid.version (v1_answer v a) (longer_of v a h.before) h.read.taken old.to_come mid.to_come new.to_come
          (answer_in h.before true) new.line
          h.read.running.version h.read.going.same
          (λ q r n. pack_is v a h.before q.list q.end new.line r h.no_nak h.no_stops o n) h.read.going.took s.next;
      running = λ _. shown.running.stopped;
      stopped = shown.running.stopped;
      version = shown.running.version;
      failures = shown.going.failures;
    }))

line_is_other : (s : ResponseLine) → is_other (line_item_of (Some s)) ≡ false
line_is_other (LineAcknowledgement x) = refl
line_is_other (LineUpdate x) = refl

line_is_stop : (s : ResponseLine) → is_stopped (line_item_of (Some s)) ≡ false
line_is_stop (LineAcknowledgement x) = refl
line_is_stop (LineUpdate x) = refl

after_line : (v : Protocol) (a : Expected) (before : List AnswerItem) (text : List ℕ) (i : AnswerItem) (q : Pieces)
    → ends_by_nak a before ≡ false → last_two_are is_stopped before ≡ false → line_item text ≡ i
    → is_other i ≡ false → longer_of v a before (with_piece (line text) q) ≡ longer_of v a (i ∷ before) q
after_line v a before text i q n t e o = rw (n, t, e, o) refl

read_line : (v : Protocol) (a : Expected) (before : List AnswerItem) (s : ResponseLine) (old mid new : Reading) → Read v a before old mid
    → ends_by_nak a before ≡ false → last_two_are is_stopped before ≡ false
    → TakesLine mid new → line_item new.line ≡ line_item_of (Some s) → Read v a (line_item_of (Some s) ∷ before) old new
read_line v a before s old mid new h n t k e =
    let all = going-line (v1_answer v a) (longer_of v a before) v h.taken old mid new h.going h.running k in
    record {
      taken = h.taken ++ line new.line ∷ [];
      going = going-turn (v1_answer v a) _ (longer_of v a (line_item_of (Some s) ∷ before)) _ old new all.0
          (λ q. after_line v a before new.line (line_item_of (Some s)) q n t e (line_is_other s));
      running = all.1;
      last = λ _. stands_last h.taken (line new.line);
    }

-- a line was peeked at and taken
pub record Taken (v : Protocol) (a : Expected) (s : ResponseLine) (before : List AnswerItem) (old new : Reading) : Type 0 where
  pub read : Read v a (line_item_of (Some s) ∷ before) old new

pub amid-line : (v : Protocol) (a : Expected) (answer : AnswerValue) (received_ready follows_stop : Bool) (s : ResponseLine)
    (old mid shown new : Reading) (r : Result Bool ReadError) (h : Amid v a answer received_ready follows_stop old mid)
    → ShowsLine mid shown → line_item_of (Some s) ≡ line_item shown.line → Reads shown new r → Taken v a s h.before old new
amid-line v a answer received_ready follows_stop s old mid shown new r h k e t =
    let taken = peeked_taken shown new r k.peeked t in
    record {
      read = read_line v a h.before s old shown new (read_shown v a h.before old mid shown h.read k) h.no_nak h.no_stops taken
          (ap line_item (taken.again k.peeked) ∙ sym e);
    }

answer_more : (before : List AnswerItem) (i : AnswerItem) → answer_with (answer_in before false) i ≡ answer_in (i ∷ before) false
answer_more before (acknowledged x) = refl
answer_more before (updated x) = refl
answer_more before other = refl
answer_more before stopped = refl

-- the response goes on after it
pub amid-response_line : (v : Protocol) (a : Expected) (answer more : AnswerValue) (received_ready follows_stop ready : Bool) (s : ResponseLine)
    (old mid new : Reading) (h : Amid v a answer received_ready follows_stop old mid)
    → Taken v a s h.before old new → more ≡ answer_with answer (line_item_of (Some s)) → ready ≡ (is_ready (line_item_of (Some s)) || received_ready)
    → false ≡ ((is_nak (line_item_of (Some s)) && a.negotiates) && not (a.expects_pack && ready)) → Amid v a more ready false old new
amid-response_line v a answer more received_ready follows_stop ready s old mid new h t m r n =
    let i = line_item_of (Some s) in
    let received : ready ≡ list_any is_ready (i ∷ h.before) = r ∙ ap (λ x. is_ready i || x) h.ready_is in
    record {
      before = i ∷ h.before;
      read = t.read;
      answer_is = m ∙ ap (λ x. answer_with x i) h.answer_is ∙ answer_more h.before i;
      ready_is = received;
      stop_is = sym (line_is_stop s);
      no_nak = ap (λ x. (is_nak i && a.negotiates) && not (a.expects_pack && x)) (sym received) ∙ sym n;
      no_stops = rw (line_is_stop s) refl;
    }

ends_nak : (a : Expected) (before : List AnswerItem) → ends_by_nak a before ≡ true → (next : Next) → ends a before next ≡ Some false
ends_nak a before e next = rw e refl

-- the response ends there
pub amid-nak : (v : Protocol) (earlier : IsEarlier v) (a : Expected) (answer more : AnswerValue) (received_ready follows_stop ready : Bool)
    (s : ResponseLine) (old mid new : Reading) (h : Amid v a answer received_ready follows_stop old mid)
    → Taken v a s h.before old new → more ≡ answer_with answer (line_item_of (Some s)) → ready ≡ (is_ready (line_item_of (Some s)) || received_ready)
    → true ≡ ((is_nak (line_item_of (Some s)) && a.negotiates) && not (a.expects_pack && ready)) → Answered (v1_answer v a) v old new more
amid-nak v earlier a answer more received_ready follows_stop ready s old mid new h t m r n =
    let i = line_item_of (Some s) in
    let received : ready ≡ list_any is_ready (i ∷ h.before) = r ∙ ap (λ x. is_ready i || x) h.ready_is in
    let nak : ends_by_nak a (i ∷ h.before) ≡ true = ap (λ x. (is_nak i && a.negotiates) && not (a.expects_pack && x)) (sym received) ∙ sym n in
    let value : more ≡ answer_in (i ∷ h.before) false = m ∙ ap (λ x. answer_with x i) h.answer_is ∙ answer_more h.before i in
    inl (subst (ReadsAnswer (v1_answer v a) v old new) (sym value)
    (going-whole (v1_answer v a) (longer_of v a (i ∷ h.before)) v t.read.taken old new
    (answer_in (i ∷ h.before) false) t.read.going t.read.running.version
    (ends_bare v earlier new.stopped (inl t.read.running.stopped))
    (t.read.running.stopped ∙ sym (t.read.last (line_is_stop s)))
    (λ q. ended_is v a q.list q.end (i ∷ h.before) false (ends_nak a (i ∷ h.before) nak))))

-- an allocation failed for its item
pub amid-memory : (plain : Bool) (v : Protocol) (a : Expected) (s : ResponseLine) (before : List AnswerItem) (old new : Reading)
    → Taken v a s before old new → AnswerFails (v1_answer v a) plain old new Memory
amid-memory plain v a s before old new t =
    going-memory plain (v1_answer v a) (longer_of v a
    (line_item_of (Some s) ∷ before)) t.read.taken old new t.read.going t.read.running.stopped
