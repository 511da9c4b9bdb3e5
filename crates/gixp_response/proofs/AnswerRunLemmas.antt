-- The calls of a reader that read a response.
use Rattle.std.proofs.Common.{◌≡◌, ℕ, Bool, true, false, cond, List, [], ◌∷◌, ◌++◌, Option, Some, None, IfSome, IsSome, refl, sym, ap, ◌∙◌, append_assoc, inl, inr}
use Rattle.gixp_packetline.specs.declared.protocol.Protocol.{Protocol}
use Rattle.gixp_packetline.specs.declared.protocol.MessageKind.{MessageKind}
use Rattle.gixp_packetline.specs.declared.read.Error.{Error as ReadError}
use Rattle.std.specs.declared.io.ErrorKind.TheVariants.{UnexpectedEof}
use Rattle.gixp_packetline.specs.Pieces.{Refusal, io, Piece, line, mark, Pieces, no_pieces, with_piece, unexpected_frame}
use Rattle.gixp_packetline.specs.Items.{is_stop}
use Rattle.gixp_packetline.specs.Lines.{gives, stops, refuses, next_from, next_of}
use Rattle.gixp_packetline.specs.Reading.{Reading, TakesLine, TakesStop, AtStop, Fails, IsPlain, refusal_of, reset_to}
use Rattle.gixp_response.specs.declared.fetch.response.error.Error.{Error}
use Rattle.gixp_response.specs.declared.fetch.response.error.Error.TheVariants.{Memory}
use Rattle.gixp_response.specs.ResponseError.{AnswerRefusal, answer_refusal, from_reader, IsAnswerRefusal}
use Rattle.gixp_response.specs.Answer.{AnswerValue, Found, whole, refused, front, is_of_line}
use Rattle.gixp_response.specs.AnswerReading.{stop_of, last_stop, stop_after, Going, IsRunning, EndsAt, ReadsAnswer, AnswerFails}
use Rattle.gixp_packetline.proofs.ReadingLemmas.{Known, known_steps}

-- a special packet is not a line
mark_gives : (b : Bool) (kind : MessageKind) (p q : Pieces) (e : Refusal) (text : List ℕ)
    → cond b (stops kind p) (refuses e) ≡ gives text q → ⊥
mark_gives true kind p q e text h = cc
mark_gives false kind p q e text h = cc

-- packet lines that begin with this line
pub line_is : (v : Protocol) (list : List Piece) (end : Refusal) (text : List ℕ) (q : Pieces) → next_from v list end ≡ gives text q
    → (list ≡ line text ∷ q.list) × (end ≡ q.end)
line_is v [] end text q h = cc
line_is v (line t ∷ ps) end text q h =
    let p : Pieces = record { list = ps; end = end } in
    let e1 : t ≡ text = cc in
    let e2 : p ≡ q = cc in
    rw (← e1, ← e2) (refl, refl)
line_is v (mark kind ∷ ps) end text q h =
    absurd (mark_gives (is_stop v kind) kind (record { list = ps; end = end }) q unexpected_frame text h)

mark_stops : (b : Bool) (kind k : MessageKind) (ps : List Piece) (end : Refusal) (q : Pieces) (e : Refusal)
    → cond b (stops kind (record { list = ps; end = end })) (refuses e) ≡ stops k q
    → ((mark kind ∷ ps) ≡ mark k ∷ q.list) × (end ≡ q.end) × (b ≡ true)
mark_stops true kind k ps end q e h =
    let p : Pieces = record { list = ps; end = end } in
    let e1 : kind ≡ k = cc in
    let e2 : p ≡ q = cc in
    rw (← e1, ← e2) (refl, refl, refl)
mark_stops false kind k ps end q e h = cc

-- packet lines that begin with this stop
pub stop_is : (v : Protocol) (list : List Piece) (end : Refusal) (kind : MessageKind) (q : Pieces) → next_from v list end ≡ stops kind q
    → (list ≡ mark kind ∷ q.list) × (end ≡ q.end)
stop_is v [] end kind q h = cc
stop_is v (line t ∷ ps) end kind q h = cc
stop_is v (mark k ∷ ps) end kind q h = let all = mark_stops (is_stop v k) k kind ps end q unexpected_frame h in (all.0, all.1)

-- one more packet line after those that were taken
snoc_is : (taken : List Piece) (x : Piece) (q : Pieces) → front (taken ++ x ∷ []) q ≡ front taken (with_piece x q)
snoc_is taken x q = rw append_assoc refl

start_took : (o : Option Pieces) → Known o o (λ p q. p ≡ front [] q)
start_took None = tt
start_took (Some p) = (p, refl, refl)

pub going-start : (found : Pieces → Found) (v : Protocol) (old now : Reading) → now ≡ reset_to v old → Going found found [] old now
    × IsRunning v now
going-start found v old now h =
    rw h (
      record { took = start_took old.to_come; same = λ q. refl; failures = refl; held = refl },
      record { stopped = refl; version = refl },
    )

-- the same, with an equal continuation
pub going-turn : (found k l : Pieces → Found) (taken : List Piece) (old now : Reading) → Going found k taken old now
    → ((q : Pieces) → k q ≡ l q) → Going found l taken old now
going-turn found k l taken old now h f = record { took = h.took; same = λ q. h.same q ∙ f q; failures = h.failures; held = h.held }

took_piece : (found k : Pieces → Found) (taken : List Piece) (old mid new : Reading) (x : Piece) → Going found k taken old mid
    → Known mid.to_come new.to_come (λ q r. q ≡ with_piece x r) → new.failures ≡ mid.failures → new.held ≡ mid.held
    → Going found (λ q. k (with_piece x q)) (taken ++ x ∷ []) old new
took_piece found k taken old mid new x h step f s = record {
  took = known_steps old.to_come mid.to_come new.to_come (λ p q. p ≡ front taken q) (λ q r. q ≡ with_piece x r)
      (λ p r. p ≡ front (taken ++ x ∷ []) r)
      (λ p q r a b. a ∙ ap (front taken) b ∙ sym (snoc_is taken x r)) h.took step;
  same = λ q. ap found (snoc_is taken x q) ∙ h.same (with_piece x q);
  failures = f ∙ h.failures;
  held = s ∙ h.held;
}

known_line : (v : Protocol) (a b : Option Pieces) (text : List ℕ) → Known a b (λ p q. next_of v p ≡ gives text q)
    → Known a b (λ p q. p ≡ with_piece (line text) q)
known_line v None b text h = tt
known_line v (Some p) b text h =
    let parts = line_is v p.list p.end text h.0 h.2 in
    (h.0, h.1, rw (parts.0, parts.1) refl)

known_stop : (v : Protocol) (a b : Option Pieces) (kind : MessageKind) → Known a b (λ p q. next_of v p ≡ stops kind q)
    → Known a b (λ p q. p ≡ with_piece (mark kind) q)
known_stop v None b kind h = tt
known_stop v (Some p) b kind h =
    let parts = stop_is v p.list p.end kind h.0 h.2 in
    (h.0, h.1, rw (parts.0, parts.1) refl)

pub going-line : (found k : Pieces → Found) (v : Protocol) (taken : List Piece) (old mid new : Reading) → Going found k taken old mid
    → IsRunning v mid → TakesLine mid new
    → Going found (λ q. k (with_piece (line new.line) q)) (taken ++ line new.line ∷ []) old new × IsRunning v new
going-line found k v taken old mid new h r t = (
  took_piece found k taken old mid new (line new.line) h (known_line mid.version mid.to_come new.to_come new.line t.next) t.failures t.held,
  record { stopped = t.stopped; version = t.version ∙ r.version },
)

pub going-stop : (found k : Pieces → Found) (v : Protocol) (taken : List Piece) (old mid new : Reading) (kind : MessageKind)
    → Going found k taken old mid → IsRunning v mid → TakesStop mid new kind
    → Going found (λ q. k (with_piece (mark kind) q)) (taken ++ mark kind ∷ []) old new
going-stop found k v taken old mid new kind h r t =
    took_piece found k taken old mid new (mark kind) h (known_stop mid.version mid.to_come new.to_come kind t.next) t.failures t.held

pub going-reset : (found k : Pieces → Found) (v : Protocol) (taken : List Piece) (old mid new : Reading) → Going found k taken old mid
    → new ≡ reset_to v mid
    → Going found k taken old new × IsRunning v new
going-reset found k v taken old mid new h e =
    rw e (record { took = h.took; same = h.same; failures = h.failures; held = h.held }, record { stopped = refl; version = refl })

-- a reader that was not at a stop took the next one
pub stop_taken : (v : Protocol) (mid new : Reading) → IsRunning v mid → AtStop mid new → (kind : MessageKind) × TakesStop mid new kind
stop_taken v mid new r (inl k) = absurd (let s : IsSome mid.stopped = k.was in let e = r.stopped in cc)
stop_taken v mid new r (inr k) = k

known_found : (found k : Pieces → Found) (taken : List Piece) (a b : Option Pieces) (value : AnswerValue)
    → ((q : Pieces) → found (front taken q) ≡ k q) → ((q : Pieces) → k q ≡ whole value q)
    → Known a b (λ p q. p ≡ front taken q) → Known a b (λ p q. found p ≡ whole value q)
known_found found k taken None b value s w h = tt
known_found found k taken (Some p) b value s w h = (h.0, h.1, ap found h.2 ∙ s h.0 ∙ w h.0)

-- before a pack the reader is at no stop
pub ends_running : (v : Protocol) (pack : Bool) (at : Option MessageKind) → EndsAt v pack at → pack ≡ true → at ≡ None
ends_running v true at h e = h
ends_running v false at h e = cc

-- the last packet line was taken last
pub stands_last : (taken : List Piece) (x : Piece) → last_stop (taken ++ x ∷ []) ≡ stop_of x
stands_last [] x = refl
stands_last (p ∷ []) x = refl
stands_last (p ∷ q ∷ ps) x = stands_last (q ∷ ps) x

-- a reader that took a line is at no stop
pub last_line : (taken : List Piece) (text : List ℕ) (at : Option MessageKind) → at ≡ None → at ≡ last_stop (taken ++ line text ∷ [])
last_line taken text at h = h ∙ sym (stands_last taken (line text))

-- a reader that took a stop is at it
pub last_mark : (taken : List Piece) (kind : MessageKind) (at : Option MessageKind) → at ≡ Some kind
    → at ≡ last_stop (taken ++ mark kind ∷ [])
last_mark taken kind at h = h ∙ sym (stands_last taken (mark kind))

-- the packet lines taken are a response
pub going-whole : (found k : Pieces → Found) (v : Protocol) (taken : List Piece) (old new : Reading) (value : AnswerValue)
    → Going found k taken old new → new.version ≡ v
    → EndsAt v value.pack new.stopped → new.stopped ≡ stop_after value.pack taken → ((q : Pieces) → k q ≡ whole value q)
    → ReadsAnswer found v old new value
going-whole found k v taken old new value h e r at w = record {
  taken = taken;
  took = h.took;
  following = no_pieces (io UnexpectedEof);
  response = h.same (no_pieces (io UnexpectedEof)) ∙ w (no_pieces (io UnexpectedEof));
  at = at;
  answer = known_found found k taken old.to_come new.to_come value h.same w h.took;
  running = ends_running v value.pack new.stopped r;
  stopped = r;
  version = e;
  failures = h.failures;
}

known_refused : (found k : Pieces → Found) (taken : List Piece) (a b : Option Pieces) (r : AnswerRefusal)
    → ((q : Pieces) → found (front taken q) ≡ k q) → ((q : Pieces) → k q ≡ refused r)
    → Known a b (λ p q. p ≡ front taken q) → IfSome a (λ p. found p ≡ refused r)
known_refused found k taken None b r s w h = tt
known_refused found k taken (Some p) b r s w h = ap found h.2 ∙ s h.0 ∙ w h.0

-- the packet lines taken end in an error
pub going-refused : (plain : Bool) (found k : Pieces → Found) (taken : List Piece) (old new : Reading) (r : AnswerRefusal) (e : Error)
    → Going found k taken old new
    → new.stopped ≡ last_stop taken → ((q : Pieces) → k q ≡ refused r) → is_of_line r ≡ true → IsAnswerRefusal e r
    → AnswerFails found plain old new e
going-refused plain found k taken old new r e h at w l is = inl (record {
  taken = taken;
  read = record { took = h.took; failures = h.failures };
  refusal = r;
  last = record { of_line = l; always = λ q. h.same q ∙ w q; stopped = at };
  first = known_refused found k taken old.to_come new.to_come r h.same w h.took;
  error = is;
})

-- an allocation failed after the packet lines taken
pub going-memory : (plain : Bool) (found k : Pieces → Found) (taken : List Piece) (old new : Reading) → Going found k taken old new
    → new.stopped ≡ None → AnswerFails found plain old new Memory
going-memory plain found k taken old new h at =
    inr (inr (inr (record { taken = taken; read = record { took = h.took; failures = h.failures }; stopped = at; error = refl })))

refused_next : (found k : Pieces → Found) (v w : Protocol) (taken : List Piece) (a b c : Option Pieces) (e : Refusal) → w ≡ v
    → ((q : Pieces) → found (front taken q) ≡ k q)
    → ((q : Pieces) → next_of v q ≡ refuses e → k q ≡ refused (from_reader e)) → Known a b (λ p q. p ≡ front taken q)
    → IfSome b (λ p. (c ≡ Some (no_pieces e)) × (next_of w p ≡ refuses e)) → IfSome a (λ p. found p ≡ refused (from_reader e))
refused_next found k v w taken None b c e i s n h r = tt
refused_next found k v w taken (Some p) None c e i s n h r = absurd (let e = h.1 in cc)
refused_next found k v w taken (Some p) (Some q) c e i s n h r =
    let same : q ≡ h.0 = let e = h.1 in cc in
    ap found h.2 ∙ ap (λ x. found (front taken x)) (sym same) ∙ s q ∙ n q (ap (λ x. next_of x q) (sym i) ∙ r.1)

-- an error of the reader comes next, or an I/O error, an interrupt or an allocation failure
pub going-fails : (plain : Bool) (found k : Pieces → Found) (v : Protocol) (taken : List Piece) (old mid new : Reading) (r : ReadError)
    (e : Error) → Going found k taken old mid → IsRunning v mid
    → ((q : Pieces) → next_of v q ≡ refuses (refusal_of r) → k q ≡ refused (from_reader (refusal_of r)))
    → Fails mid new (refusal_of r) → (plain ≡ true → IsPlain new (refusal_of r)) → answer_refusal e ≡ from_reader (refusal_of r)
    → AnswerFails found plain old new e
going-fails plain found k v taken old mid new r e h run n (inl t) p is = inr (inl (record {
  taken = taken;
  now = mid;
  read = record { took = h.took; failures = h.failures };
  refusal = refusal_of r;
  refused = t;
  first = refused_next found k v mid.version taken old.to_come mid.to_come new.to_come (refusal_of r) run.version h.same n h.took t.next;
  error = is;
}))
going-fails plain found k v taken old mid new r e h run n (inr t) p is = inr (inr (inl (record {
  taken = taken;
  now = mid;
  read = record { took = h.took; failures = h.failures };
  refusal = refusal_of r;
  failed = t;
  unended = h.same (no_pieces (refusal_of r)) ∙ n (no_pieces (refusal_of r)) refl;
  is_plain = p;
  error = is;
})))
