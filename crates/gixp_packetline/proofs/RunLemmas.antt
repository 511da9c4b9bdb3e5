-- Calls of a reader of lines in a row.
use Rattle.std.proofs.Common.{◌≡◌, ℕ, Bool, true, false, cond, List, Option, Some, None, IfSome, refl, ◌∙◌, arith, inl, inr, Result, Ok, Err}
use Rattle.gixp_packetline.specs.declared.protocol.Protocol.{Protocol}
use Rattle.gixp_packetline.specs.declared.protocol.MessageKind.{MessageKind}
use Rattle.gixp_packetline.specs.Pieces.{Refusal, Pieces, not_utf8}
use Rattle.gixp_packetline.specs.Lines.{gives, stops, refuses, next_of}
use Rattle.gixp_packetline.specs.Reading.{Reading, TakesLine, ShowsLine, Fails, Reads, ReadsText, IsPlain, PlainText, refusal_of}
use Rattle.gixp_packetline.specs.declared.read.Error.{Error}
use Rattle.gixp_packetline.specs.declared.read.Error.TheVariants.{Io, Decode, Server, UnexpectedFrame, NotUtf8, BadBand, Interrupted, Memory}

pub mark_not_gives : (b : Bool) (kind : MessageKind) (p q : Pieces) (e : Refusal) (text : List ℕ)
    → cond b (stops kind p) (refuses e) ≡ gives text q → ⊥
mark_not_gives true kind p q e text h = cc
mark_not_gives false kind p q e text h = cc

-- a line that was peeked at is the one that is taken
pub peeked-takes : (old new : Reading) (r : Result Bool Error) → Reads old new r → old.peeked ≡ true → TakesLine old new
peeked-takes old new (Ok true) h p = h
peeked-takes old new (Ok false) (inl h) p = absurd (let e = h.stays.unpeeked in cc)
peeked-takes old new (Ok false) (inr h) p = absurd (let e = h.1.unpeeked in cc)
peeked-takes old new (Err x) (inl h) p = absurd (let e = h.unpeeked in cc)
peeked-takes old new (Err x) (inr (inl h)) p = absurd (let e = h.stays.unpeeked in cc)
peeked-takes old new (Err x) (inr (inr h)) p = absurd (let e = h.unpeeked in cc)

peek_take_next : (a b c : Option Pieces) (v w : Protocol) (s t : List ℕ) → w ≡ v → t ≡ s
    → IfSome a (λ p. (q : Pieces) × (b ≡ Some p) × (next_of v p ≡ gives s q))
    → IfSome b (λ p. (q : Pieces) × (c ≡ Some q) × (next_of w p ≡ gives t q))
    → IfSome a (λ p. (q : Pieces) × (c ≡ Some q) × (next_of v p ≡ gives t q))
peek_take_next None b c v w s t e f h k = tt
peek_take_next (Some p) None c v w s t e f h k = absurd (let e = h.1 in cc)
peek_take_next (Some p) (Some p2) c v w s t e f h k =
    let same : p2 ≡ p = let e = h.1 in cc in
    (k.0, k.1, rw (e, same) at k.2)

-- to peek and then take is to take
pub shows-takes : (old mid new : Reading) → ShowsLine old mid → TakesLine mid new → TakesLine old new
shows-takes old mid new h k =
    let line : new.line ≡ mid.line = k.again h.peeked in
    record {
      running = h.running;
      sound = h.sound;
      again = λ p. line ∙ h.again p;
      next = peek_take_next old.to_come mid.to_come new.to_come old.version mid.version mid.line new.line h.version line h.next k.next;
      stopped = k.stopped;
      version = k.version ∙ h.version;
      peeked = k.peeked;
      failures = k.failures ∙ h.failures;
      left = let a = k.left in let b = h.left in omega arith;
      held = k.held ∙ h.held;
    }

not_utf8-fails : (old new : Reading) → Fails old new not_utf8 → ⊥
not_utf8-fails old new (inl h) = h.lasting
not_utf8-fails old new (inr (inl h)) = h.fault
not_utf8-fails old new (inr (inr h)) = absurd (let e = h.refusal in cc)

-- a call that failed before it took a line appended nothing
pub fails-text : (old new : Reading) (e : Error) (before : List ℕ) → Fails old new (refusal_of e) → ReadsText old new before before (Err e)
fails-text old new (Io kind) text h = (h, refl)
fails-text old new (Decode x) text h = (h, refl)
fails-text old new (Server m) text h = (h, refl)
fails-text old new UnexpectedFrame text h = (h, refl)
fails-text old new NotUtf8 text h = absurd (not_utf8-fails old new h)
fails-text old new (BadBand b) text h = (h, refl)
fails-text old new Interrupted text h = (h, refl)
fails-text old new Memory text h = (inl h, refl)

-- an error of a plain reader
pub plain-text : (plain : Bool) (old new : Reading) (e : Error) → (plain ≡ true → IsPlain new (refusal_of e))
    → PlainText {X = ℕ} plain old new (Err e)
plain-text plain old new (Io kind) h = h
plain-text plain old new (Decode x) h = h
plain-text plain old new (Server m) h = h
plain-text plain old new UnexpectedFrame h = h
plain-text plain old new NotUtf8 h = h
plain-text plain old new (BadBand b) h = h
plain-text plain old new Interrupted h = h
plain-text plain old new Memory h = λ e. inl (h e)
