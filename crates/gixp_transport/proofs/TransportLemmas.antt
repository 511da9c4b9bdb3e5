-- Several writes, one after another.
use Rattle.std.proofs.Common.{◌≡◌, ℕ, List, [], ◌∷◌, ◌++◌, Option, Some, None, IfSome, refl, sym, ap, subst, ◌∙◌, append_assoc, append-nil, Result, map, ◌&&◌}
use Rattle.std.specs.List.{list_all}
use Rattle.std.specs.Io.KnownBytes.{Appends}
use Rattle.std.specs.declared.io.ErrorKind.{ErrorKind}
use Rattle.gixp_capabilities.specs.declared.client.Error.{Error}
use Rattle.gixp_transport.specs.declared.message.Message.{Message}
use Rattle.gixp_packetline.specs.FrameText.{texts_of}
use Rattle.gixp_transport.specs.Message.{MessageValue, value_frame, value_fits, message_value, message_frame, message_fits, request_frames, all_fit}
use Rattle.gixp_packetline.specs.Reading.{Reading}
use Rattle.gixp_transport.specs.Transport.{with_written, Wrote, WriteBroke, Unwritten, Unfinished, Sends}

appends_none : (o : Option (List ℕ)) → Appends o o []
appends_none None = tt
appends_none (Some xs) = sym (append-nil xs)

appends_both : (a b c : Option (List ℕ)) (xs ys : List ℕ) → Appends a b xs → Appends b c ys → Appends a c (xs ++ ys)
appends_both None b c xs ys h k = tt
appends_both (Some x) None c xs ys h k = absurd h
appends_both (Some x) (Some y) None xs ys h k = absurd k
appends_both (Some x) (Some y) (Some z) xs ys h k = rw (k, h, append_assoc) refl

pub wrote_nothing : (r : Reading) → r.held.broken ≡ None → Wrote r r []
wrote_nothing r h = record { whole = h; written = appends_none r.held.written; rest = refl }

-- then more was written
pub wrote_more : (old mid new : Reading) (xs ys : List ℕ) → Wrote old mid xs → Wrote mid new ys → Wrote old new (xs ++ ys)
wrote_more old mid new xs ys h k = record {
  whole = h.whole;
  written = appends_both old.held.written mid.held.written new.held.written xs ys h.written k.written;
  rest = k.rest ∙ ap (λ m. with_written m new.held.written) h.rest;
}

-- then a write failed
pub broke_then : (old mid new : Reading) (xs : List ℕ) (kind : ErrorKind) → Wrote old mid xs → WriteBroke mid new kind
    → WriteBroke old new kind
broke_then old mid new xs kind h k =
    let b = subst (λ m. WriteBroke m new kind) h.rest k in
    record {
      persists = b.persists;
      same = subst (λ o. IfSome o (λ x. kind ≡ x)) (sym h.whole) tt;
      failures = b.failures;
      rest = b.rest;
    }

-- then an allocation failed
pub unfinished_then : (old mid new : Reading) (xs : List ℕ) → Wrote old mid xs → Unwritten mid new → Unfinished old new
unfinished_then old mid new xs h k =
    let b = subst (λ m. Unwritten m new) h.rest k in
    record { alone = b.alone; rest = k.rest ∙ h.rest ∙ ap (with_written old) (ap (λ (r : Reading). r.held.written) (sym k.rest)) }

-- the packet lines of messages, and whether they fit, depend only on their values
fit-values : (messages : List Message) → all_fit messages ≡ list_all value_fits (map message_value messages)
fit-values [] = refl
fit-values (m ∷ ms) = ap (λ b. message_fits m && b) (fit-values ms)

frames-values : (messages : List Message) → request_frames messages ≡ map value_frame (map message_value messages)
frames-values [] = refl
frames-values (m ∷ ms) = ap (λ fs. message_frame m ∷ fs) (frames-values ms)

-- a sent request depends only on the values of its messages
pub sends-values : (old new : Reading) (messages : List Message) (values : List MessageValue) (r : Result Unit Error)
    → map message_value messages ≡ values
    → Sends old new (all_fit messages) (texts_of (request_frames messages)) r
    → Sends old new (list_all value_fits values) (texts_of (map value_frame values)) r
sends-values old new messages values r is h =
    let fit = fit-values messages ∙ ap (list_all value_fits) is in
    let frames = frames-values messages ∙ ap (map value_frame) is in
    subst (λ b. Sends old new b (texts_of (map value_frame values)) r) fit
    (subst (λ fs. Sends old new (all_fit messages) (texts_of fs) r) frames h)
