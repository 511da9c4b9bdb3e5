-- The packet lines that a transport over memory reads after it took a response.
use Rattle.std.proofs.Common.{◌≡◌, ℕ, false, List, [], ◌∷◌, ◌++◌, length, map, reverse, Some, Vec, refl, sym, ap, subst, arith}
use Rattle.std.proofs.lemmas.List.{reverse-append}
use Rattle.std.specs.declared.alloc.Global.{Global}
use Rattle.std.specs.declared.io.impls.Cursor.{Cursor}
use Rattle.std.specs.declared.io.ErrorKind.TheVariants.{UnexpectedEof}
use Rattle.gixp_transport.specs.declared.bodies.Body.{Body}
use Rattle.gixp_transport.specs.declared.bodies.Bodies.{Bodies}
use Rattle.gixp_packetline.specs.declared.packets.Packets.{Packets}
use Rattle.gixp_packetline.specs.declared.packets.Place.TheVariants.{Open}
use Rattle.gixp_packetline.specs.Frames.{frames_of, frames_within}
use Rattle.gixp_packetline.specs.Pieces.{io, no_pieces, stream_pieces}
use Rattle.gixp_transport.specs.Bodies.{answer_of, bodies_held, bodies_reading}
use Rattle.gixp_transport.specs.Transport.{TakesAnswer, answer_pieces, first_answer, later_answers}

-- an empty stream ends at once
pub no_bytes : stream_pieces [] ≡ no_pieces (io UnexpectedEof)
unfolding frames_of frames_within
no_bytes = refl

-- the last body is the next response
pub answers-popped : (old more : List Body) (x : Body) → old ≡ more ++ x ∷ [] → map answer_of (reverse old) ≡ answer_of x
    ∷ map answer_of (reverse more)
answers-popped old more x h = rw (h, reverse-append more (x ∷ [])) refl

-- `Packets` that were restarted with another reader
abbrev pub restarted : Packets (Cursor (Vec ℕ Global)) → Cursor (Vec ℕ Global) → ℕ → Packets (Cursor (Vec ℕ Global))
restarted p reader failures =
    record p { reader = reader; window = record { pending = []; lent = [] }; place = Open; ended = false; failures = failures }

-- the body is the response that is read
pub takes-answer : (b : Bodies) (reader : Cursor (Vec ℕ Global)) (more : Vec Body Global) (failures : ℕ) (bytes : List ℕ)
    → reader.pos ≡ 0 → reader.inner.items ≡ bytes
    → stream_pieces bytes ≡ answer_pieces (first_answer (bodies_held b).answers) → later_answers (bodies_held b).answers
    ≡ map answer_of (reverse more.items)
    → TakesAnswer (bodies_reading b) (bodies_reading (record b { packets = restarted b.packets reader failures; later = more }))
takes-answer b reader more failures bytes at is first later = record {
  to_come = ap Some (rw (at, is) first);
  refused = refl;
  stopped = refl;
  version = refl;
  peeked = refl;
  left = omega arith;
  held = rw later refl;
}

-- restarted `Packets` read the response
pub takes-packets : (b : Bodies) (p : Packets (Cursor (Vec ℕ Global))) (reader : Cursor (Vec ℕ Global)) (more : Vec Body Global)
    (bytes : List ℕ)
    → p ≡ restarted b.packets reader p.failures → reader.pos ≡ 0 → reader.inner.items ≡ bytes
    → stream_pieces bytes ≡ answer_pieces (first_answer (bodies_held b).answers) → later_answers (bodies_held b).answers
    ≡ map answer_of (reverse more.items)
    → TakesAnswer (bodies_reading b) (bodies_reading (record b { packets = p; later = more }))
takes-packets b p reader more bytes is at holds first later =
    subst (λ q. TakesAnswer (bodies_reading b) (bodies_reading (record b { packets = q; later = more }))) (sym is)
    (takes-answer b reader more p.failures bytes at holds first later)

pub no_answers : (old more : List Body) → old ≡ more ++ [] → length old ≡ 0 → (map answer_of (reverse old) ≡ [])
    × (map answer_of (reverse more) ≡ [])
no_answers [] [] h n = (refl, refl)
no_answers [] (x ∷ xs) h n = absurd (let e = h in cc)
no_answers (x ∷ xs) more h n = absurd (omega arith)
