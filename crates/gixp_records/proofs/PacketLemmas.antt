-- A packet line at an offset.
use Rattle.std.proofs.Common.{◌≡◌, ℕ, ◌+◌, ◌-◌, ◌≤◌, true, false, List, ◌∷◌, ◌++◌, length, take, drop, refl, sym, ap, subst, ◌∙◌, arith, append_assoc, length-append, length-drop, Ok, Err}
use Rattle.std.proofs.lemmas.Bool.{cond-true, cond-false}
use Rattle.std.proofs.lemmas.List.{take_at, drop_at, drop-drop}
use Rattle.gixp_packetline.specs.declared.protocol.MessageKind.{MessageKind}
use Rattle.gixp_packetline.specs.declared.protocol.MessageKind.TheVariants.{Flush, Delimiter, ResponseEnd, Text}
use Rattle.gixp_packetline.specs.Frames.{Frame, payload, special, Frames, frames_of, with_frame}
use Rattle.gixp_packetline.specs.Grammar.{AreFrames}
use Rattle.gixp_packetline.specs.PacketLine.{frame_size}
use Rattle.gixp_packetline.specs.Pieces.{server, line, mark, no_pieces, with_piece, is_error, error_message, pieces_of, pieces_of_line, stream_pieces}
use Rattle.gixp_records.specs.declared.span.Span.{Span}
use Rattle.gixp_records.specs.declared.packets.PacketRefused.TheVariants.{Server}
use Rattle.gixp_records.specs.declared.packets.NextPacket.TheVariants.{Line, Mark}
use Rattle.gixp_records.specs.Span.{text_at, IsWithin}
use Rattle.gixp_records.specs.Packets.{IsFront, HasFront, pieces_at, IsNextPacket}

-- the first frame by the grammar
pub is_front : (bytes : List ℕ) (f : Frame) (fs : Frames) → AreFrames bytes (frames_of bytes).list (frames_of bytes).end
    → frames_of bytes ≡ with_frame f fs → IsFront f bytes
is_front bytes f fs h e = at f (subst (λ (k : Frames). AreFrames bytes k.list k.end) e h)
  where
    at : (f : Frame) → AreFrames bytes (f ∷ fs.list) fs.end → IsFront f bytes
    at (payload p) g =
        let whole : bytes ≡ g.3.0 ++ (p ++ g.1) = g.2 ∙ ap (λ t. t ++ g.1) g.3.2 ∙ append_assoc g.3.0 p g.1 in
        let following : drop 4 bytes ≡ p ++ g.1 = ap (drop 4) whole ∙ drop_at g.3.0 (p ++ g.1) 4 g.3.1.0 in
        let long : length bytes ≡ length g.3.0 + length (p ++ g.1) = ap length whole ∙ length-append g.3.0 (p ++ g.1) in
        (ap (take (length p)) following ∙ take_at p g.1 (length p) refl, omega (arith, long, length-append p g.1, g.3.1.0))
    at (special Flush) g = omega (arith, ap length g.2 ∙ length-append g.0 g.1, g.3.0)
    at (special Delimiter) g = omega (arith, ap length g.2 ∙ length-append g.0 g.1, g.3.0)
    at (special ResponseEnd) g = omega (arith, ap length g.2 ∙ length-append g.0 g.1, g.3.0)
    at (special Text) g = absurd g.3

-- the offset of the rest
pub rest_at : (bytes rest : List ℕ) (at size : ℕ) → at ≤ length bytes → rest ≡ drop size (drop at bytes) → size ≤ length (drop at bytes)
    → length bytes - length rest ≡ at + size
rest_at bytes rest at size h e k =
    let d = length-drop at bytes in
    let r : length rest ≡ length (drop at bytes) - size = ap length e ∙ length-drop size (drop at bytes) in
    omega arith

-- the bytes from that offset are the rest
pub rest_is : (bytes rest : List ℕ) (at size : ℕ) → at ≤ length bytes → rest ≡ drop size (drop at bytes) → size ≤ length (drop at bytes)
    → rest ≡ drop (length bytes - length rest) bytes
rest_is bytes rest at size h e k =
    e ∙ drop-drop size at bytes ∙ ap (λ n. drop n bytes) (sym (rest_at bytes rest at size h e k))

-- a payload at an offset
pub record IsPlaced (bytes : List ℕ) (at : ℕ) (text rest : List ℕ) : Type 0 where
  pub stands : take (length text) (drop (at + 4) bytes) ≡ text
  pub within : at + 4 + length text ≤ length bytes
  pub next : length bytes - length rest ≡ at + (4 + length text)
  pub same : rest ≡ drop (length bytes - length rest) bytes
  pub pieces : stream_pieces (drop at bytes) ≡ pieces_of_line text (stream_pieces rest)

pub placed : (bytes : List ℕ) (at : ℕ) (text rest : List ℕ) → HasFront bytes at (payload text) rest → IsPlaced bytes at text rest
placed bytes at text rest h =
    let d = length-drop at bytes in
    let size = h.front.1 in
    let place = h.place in
    record {
      stands = ap (take (length text)) (sym (drop-drop 4 at bytes)) ∙ h.front.0;
      within = omega arith;
      next = rest_at bytes rest at (4 + length text) h.place h.following h.front.1;
      same = rest_is bytes rest at (4 + length text) h.place h.following h.front.1;
      pieces = ap pieces_of h.frames;
    }

pub line_next : (bytes : List ℕ) (at : ℕ) (text rest : List ℕ) → HasFront bytes at (payload text) rest → is_error text ≡ false
    → IsNextPacket bytes at (Ok (Line (record { at = at + 4; len = length text }) (length bytes - length rest)))
line_next bytes at text rest h plain =
    let p = placed bytes at text rest h in
    let next = length bytes - length rest in
    let shown : take (length text) (drop (at + 4) bytes) ≡ text = p.stands in
    let following : stream_pieces rest ≡ pieces_at bytes next = ap stream_pieces p.same in
    let short = length-drop next bytes in (
      p.pieces ∙ cond-false _ _ _ plain ∙ ap (λ t. with_piece (line t) (stream_pieces rest)) (sym shown)
          ∙ ap (λ q. with_piece (line (take (length text) (drop (at + 4) bytes))) q) following,
      p.within,
      ap is_error shown ∙ plain,
      (omega (arith, p.next), omega (arith, p.next, p.within)),
    )

pub server_next : (bytes : List ℕ) (at : ℕ) (text rest : List ℕ) (words : Span) → HasFront bytes at (payload text) rest
    → is_error text ≡ true → text_at bytes words ≡ error_message text → IsWithin bytes words
    → IsNextPacket bytes at (Err (Server words))
server_next bytes at text rest words h wrong attributes within =
    let p = placed bytes at text rest h in
    (p.pieces ∙ cond-true _ _ _ wrong ∙ ap (λ t. no_pieces (server t)) (sym attributes), within)

pub mark_next : (bytes : List ℕ) (at : ℕ) (kind : MessageKind) (rest : List ℕ) → HasFront bytes at (special kind) rest
    → IsNextPacket bytes at (Ok (Mark kind (length bytes - length rest)))
mark_next bytes at kind rest h =
    let next = rest_at bytes rest at 4 h.place h.following h.front in
    let same = rest_is bytes rest at 4 h.place h.following h.front in
    let d = length-drop at bytes in
    let size = h.front in
    let place = h.place in (
      ap pieces_of h.frames ∙ ap (λ q. with_piece (mark kind) (stream_pieces q)) same,
      (omega (arith, next), omega (arith, next, d, size, place)),
    )

pub rest_short : (bytes : List ℕ) (at : ℕ) (f : Frame) (rest : List ℕ) → HasFront bytes at f rest → length rest ≤ length bytes
rest_short bytes at f rest h =
    let r : length rest ≡ length (drop at bytes) - frame_size f = ap length h.following ∙ length-drop (frame_size f) (drop at bytes) in
    omega (arith, r, length-drop at bytes)

pub has_front : (bytes : List ℕ) (at : ℕ) (f : Frame) (rest : List ℕ) → at ≤ length bytes
    → AreFrames (drop at bytes) (frames_of (drop at bytes)).list (frames_of (drop at bytes)).end
    → frames_of (drop at bytes) ≡ with_frame f (frames_of rest) → rest ≡ drop (frame_size f) (drop at bytes) → HasFront bytes at f rest
has_front bytes at f rest place h e k = record {
  frames = e;
  following = k;
  front = is_front (drop at bytes) f (frames_of rest) h e;
  place = place;
}
