-- Packet lines that are written and read again are the same.
use Rattle.std.proofs.Common.{ℕ, zero, suc, ◌+◌, ◌/◌, ◌%◌, ◌<◌, inl, List, [], ◌∷◌, length, Some, refl, ap, ◌∙◌, arith}
use Rattle.hex.specs.Hex.{lower_digits, decode_pairs, IsBytes}
use Rattle.hex.proofs.HexLemmas.{length-encode_with, decode_sized-encode_lower}
use Rattle.gixp_packetline.specs.declared.protocol.MessageKind.TheVariants.{Flush, Delimiter, ResponseEnd, Text}
use Rattle.gixp_packetline.specs.Frames.{pair_number, Frame, payload, special, ended}
use Rattle.gixp_packetline.specs.Grammar.{Counts, IsFrame, AreFrames}
use Rattle.gixp_packetline.specs.FrameText.{digits_of, frame_text, texts_of, IsLawful, AreLawful}

pair_bytes : (a b : ℕ) → a < 256 → b < 256 → IsBytes (a ∷ b ∷ [])
pair_bytes a b ha hb zero = ha
pair_bytes a b ha hb (suc zero) = hb
pair_bytes a b ha hb (suc (suc i)) = omega arith

digits-count : (n : ℕ) → n < 65536 → Counts (digits_of n) n
digits-count n h = (
  length-encode_with lower_digits (n / 256 ∷ n % 256 ∷ []),
  ap pair_number (decode_sized-encode_lower (n / 256 ∷ n % 256 ∷ []) 2 refl (pair_bytes _ _ (omega arith) (omega arith)))
      ∙ ap Some (omega arith),
)

is_text : (f : Frame) → IsLawful f → IsFrame (frame_text f) f
unfolding decode_pairs
is_text (payload p) h = (digits_of (4 + length p), digits-count (4 + length p) (let a = h.1 in omega arith), refl, h.0, h.1)
is_text (special Flush) h = (refl, refl)
is_text (special Delimiter) h = (refl, refl)
is_text (special ResponseEnd) h = (refl, refl)
is_text (special Text) h = absurd h

pub are_read_back : (frames : List Frame) → AreLawful frames → AreFrames (texts_of frames) frames ended
are_read_back [] h = inl (omega arith)
are_read_back (f ∷ fs) h = (frame_text f, texts_of fs, refl, is_text f h.0, are_read_back fs h.1)
