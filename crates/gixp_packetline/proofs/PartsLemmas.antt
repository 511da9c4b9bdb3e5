-- The parts of a `Packets`: the reader, and the bytes read ahead.
use Rattle.std.proofs.Common.{◌≡◌, ◌⊎◌, inl, inr, refl, ℕ, List, Bool, true, false, if◌then◌else◌, Option, Some}
use Rattle.std.specs.Option.{option_map}
use Rattle.std.specs.Io.KnownBytes.{prepend_known}
use Rattle.gixp_packetline.specs.declared.packets.Packets.{Packets}
use Rattle.gixp_packetline.specs.declared.packets.Place.{Place}
use Rattle.gixp_packetline.specs.declared.packets.Place.TheVariants.{Open, Peeked, Stopped, Refused}
use Rattle.gixp_packetline.specs.Pieces.{Refusal, unexpected_frame, stream_pieces}
use Rattle.gixp_packetline.specs.Packets.{is_peeked, place_pieces, place_refusal, stand, packets_reading}
use Rattle.gixp_packetline.specs.ReadAhead.{pieces_after, HoldsAhead}

-- by the place, and whether the stream has ended
ahead_at : (place : Place) (ended : Bool) (text pending : List ℕ) (rest : Option (List ℕ)) (standing : Option Refusal)
    → (place_refusal place standing ≡ Some unexpected_frame → ⊥)
    → (place_pieces place text (option_map stream_pieces (if ended then Some pending else prepend_known pending rest))
    ≡ pieces_after (is_peeked place) text (prepend_known pending rest))
    ⊎ (place_pieces place text (option_map stream_pieces (if ended then Some pending else prepend_known pending rest))
    ≡ pieces_after (is_peeked place) text (Some pending))
ahead_at Open true text pending rest standing h = inr refl
ahead_at Open false text pending rest standing h = inl refl
ahead_at Peeked true text pending rest standing h = inr refl
ahead_at Peeked false text pending rest standing h = inl refl
ahead_at (Stopped kind) true text pending rest standing h = inr refl
ahead_at (Stopped kind) false text pending rest standing h = inl refl
ahead_at Refused ended text pending rest standing h = absurd (h refl)

-- the bytes read ahead are the first of the bytes to come
pub parts_ahead : {R : Type 0} (remaining : R → Option (List ℕ)) (p : Packets R)
    → HoldsAhead (packets_reading remaining p) (remaining p.reader) p.window.pending
parts_ahead remaining p h = ahead_at p.place p.ended p.window.lent p.window.pending (remaining p.reader) (stand p) h
