-- The packet line at the front of a list of bytes.
use Rattle.std.proofs.Common.{◌≡◌, ℕ, ◌≤◌, List, ◌∷◌, length, subst}
use Rattle.gixp_packetline.specs.Frames.{Frame, payload, Frames, End, frames_of, with_frame}
use Rattle.gixp_packetline.specs.Grammar.{AreFrames}

fits_in : (bytes line : List ℕ) (fs : List Frame) (end : End) → AreFrames bytes (payload line ∷ fs) end → length line ≤ 65516
fits_in bytes line fs end a = a.3.4

-- its payload fits into a packet line
pub line_fits : (bytes line : List ℕ) (rest : Frames) → frames_of bytes ≡ with_frame (payload line) rest
    → AreFrames bytes (frames_of bytes).list (frames_of bytes).end → length line ≤ 65516
line_fits bytes line rest e a = fits_in bytes line rest.list rest.end (subst (λ f. AreFrames bytes f.list f.end) e a)
