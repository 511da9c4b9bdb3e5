-- The packet line at the front, by its head.
use Rattle.std.proofs.Common.{◌≡◌, ℕ, ◌+◌, ◌<◌, ◌≤◌, List, length, take, drop, sym, ◌∙◌, ap, subst, arith, length-drop}
use Rattle.std.proofs.lemmas.List.{length-take-le}
use Rattle.gixp_packetline.specs.declared.packet.Head.{Head}
use Rattle.gixp_packetline.specs.Frames.{head_of, frames_by, frames_of, FitsFront}
use Rattle.gixp_packetline.proofs.FrameLemmas.{frames_of-step, head_fits}

pub by_head : (bytes : List ℕ) (h : Head) → h ≡ head_of bytes → frames_of bytes ≡ frames_by h bytes frames_of
by_head bytes h e = frames_of-step bytes ∙ ap (λ k. frames_by k bytes frames_of) (sym e)

pub fits_by : (bytes : List ℕ) (h : Head) → h ≡ head_of bytes → FitsFront (length bytes) h
fits_by bytes h e = subst (FitsFront (length bytes)) (sym e) (head_fits bytes)

-- the four digits and the payload are the whole packet line
pub payload_size : (bytes text : List ℕ) (size : ℕ) → 4 < size → size ≤ length bytes → text ≡ drop 4 (take size bytes)
    → size ≡ 4 + length text
payload_size bytes text size four fits e =
    let whole = length-take-le size bytes fits in
    let part = length-drop 4 (take size bytes) in
    let same : length text ≡ length (drop 4 (take size bytes)) = ap length e in
    omega arith

pub rest_is : (bytes rest : List ℕ) (size n : ℕ) → size ≡ n → rest ≡ drop size bytes → rest ≡ drop n bytes
rest_is bytes rest size n e h = h ∙ ap (λ k. drop k bytes) e
