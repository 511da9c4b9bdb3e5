-- A pack in packets of band 1 (gitprotocol-pack, "Packfile Data"; gitprotocol-capabilities, "side-band, side-band-64k").
use Rattle.std.specs.Prelude.{◌≡◌, ℕ, ⊤, ◌<◌, ◌≤◌, List, [], ◌∷◌, ◌++◌, length, flat_map, codes}
use Rattle.gixp_packetline.specs.Frames.{Frame, payload, special, ended}
use Rattle.gixp_packetline.specs.Grammar.{AreFrames}
use Rattle.gixp_packetline.specs.declared.protocol.MessageKind.TheVariants.{Flush}
use Rattle.gixp_packetline.specs.FrameText.{payload_text}

-- the payload of a packet of band 1
abbrev pub band_payload : List ℕ → List ℕ
band_payload content = 1 ∷ content

-- the packet as text
abbrev pub band_text : List ℕ → List ℕ
band_text content = payload_text (band_payload content)

-- the end of a pack: a packet of the content that is left, if there is any, and a flush packet
abbrev pub last_text : List ℕ → List ℕ
last_text [] = codes "0000"
last_text (b ∷ content) = band_text (b ∷ content) ++ codes "0000"

-- the packet lines of a pack in these parts
abbrev pub band_frames : List (List ℕ) → List Frame
band_frames [] = special Flush ∷ []
band_frames (content ∷ contents) = payload (band_payload content) ∷ band_frames contents

-- each part fits into a packet
abbrev pub FitPackets : List (List ℕ) → Type 0
FitPackets [] = ⊤
FitPackets (content ∷ contents) = (0 < length content) × (length content ≤ 65515) × FitPackets contents

-- the bytes are packets of band 1 whose content, joined, is the pack, and a flush packet
pub record IsBanded (pack bytes : List ℕ) : Type 0 where
  pub contents : List (List ℕ)
  pub parts : flat_map (λ content. content) contents ≡ pack
  pub fit : FitPackets contents
  pub frames : AreFrames bytes (band_frames contents) ended
