-- The packet lines that are passed on (gitprotocol-pack, "Packfile Negotiation").
use Rattle.std.specs.Prelude.{◌≡◌, ℕ, ⊤, false, List, [], ◌∷◌, ◌++◌, Option, Some, None}
use Rattle.gixp_packetline.specs.Frames.{Frame, payload, special}
use Rattle.gixp_packetline.specs.Grammar.{IsFrame}
use Rattle.gixp_plain_responses.specs.Acknowledgement.{is_continue, detailed, acknowledged_id}

-- the bytes begin with these packet lines, and the rest follows
abbrev pub BeginWith : List ℕ → List Frame → List ℕ → Type 0
BeginWith bytes [] rest = bytes ≡ rest
BeginWith bytes (f ∷ fs) rest = (text more : List ℕ) × (bytes ≡ text ++ more) × IsFrame text f × BeginWith more fs rest

abbrev pub detailed_frame : Frame → Frame
detailed_frame (payload line) = payload (detailed line)
detailed_frame (special kind) = special kind

-- each line by `multi_ack_detailed`
abbrev pub detailed_frames : List Frame → List Frame
detailed_frames [] = []
detailed_frames (f ∷ fs) = detailed_frame f ∷ detailed_frames fs

abbrev pub with_id : Option (List ℕ) → List (List ℕ) → List (List ℕ)
with_id (Some id) ids = id ∷ ids
with_id None ids = ids

-- the digits of the ids that these packet lines acknowledge, in order
abbrev pub acknowledged_ids : List Frame → List (List ℕ)
acknowledged_ids [] = []
acknowledged_ids (payload line ∷ fs) = with_id (acknowledged_id line) (acknowledged_ids fs)
acknowledged_ids (special kind ∷ fs) = acknowledged_ids fs

-- none of these packet lines is an acknowledgement by `multi_ack`
abbrev pub AreDetailed : List Frame → Type 0
AreDetailed [] = ⊤
AreDetailed (payload line ∷ fs) = (is_continue line ≡ false) × AreDetailed fs
AreDetailed (special kind ∷ fs) = AreDetailed fs
