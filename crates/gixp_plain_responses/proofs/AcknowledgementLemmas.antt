-- Lines that acknowledge an id.
use Rattle.std.proofs.Common.{◌≡◌, ℕ, ◌≤◌, ◌⊎◌, nat_eq, nat_lt, Bool, true, false, if◌then◌else◌, List, [], ◌∷◌, ◌++◌, length, take, drop, Some, refl, ap, ◌∙◌, arith, length-drop, inl, inr}
use Rattle.std.specs.Prelude.{codes}
use Rattle.std.specs.List.{starts_with}
use Rattle.std.proofs.lemmas.List.{length-take-le, drop_at}
use Rattle.std.proofs.lemmas.Bool.{and_parts, or_cases, and_right}
use Rattle.std.proofs.lemmas.Bool.Decides.{Decides-eqb}
use Rattle.std.proofs.lemmas.Slice.Eq.{bytes_eq-Decides, starts_is}
use Rattle.gixp_packetline.specs.Frames.{payload, special, Frame}
use Rattle.gixp_plain_responses.specs.Acknowledgement.{is_continue_status, is_continue, common_line, detailed, acknowledged_id}
use Rattle.gixp_plain_responses.specs.Detailed.{detailed_frames, with_id, acknowledged_ids, AreDetailed}
use Rattle.gixp_plain_responses.proofs.RoomLemmas.{take_front}

-- a status has nine or ten bytes
status_length : (status : List ℕ) → is_continue_status status ≡ true → (length status ≡ 9) ⊎ (length status ≡ 10)
status_length status h = elim (or_cases _ _ h) [
  | inl e ↦ inl (ap length ((bytes_eq-Decides status (codes " continue")).0 e))
  | inr e ↦ inr (ap length ((bytes_eq-Decides status (codes " continue\n")).0 e))
]

unless_short : (b x : Bool) → (if b then false else x) ≡ true → x ≡ true
unless_short true x h = cc
unless_short false x h = h

if_short : (b x : Bool) → x ≡ false → (if b then false else x) ≡ false
if_short true x h = refl
if_short false x h = h

continue_parts : (line : List ℕ) → is_continue line ≡ true
    → (starts_with nat_eq line (codes "ACK ") ≡ true) × (is_continue_status (drop 44 line) ≡ true)
continue_parts line h = and_parts _ _ (unless_short (nat_lt (length line) 44) _ h)

pub continue_length : (line : List ℕ) → is_continue line ≡ true → (length line ≡ 53) ⊎ (length line ≡ 54)
continue_length line h = elim (status_length (drop 44 line) (continue_parts line h).1) [
  | inl e ↦ inl (omega (arith, e, length-drop 44 line))
  | inr e ↦ inr (omega (arith, e, length-drop 44 line))
]

pub continue_long : (line : List ℕ) → is_continue line ≡ true → 53 ≤ length line
continue_long line h = elim (continue_length line h) [ inl e ↦ omega (arith, e) | inr e ↦ omega (arith, e) ]

-- a line by `multi_ack` begins with `ACK` and an id
front_is : (line : List ℕ) → is_continue line ≡ true → line ≡ codes "ACK " ++ drop 4 line
front_is line h =
    (starts_is Decides-eqb line (codes "ACK ") (starts_with nat_eq line (codes "ACK ")) refl).0 (continue_parts line h).0

-- the line that is passed on acknowledges the same id
common_id_of : (line tail : List ℕ) → line ≡ codes "ACK " ++ tail → 40 ≤ length tail
    → acknowledged_id (common_line (take 44 line)) ≡ acknowledged_id line
common_id_of line tail e long =
    let len : length (take 40 tail) ≡ 40 = length-take-le 40 tail long in
    rw e (ap Some (take_front 40 (take 40 tail) (codes " common\n") len))

detailed_id_by : (b : Bool) (line : List ℕ) → is_continue line ≡ b → acknowledged_id (detailed line) ≡ acknowledged_id line
detailed_id_by true line h = rw h (common_id_of line (drop 4 line) (front_is line h)
    (omega (arith, length-drop 4 line, continue_long line h)))
detailed_id_by false line h = rw h refl

pub ids_are_same : (frames : List Frame) → acknowledged_ids (detailed_frames frames) ≡ acknowledged_ids frames
ids_are_same [] = refl
ids_are_same (payload line ∷ fs) = ap (λ o. with_id o (acknowledged_ids (detailed_frames fs))) (detailed_id_by (is_continue line) line refl)
    ∙ ap (with_id (acknowledged_id line)) (ids_are_same fs)
ids_are_same (special kind ∷ fs) = ids_are_same fs

-- no line by `multi_ack` is passed on
detailed_by : (b : Bool) (line : List ℕ) → is_continue line ≡ b → is_continue (detailed line) ≡ false
detailed_by true line h =
    let len : length (take 44 line) ≡ 44 = length-take-le 44 line (omega (arith, continue_long line h)) in
    rw h (if_short (nat_lt (length (common_line (take 44 line))) 44) _
    (and_right (starts_with nat_eq (common_line (take 44 line)) (codes "ACK "))
    (is_continue_status (drop 44 (common_line (take 44 line))))
    (ap is_continue_status (drop_at (take 44 line) (codes " common\n") 44 len))))
detailed_by false line h = rw h h

pub are_detailed : (frames : List Frame) → AreDetailed (detailed_frames frames)
are_detailed [] = tt
are_detailed (payload line ∷ fs) = (detailed_by (is_continue line) line refl, are_detailed fs)
are_detailed (special kind ∷ fs) = are_detailed fs
