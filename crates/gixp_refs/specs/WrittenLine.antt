-- The line of a ref, as git writes it (gitprotocol-v2, "ls-refs").
use Rattle.std.specs.Prelude.{◌≡◌, ℕ, ◌==◌, ◌&&◌, ◌||◌, nat_le, Bool, List, [], ◌∷◌, ◌++◌, flat_map, length, codes, Some, None, Ok}
use Rattle.std.specs.List.{list_all}
use Rattle.gixp_hash.specs.Hex.{encode_lower}
use Rattle.gixp_refs.specs.Ref.{RefValue, peeled, direct, symbolic, unborn}
use Rattle.gixp_refs.specs.RefLine.{v2_line}

abbrev in_a_row : List (List ℕ) → List ℕ
in_a_row texts = flat_map (λ (text : List ℕ). text) texts

-- the line of a ref, with its LF
abbrev pub written_line : RefValue → List ℕ
written_line (direct name object) = in_a_row (encode_lower object ∷ codes " " ∷ name ∷ codes "\n" ∷ [])
written_line (peeled name tag object) =
    in_a_row (encode_lower tag ∷ codes " " ∷ name ∷ codes " peeled:" ∷ encode_lower object ∷ codes "\n" ∷ [])
written_line (symbolic name target None object) =
    in_a_row (encode_lower object ∷ codes " " ∷ name ∷ codes " symref-target:" ∷ target ∷ codes "\n" ∷ [])
written_line (symbolic name target (Some tag) object) =
    in_a_row (encode_lower tag ∷ codes " " ∷ name ∷ codes " symref-target:" ∷ target ∷ codes " peeled:" ∷ encode_lower object
    ∷ codes "\n" ∷ [])
written_line (unborn name target) = in_a_row (codes "unborn " ∷ name ∷ codes " symref-target:" ∷ target ∷ codes "\n" ∷ [])

-- the line has a ref, and git writes that ref as this text and an LF
abbrev pub IsWrittenLine : List ℕ → List ℕ → Type 0
IsWrittenLine line text = (v : RefValue) × (v2_line line ≡ Ok v) × (written_line v ≡ text ++ codes "\n")

abbrev pub is_lower : ℕ → Bool
is_lower digit = nat_le 48 digit && nat_le digit 57 || nat_le 97 digit && nat_le digit 102

-- whether a text is an id as git writes it
abbrev pub is_written_id : List ℕ → Bool
is_written_id text = length text == 40 && list_all is_lower text
