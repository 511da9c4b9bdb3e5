-- The ids of a text, one on each line (gitprotocol-common, "ABNF Notation", `obj-id`).
use Rattle.std.specs.Prelude.{ℕ, ◌≡◌, ◌⊎◌, List, [], ◌∷◌, map, codes, Option, Some, None, Vec, Result, Ok, Err}
use Rattle.std.specs.declared.alloc.Global.{Global}
use Rattle.gixp_hash.specs.declared.object_id.ObjectId.{ObjectId}
use Rattle.gixp_hash.specs.ObjectId.{id_of}
use Rattle.gixp_utils.specs.Lines.{text_lines}
use Rattle.gixp_planner.specs.declared.error.PlanError.{PlanError}
use Rattle.gixp_planner.specs.Refusal.{refusal, refusal_of, IsPlanMemory}

abbrev pub with_id : Option (List ℕ) → Option (List (List ℕ)) → Option (List (List ℕ))
with_id (Some id) (Some ids) = Some (id ∷ ids)
with_id _ _ = None

-- the ids of the lines, unless a line is no id
abbrev pub ids_of : List (List ℕ) → Option (List (List ℕ))
ids_of [] = Some []
ids_of (line ∷ lines) = with_id (id_of line) (ids_of lines)

abbrev pub bytes_of : List ObjectId → List (List ℕ)
bytes_of ids = map (λ (id : ObjectId). id.bytes) ids

-- these are the ids of the text; or a line is no id, or an allocation failed
abbrev pub ReadsHaves : List ℕ → Result (Vec ObjectId Global) PlanError → Type 0
ReadsHaves text (Ok ids) = ids_of (text_lines text) ≡ Some (bytes_of ids.items)
ReadsHaves text (Err e) = ((refusal_of e ≡ refusal (codes "have") (codes "Decode")) × (ids_of (text_lines text) ≡ None))
    ⊎ IsPlanMemory (codes "have") e
