-- The tips of a negotiator that skips unreadable commits.
use Rattle.std.specs.Prelude.{◌≡◌, ◌⊎◌, List, [], ◌∷◌, ◌++◌}
use Rattle.gixp_hash.specs.declared.object_id.ObjectId.{ObjectId}

-- the tip is appended or skipped
abbrev pub MayAdd : List ObjectId → ObjectId → List ObjectId → Type 0
MayAdd tips id new = (new ≡ tips) ⊎ (new ≡ tips ++ id ∷ [])
