-- Which ids a call reads, by the list of the ids that the objects were asked for, before and after it.
use Rattle.std.specs.Prelude.{◌≡◌, ◌⊎◌, List, [], ◌∷◌, ◌++◌, All}
use Rattle.std.specs.List.{IsDistinct}
use Rattle.std.specs.Ordering.{eq_by_cmp}
use Rattle.gixp_hash.specs.declared.object_id.ObjectId.{ObjectId}
use Rattle.gixp_hash.specs.ObjectId.{id_cmp}

-- the call reads at most this id, at most once
abbrev pub AsksOnce : ObjectId → List ObjectId → List ObjectId → Type 0
AsksOnce id old new = (new ≡ old) ⊎ (new ≡ old ++ id ∷ [])

-- the call reads at most this id, at most once, and only where a condition holds
abbrev pub AsksWhere : Type 0 → ObjectId → List ObjectId → List ObjectId → Type 0
AsksWhere Holds id old new = (new ≡ old) ⊎ (Holds × (new ≡ old ++ id ∷ []))

-- the call reads some ids, none of them twice, each with a property
pub record AsksEach (Has : ObjectId → Type 0) (old new : List ObjectId) : Type 0 where
  pub ids : List ObjectId
  pub appended : new ≡ old ++ ids
  pub distinct : IsDistinct (eq_by_cmp id_cmp) ids
  pub each : All Has ids
