-- The objects of a repository without those, of some ids in doubt, that its refs don't reach (gitglossary, "reachable").
use Rattle.std.specs.Prelude.{◌≡◌, ◌↔◌, ℤ, Bool, not, if◌then◌else◌, List, [], ◌∷◌, Option, Some, None, IsTrue}
use Rattle.std.specs.Int.Signed.{lt_z}
use Rattle.std.specs.FinMap as finite
use Rattle.gixp_hash.specs.declared.object_id.ObjectId.{ObjectId}
use Rattle.gixp_graph.specs.Object.{Objects, commit_at, time_at}
use Rattle.gixp_graph.specs.Complete.{IsComplete}
use Rattle.gixp_reachable.specs.Ids.{has_id}

-- the earlier of two times
abbrev pub earlier : Option ℤ → Option ℤ → Option ℤ
earlier had None = had
earlier None (Some t) = Some t
earlier (Some c) (Some t) = Some (if lt_z t c then t else c)

-- the time of the oldest commit among these ids; none if no commit is among them
abbrev pub oldest_from : Objects → Option ℤ → List ObjectId → Option ℤ
oldest_from objects had [] = had
oldest_from objects had (id ∷ ids) = oldest_from objects (earlier had (time_at objects id)) ids

abbrev pub oldest_of : Objects → List ObjectId → Option ℤ
oldest_of objects ids = oldest_from objects None ids

-- an id in doubt is hidden, unless it names a commit that the tips reach through commits that aren't older than the oldest one in doubt
abbrev pub HidesUnreached : Objects → (tips doubted : List ObjectId) → (ObjectId → Bool) → Type 0
HidesUnreached objects tips doubted hidden = (id : ObjectId) → IsTrue (hidden id)
    ↔ (IsTrue (has_id doubted id) × (IsComplete (commit_at objects) tips (oldest_of objects doubted) id → ⊥))

-- the objects without those that are hidden
abbrev pub without : Objects → (ObjectId → Bool) → Objects
without objects hidden = finite.retain_keys objects (λ id. not (hidden id))

abbrev pub ShowsReached : Objects → (tips doubted : List ObjectId) → Objects → Type 0
ShowsReached objects tips doubted reached = (hidden : ObjectId → Bool) × HidesUnreached objects tips doubted hidden
    × (reached ≡ without objects hidden)
