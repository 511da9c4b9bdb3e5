-- A traversal from tips to all that they reach: its steps, its invariant and its measure.
use Rattle.std.specs.Prelude.{◌≡◌, ◌⊎◌, ℕ, ◌+◌, ◌++◌, if◌then◌else◌, true, false, List, [], ◌∷◌, length, Contains, Option, Some, None, option_map}
use Rattle.std.specs.FinMap as finite
use Rattle.gixp_hash.specs.declared.object_id.ObjectId.{ObjectId}
use Rattle.gixp_graph.specs.Object.{Object, Objects, Commit, commit_at}
use Rattle.gixp_graph.specs.Asked.{AsksEach}
use Rattle.gixp_reachable.specs.Reachable.{IsReachable, as_stored}

-- the state of a traversal: the objects that were found, and the ids that wait
pub record Traversed : Type 0 where
  pub found : Objects
  pub waiting : List ObjectId

abbrev pub traversed : Objects → List ObjectId → Traversed
traversed found waiting = record { found = found; waiting = waiting }

abbrev pub parents_of : Option Commit → List ObjectId
parents_of (Some c) = c.parents
parents_of None = []

-- an object exists, and wasn't found before
abbrev pub IsUnfound : Objects → Objects → ObjectId → Type 0
IsUnfound objects found id = (finite.contains_key objects id ≡ true) × (finite.contains_key found id ≡ false)

-- an object was found before, or doesn't exist: nothing changes
pub record SkipsObject (objects : Objects) (id : ObjectId) (old new : Traversed) : Type 0 where
  pub done : (finite.contains_key objects id ≡ false) ⊎ (finite.contains_key old.found id ≡ true)
  pub found : new.found ≡ old.found
  pub waiting : new.waiting ≡ old.waiting

-- an object is found; the parents of a commit wait
pub record FindsObject (objects : Objects) (id : ObjectId) (old new : Traversed) : Type 0 where
  pub unfound : finite.contains_key old.found id ≡ false
  pub object : Object
  pub exists : finite.get objects id ≡ Some object
  pub found : new.found ≡ finite.insert old.found id (as_stored object)
  pub waiting : new.waiting ≡ old.waiting ++ parents_of object.commit

abbrev pub VisitsObject : Objects → ObjectId → Traversed → Traversed → Type 0
VisitsObject objects id old new = SkipsObject objects id old new ⊎ FindsObject objects id old new

-- if the object exists, it was found or waits
abbrev pub IsAttended : Objects → Traversed → ObjectId → Type 0
IsAttended objects s id = finite.contains_key objects id ≡ true → (finite.contains_key s.found id ≡ true) ⊎ Contains s.waiting id

-- what was found is reachable and equals the objects, and what is reachable was found or follows from an id that waits
pub record IsTraversal (objects : Objects) (tips : List ObjectId) (s : Traversed) : Type 0 where
  pub reached : (id : ObjectId) → finite.contains_key s.found id ≡ true → IsReachable objects tips id
  pub values : (id : ObjectId) → finite.contains_key s.found id ≡ true
      → finite.get s.found id ≡ option_map as_stored (finite.get objects id)
  pub waits : (id : ObjectId) → Contains s.waiting id → finite.contains_key objects id ≡ true → IsReachable objects tips id
  pub begun : (id : ObjectId) → Contains tips id → IsAttended objects s id
  pub closed : (child id : ObjectId) (c : Commit) → finite.contains_key s.found child ≡ true → commit_at objects child ≡ Some c
      → Contains c.parents id → IsAttended objects s id

-- the objects were asked for ids that were found, each once
abbrev pub HasAskedFound : Traversed → List ObjectId → List ObjectId → Type 0
HasAskedFound s start asked = AsksEach (λ q. finite.contains_key s.found q ≡ true) start asked

-- how many parents the commits have that weren't found
abbrev pub parents_left : Objects → Objects → List ObjectId → ℕ
parents_left objects found [] = 0
parents_left objects found (id ∷ ids) =
    (if finite.contains_key found id then 0 else length (parents_of (commit_at objects id))) + parents_left objects found ids

-- how many ids are looked up from now on, at most
abbrev pub look_ups_left : Objects → Traversed → ℕ
look_ups_left objects s = length s.waiting + parents_left objects s.found (finite.keys objects)
