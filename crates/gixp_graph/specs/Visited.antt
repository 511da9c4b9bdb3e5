-- The nodes that a walk has visited.
use Rattle.std.specs.Prelude.{◌≡◌, ℕ, ◌<◌, Bool, true, false, ◌||◌, ◌&&◌, List, [], ◌∷◌, length, slice_index_or}
use Rattle.std.specs.Ordering.{eq_by_cmp}
use Rattle.gixp_hash.specs.declared.object_id.ObjectId.{ObjectId}
use Rattle.gixp_hash.specs.ObjectId.{id_cmp}
use Rattle.gixp_graph.specs.Table.{id_at}

-- whether a number is in a set that has a bit for each
abbrev pub has : List Bool → ℕ → Bool
has bits n = slice_index_or bits n false

-- whether the set has the number of an id
abbrev pub is_visited : List ObjectId → List Bool → ObjectId → Bool
is_visited [] bits q = false
is_visited (id ∷ ids) [] q = false
is_visited (id ∷ ids) (b ∷ bits) q = (b && eq_by_cmp id_cmp q id) || is_visited ids bits q

-- each number in the set names an id
abbrev pub AllVisitedNamed : List ObjectId → List Bool → Type 0
AllVisitedNamed ids bits = (n : ℕ) → has bits n ≡ true → n < length ids

-- no id has two numbers
abbrev pub IsOneToOne : List ObjectId → Type 0
IsOneToOne ids = (m n : ℕ) → m < length ids → n < length ids → id_at ids m ≡ id_at ids n → m ≡ n
