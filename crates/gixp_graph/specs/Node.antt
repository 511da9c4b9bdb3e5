-- Commits as numbered nodes.
use Rattle.std.specs.Prelude.{ℕ, ◌-◌, ◌≤◌, List, Option, Some, None, map, take, drop, length, if◌then◌else◌, All, [], pos, false}
use Rattle.std.specs.List.{filter_map}
use Rattle.std.specs.FinMap as finite
use Rattle.gixp_hash.specs.declared.object_id.ObjectId.{ObjectId}
use Rattle.gixp_graph.specs.declared.commits.Node.{Node}
use Rattle.gixp_graph.specs.declared.numbers.Numbers.{Numbers}
use Rattle.gixp_graph.specs.GraphData.{HeldCommit, Commits}
use Rattle.gixp_graph.specs.Slots.{IsNumbered}
use Rattle.gixp_graph.specs.Table.{ids_at, AllNamed}
use Rattle.gixp_graph.specs.Visited.{IsOneToOne}

-- the ids of the nodes, by number
abbrev pub ids_of : List Node → List ObjectId
ids_of nodes = map (λ (x : Node). x.id) nodes

-- a node's range lies within the parents
abbrev pub IsInRange : List ℕ → Node → Type 0
IsInRange parents x = (x.first ≤ x.end) × (x.end ≤ length parents)

-- the numbers in a node's range
abbrev pub range_of : List ℕ → Node → List ℕ
range_of parents x = take (x.end - x.first) (drop x.first parents)

-- the numbers of a node's parents, none where it wasn't found
abbrev pub parent_numbers_of : List ℕ → Node → List ℕ
parent_numbers_of parents x = if x.is_found then range_of parents x else []

-- the ids in a node's range
abbrev pub parents_of : List ObjectId → List ℕ → Node → List ObjectId
parents_of ids parents x = ids_at ids (range_of parents x)

-- the commit of a node
abbrev pub held_of : List ObjectId → List ℕ → Node → HeldCommit
held_of ids parents x = record { time = x.time; parents = parents_of ids parents x; flags = x.flags }

-- the commit of a node with its id, where it was found
abbrev pub entry_of : List ObjectId → List ℕ → Node → Option (ObjectId × HeldCommit)
entry_of ids parents x = if x.is_found then Some (x.id, held_of ids parents x) else None

-- the commits held
abbrev pub held_in : List Node → List ℕ → Commits
held_in nodes parents = finite.from_entries (filter_map (entry_of (ids_of nodes) parents) nodes)

-- each node's number is found by its id, no id has two, each parent number names a node, and each range lies within the parents
pub record IsTable (nodes : List Node) (numbers : Numbers) (parents : List ℕ) : Type 0 where
  pub numbering : IsNumbered (ids_of nodes) numbers
  pub once : IsOneToOne (ids_of nodes)
  pub names : AllNamed (ids_of nodes) parents
  pub ranged : All (IsInRange parents) nodes

-- the node of an id that wasn't looked up
abbrev pub blank : ObjectId → Node
blank id = record { id = id; time = pos 0; flags = record { 0 = 0 }; is_found = false; first = 0; end = 0 }
