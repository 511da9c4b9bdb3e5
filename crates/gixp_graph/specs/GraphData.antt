-- A graph as plain data.
use Rattle.std.specs.Prelude.{if◌then◌else◌, ◌⊎◌, ◌≡◌, ◌==◌, ℕ, ℤ, List, Bool, false, Option, Some, None, option_map, unwrap_or, [], bit_and, bit_or, refl}
use Rattle.std.specs.Option.{option_map_or, option_or}
use Rattle.std.specs.FinMap as finite
use Rattle.std.specs.FinMap.{FinMap}
use Rattle.std.specs.Coded.{Coded, code_by, coded×, coded_ℕ, coded_list, coded_ℤ}
use Rattle.gixp_hash.specs.declared.object_id.ObjectId.{ObjectId}
use Rattle.gixp_graph.specs.declared.flags.Flags.{Flags}
use Rattle.gixp_hash.specs.ObjectId.{id_cmp, coded_id}
use Rattle.gixp_graph.specs.Object.{Objects, Commit, commit_at, coded_object}
use Rattle.gixp_graph.specs.Refusals.{Written, coded_refusals}
use Rattle.gixp_graph.specs.declared.objects.ObjectError.{ObjectError}

-- a commit that a graph holds
pub record HeldCommit : Type 0 where
  pub time : ℤ
  pub parents : List ObjectId
  pub flags : Flags

abbrev pub coded_held : Coded HeldCommit
coded_held = code_by (ℤ × (List ObjectId × ℕ)) (coded× coded_ℤ (coded× (coded_list coded_id) coded_ℕ))
    (λ h. (h.time, (h.parents, h.flags.0))) (λ p. record { time = p.0; parents = p.1.0; flags = record { 0 = p.1.1 } }) (λ _. refl)

-- the commits that a graph holds, by their ids
abbrev pub Commits : Type 0
Commits = FinMap id_cmp HeldCommit

-- a graph: what its objects mean, and the commits held
pub record GraphData : Type 0 where
  pub objects : Objects
  pub held : Commits

-- a graph in contracts: its objects and commits, how many calls of its objects have failed, the ids that they were
-- asked for, and the errors of their failed calls
pub record GraphValue : Type 0 where
  pub graph : GraphData
  pub failures : ℕ
  pub asked : List ObjectId
  pub refusals : Written ObjectError

abbrev pub coded_graph : Coded GraphValue
coded_graph =
    code_by (Objects × (Commits × (ℕ × (List ObjectId × Written ObjectError)))) (coded× (finite.code coded_id coded_object)
    (coded× (finite.code coded_id coded_held) (coded× coded_ℕ (coded× (coded_list coded_id) coded_refusals))))
    (λ g. (g.graph.objects, (g.graph.held, (g.failures, (g.asked, g.refusals))))) (λ p. record {
      graph =
          record { objects = p.0; held = p.1.0 };
      failures = p.1.1.0;
      asked = p.1.1.1.0;
      refusals = p.1.1.1.1;
    }) (λ _. refl)

-- the graph with these objects and held commits
abbrev pub graph_of : Objects → Commits → GraphData
graph_of objects held = record { objects = objects; held = held }

-- a commit that was read, without marks
abbrev pub unmarked : Commit → HeldCommit
unmarked c = record { time = c.time; parents = c.parents; flags = record { 0 = 0 } }

-- what a caller sees of a commit: its time and its marks
abbrev pub shown : HeldCommit → ℤ × Flags
shown h = (h.time, h.flags)

-- the time, where a commit is shown
abbrev pub shown_time : Option (ℤ × Flags) → Option ℤ
shown_time found = option_map (λ (x : ℤ × Flags). x.0) found

-- a held commit without its marks
abbrev pub as_read : HeldCommit → Commit
as_read h = record { time = h.time; parents = h.parents }

-- the commit with these marks added
abbrev pub with_flags : Flags → HeldCommit → HeldCommit
with_flags flags h = record h { flags = record { 0 = bit_or h.flags.0 flags.0 } }

-- the commit with this id: the held one, else the one that the objects have
abbrev pub found_in : GraphData → ObjectId → Option HeldCommit
found_in g id = option_or (finite.get g.held id) (option_map unmarked (commit_at g.objects id))

-- that commit without its marks
abbrev pub commit_in : GraphData → ObjectId → Option Commit
commit_in g id = option_map as_read (found_in g id)

-- the commits with this one inserted, where there is one
abbrev pub put : Commits → ObjectId → Option HeldCommit → Commits
put m id None = m
put m id (Some h) = finite.insert m id h

-- the held commits after a look-up: the commit with this id is held, where it is found
abbrev pub looked_up : GraphData → ObjectId → Commits
looked_up g id = put g.held id (found_in g id)

-- the held commits with marks added to one of them, where it is held
abbrev pub flagged : Commits → ObjectId → Flags → Commits
flagged m id flags = put m id (option_map (with_flags flags) (finite.get m id))

-- whether a commit has the mark COMPLETE
abbrev pub is_complete : HeldCommit → Bool
is_complete h = bit_and h.flags.0 1 == 1

-- whether a commit is held with the mark COMPLETE
abbrev pub is_marked : Commits → ObjectId → Bool
is_marked m id = option_map_or is_complete (finite.get m id) false

-- the commit with the mark COMPLETE added
abbrev pub completed : HeldCommit → HeldCommit
completed h = with_flags (record { 0 = 1 }) h

-- each held commit is equal to the commit that the objects have
abbrev pub IsFaithful : GraphData → Type 0
IsFaithful g = (id : ObjectId) (h : HeldCommit) → finite.get g.held id ≡ Some h → commit_at g.objects id ≡ Some (as_read h)

-- the parents of a commit; empty where it isn't held
abbrev pub parents_in : Commits → ObjectId → List ObjectId
parents_in m id = unwrap_or (option_map (λ (h : HeldCommit). h.parents) (finite.get m id)) []

-- no commit has the mark COMPLETE
abbrev pub HasNoMarks : Commits → Type 0
HasNoMarks m = (id : ObjectId) → is_marked m id ≡ false

-- the commit, unless it has the mark COMPLETE
abbrev pub if_unmarked : Option HeldCommit → Option HeldCommit
if_unmarked None = None
if_unmarked (Some h) = if is_complete h then None else Some h

-- the commit with this id, where it is found and isn't marked yet
abbrev pub new_in : GraphData → ObjectId → Option HeldCommit
new_in g id = if_unmarked (found_in g id)

-- the held commits after an id was marked: its commit is held and marked, where it is found
abbrev pub marked_found : GraphData → ObjectId → Commits
marked_found g id = put g.held id (option_map completed (new_in g id))

-- each commit is held as before, or was found without the mark COMPLETE and is now held with it
abbrev pub OnlyMarks : GraphData → Commits → Type 0
OnlyMarks g new = (id : ObjectId) → (finite.get new id ≡ finite.get g.held id)
    ⊎ ((h : HeldCommit) × (new_in g id ≡ Some h) × (finite.get new id ≡ Some (completed h)))
