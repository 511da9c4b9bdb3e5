-- Queued commits that weren't read before.
use Rattle.std.specs.Prelude.{◌≡◌, ◌⊎◌, true, false, None, IsSome}
use Rattle.std.specs.BTreeSet.{BTreeSet, contains}
use Rattle.std.specs.FinMap as finite
use Rattle.gixp_hash.specs.declared.object_id.ObjectId.{ObjectId}
use Rattle.gixp_hash.specs.ObjectId.{id_cmp}
use Rattle.gixp_graph.specs.Object.{commit_at}
use Rattle.gixp_graph.specs.GraphData.{GraphData}
use Rattle.gixp_negotiators.specs.Marks.{POPPED, has_mark}

-- the commits that weren't read before they were queued: a step keeps those that aren't taken, and adds only commits
-- that the graph didn't hold
pub record KeepsUnread (us : BTreeSet ObjectId) (g : GraphData) (vs : BTreeSet ObjectId) (h : GraphData) : Type 0 where
  pub stays : (id : ObjectId) → contains id_cmp us id ≡ true → has_mark POPPED h.held id ≡ false → contains id_cmp vs id ≡ true
  pub only : (id : ObjectId) → contains id_cmp vs id ≡ true → (contains id_cmp us id ≡ true) ⊎ (finite.get g.held id ≡ None)
  pub taken : (id : ObjectId) → contains id_cmp vs id ≡ true → has_mark POPPED g.held id ≡ false → has_mark POPPED h.held id ≡ false

-- a commit of the objects that the graph doesn't hold is added to them
abbrev pub IsUnreadIfNew : GraphData → ObjectId → BTreeSet ObjectId → Type 0
IsUnreadIfNew g id vs = IsSome (commit_at g.objects id) → finite.get g.held id ≡ None → contains id_cmp vs id ≡ true
