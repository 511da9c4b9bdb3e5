-- The marks of one commit before and after a step.
use Rattle.std.specs.Prelude.{◌≡◌, ◌+◌, ◌≤◌, ℕ, true, false, IsSome}
use Rattle.std.specs.FinMap as finite
use Rattle.gixp_hash.specs.declared.object_id.ObjectId.{ObjectId}
use Rattle.gixp_graph.specs.declared.flags.Flags.{Flags}
use Rattle.gixp_graph.specs.Object.{commit_at}
use Rattle.gixp_graph.specs.GraphData.{GraphData}
use Rattle.gixp_negotiators.specs.Marks.{COMMON_REF, SEEN, has_all, has_mark, left}

-- the objects have a commit, it is held, and it has these marks
pub record IsFoundWith (g : GraphData) (id : ObjectId) (flags : Flags) : Type 0 where
  pub read : IsSome (commit_at g.objects id)
  pub held : IsSome (finite.get g.held id)
  pub marks : (marks : ℕ) → has_mark marks g.held id ≡ has_all marks flags.0

-- a commit of the objects newly gets a mark; before, it had these marks
pub record Claims (mark : ℕ) (g h : GraphData) (id : ObjectId) (flags : Flags) : Type 0 where
  pub read : IsSome (commit_at g.objects id)
  pub held : IsSome (finite.get h.held id)
  pub before : has_mark mark g.held id ≡ false
  pub after : has_mark mark h.held id ≡ true
  pub less : left mark h + 1 ≤ left mark g
  pub lacks : (marks : ℕ) → has_all marks flags.0 ≡ false → has_mark marks g.held id ≡ false
  pub had : (marks : ℕ) → has_all marks flags.0 ≡ true → has_mark marks h.held id ≡ true
  pub was : (marks : ℕ) → has_all marks 0 ≡ false → has_all marks flags.0 ≡ true → has_mark marks g.held id ≡ true

-- a commit that was seen has a mark
abbrev pub IsMarkedIfSeen : ℕ → GraphData → ObjectId → Type 0
IsMarkedIfSeen mark g id = has_mark SEEN g.held id ≡ true → has_mark mark g.held id ≡ true

-- a commit of the objects that wasn't seen has these marks now
abbrev pub IsMarkedIfNew : ℕ → GraphData → GraphData → ObjectId → Type 0
IsMarkedIfNew marks g h id = IsSome (commit_at g.objects id) → has_mark SEEN g.held id ≡ false → has_mark marks h.held id ≡ true

-- a commit of the objects has a mark
abbrev pub IsMarkedIfThere : ℕ → GraphData → GraphData → ObjectId → Type 0
IsMarkedIfThere marks g h id = IsSome (commit_at g.objects id) → has_mark marks h.held id ≡ true

-- a commit that wasn't seen is now marked as a ref of the server
abbrev pub IsListedIfNew : GraphData → GraphData → ObjectId → Type 0
IsListedIfNew g h id = IsMarkedIfNew COMMON_REF g h id

-- where a commit was seen before, nothing changes
abbrev pub StaysIfSeen : {N : Type 0} → N → GraphData → ObjectId → N → GraphData → Type 0
StaysIfSeen n g id m h = has_mark SEEN g.held id ≡ true → (m ≡ n) × (h ≡ g)
