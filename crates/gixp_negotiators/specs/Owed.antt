-- Commits that became common and whose parents are to be marked (due).
use Rattle.std.specs.Prelude.{◌≡◌, ℕ, ◌+◌, true, List, if◌then◌else◌}
use Rattle.std.specs.List.{sum_by}
use Rattle.gixp_hash.specs.declared.object_id.ObjectId.{ObjectId}
use Rattle.gixp_graph.specs.GraphData.{Commits, GraphData}
use Rattle.gixp_negotiators.specs.declared.queue.Waiting.{Waiting}
use Rattle.gixp_negotiators.specs.Marks.{COMMON, SEEN, POPPED, has_mark}
use Rattle.gixp_negotiators.specs.Queued.{waits_of, queued_one, open_in}

-- how many of these weren't taken
unfoldable pub owed_by : Commits → List ObjectId → ℕ
owed_by m due = sum_by (λ id. if has_mark POPPED m id then 0 else 1) due

-- the invariant, where due commits that are queued are still counted
pub record FitsOwing (lost uncommon : ℕ) (ws : List Waiting) (g : GraphData) (due : List ObjectId) : Type 0 where
  pub waiting : (id : ObjectId) → waits_of ws id ≡ queued_one g.held id
  pub taken : (id : ObjectId) → has_mark POPPED g.held id ≡ true → has_mark SEEN g.held id ≡ true
  pub seen : (id : ObjectId) → has_mark COMMON g.held id ≡ true → has_mark SEEN g.held id ≡ true
  pub counted : open_in g.held ws + owed_by g.held due + lost ≡ uncommon
