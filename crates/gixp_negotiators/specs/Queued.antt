-- Which commits are queued, and how many of them are counted (gitprotocol-pack, "Packfile Negotiation").
use Rattle.std.specs.Prelude.{◌≡◌, ℕ, ◌+◌, ◌&&◌, not, true, false, List, Option, None, if◌then◌else◌}
use Rattle.std.specs.List.{sum_by}
use Rattle.std.specs.Ordering.{eq_by_cmp}
use Rattle.gixp_hash.specs.declared.object_id.ObjectId.{ObjectId}
use Rattle.gixp_hash.specs.ObjectId.{id_cmp}
use Rattle.gixp_graph.specs.GraphData.{Commits, GraphData}
use Rattle.gixp_negotiators.specs.declared.queue.Waiting.{Waiting}
use Rattle.gixp_negotiators.specs.Marks.{COMMON, SEEN, POPPED, has_mark}

-- how often a commit is queued
unfoldable pub waits_of : List Waiting → ObjectId → ℕ
waits_of ws id = sum_by (λ (w : Waiting). if eq_by_cmp id_cmp id w.id then 1 else 0) ws

-- how often it has to be queued: once, where it was seen and not taken
abbrev pub queued_one : Commits → ObjectId → ℕ
queued_one m id = if has_mark SEEN m id && not (has_mark POPPED m id) then 1 else 0

-- 1 for a commit that isn't common, else 0
abbrev pub open_one : Commits → ObjectId → ℕ
open_one m id = if has_mark COMMON m id then 0 else 1

-- how many queued commits aren't common
unfoldable pub open_in : Commits → List Waiting → ℕ
open_in m ws = sum_by (λ (w : Waiting). open_one m w.id) ws

-- the invariant of a negotiator's queue and count, with the graph of its negotiation: exactly the commits that were
-- seen and not taken are queued, each once; those that aren't common are counted, with so many that are (`lost`)
pub record Fits (lost uncommon : ℕ) (ws : List Waiting) (g : GraphData) : Type 0 where
  pub waiting : (id : ObjectId) → waits_of ws id ≡ queued_one g.held id
  pub taken : (id : ObjectId) → has_mark POPPED g.held id ≡ true → has_mark SEEN g.held id ≡ true
  pub counted : open_in g.held ws + lost ≡ uncommon

-- the same, and each common commit was seen
pub record FitsSeen (lost uncommon : ℕ) (ws : List Waiting) (g : GraphData) : Type 0 where
  pub fits : Fits lost uncommon ws g
  pub seen : (id : ObjectId) → has_mark COMMON g.held id ≡ true → has_mark SEEN g.held id ≡ true

-- a step keeps this invariant. It may count more common commits, but not where the condition holds
abbrev pub KeepsCount : Type 0 → ℕ → List Waiting → GraphData → ℕ → List Waiting → GraphData → Type 0
KeepsCount Read u ws g v xs h = (lost : ℕ) → FitsSeen lost u ws g → (more : ℕ) × ((Read → more ≡ 0) × FitsSeen (lost + more) v xs h)

-- each commit that was seen and not taken is common
abbrev pub AllCommon : GraphData → Type 0
AllCommon g = (id : ObjectId) → has_mark SEEN g.held id ≡ true → has_mark POPPED g.held id ≡ false → has_mark COMMON g.held id ≡ true

-- where the count is exact and all queued commits are common, nothing is offered, and negotiator and graph stay the same
abbrev pub EndsAtOnce : {N : Type 0} → ℕ → List Waiting → N → GraphData → Option ObjectId → N → GraphData → Type 0
EndsAtOnce u ws n g have m h = Fits 0 u ws g → AllCommon g → (have ≡ None) × (m ≡ n) × (h ≡ g)

-- where all queued commits are common, nothing is offered, even if the count is too high
abbrev pub OffersNone : ℕ → List Waiting → GraphData → Option ObjectId → Type 0
OffersNone u ws g have = (lost : ℕ) → FitsSeen lost u ws g → AllCommon g → have ≡ None
