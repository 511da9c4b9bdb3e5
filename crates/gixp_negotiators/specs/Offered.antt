-- The commit that a negotiator offers as a have (gitprotocol-pack, "Packfile Negotiation").
use Rattle.std.specs.Prelude.{◌≡◌, ◌⊎◌, ◌+◌, ◌≤◌, true, false, All, Option, Some, None, IsSome}
use Rattle.std.specs.FinMap as finite
use Rattle.gixp_hash.specs.declared.object_id.ObjectId.{ObjectId}
use Rattle.gixp_graph.specs.Object.{commit_at}
use Rattle.gixp_graph.specs.GraphData.{GraphData, parents_in}
use Rattle.gixp_negotiators.specs.Marks.{COMMON, COMMON_REF, SEEN, POPPED, has_mark, left}
use Rattle.gixp_negotiators.specs.CommitMarks.{IsMarkedIfThere}

-- a commit is offered: the objects have it, it wasn't common, and was never offered before. It is held, and won't be
-- offered again. It isn't common then either, unless it is a ref of the server: marking its parents' ancestors may lead
-- back to it. Those of its parents that the objects have were seen
pub record IsOffered (g h : GraphData) (id : ObjectId) : Type 0 where
  pub read : IsSome (commit_at g.objects id)
  pub held : IsSome (finite.get h.held id)
  pub uncommon : has_mark COMMON g.held id ≡ false
  pub before : has_mark POPPED g.held id ≡ false
  pub after : has_mark POPPED h.held id ≡ true
  pub stays : has_mark COMMON_REF h.held id ≡ false → has_mark COMMON h.held id ≡ false
  pub less : left POPPED h + 1 ≤ left POPPED g
  pub parents : All (IsMarkedIfThere SEEN g h) (parents_in h.held id)

-- an offer of a commit, or no offer
abbrev pub Offers : GraphData → Option ObjectId → GraphData → Type 0
Offers g None h = Unit {0}
Offers g (Some id) h = IsOffered g h id

-- each commit that is taken from the queue is common, or it is the one that is offered
abbrev pub TakesCommon : GraphData → Option ObjectId → GraphData → Type 0
TakesCommon g have h = (id : ObjectId) → has_mark POPPED g.held id ≡ false → has_mark POPPED h.held id ≡ true
    → (has_mark COMMON h.held id ≡ true) ⊎ (have ≡ Some id)
