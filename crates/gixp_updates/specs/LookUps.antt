-- The effect of look-ups on a graph.
use Rattle.std.specs.Prelude.{◌≡◌, ◌⊎◌, None, option_map}
use Rattle.std.specs.FinMap as finite
use Rattle.gixp_hash.specs.declared.object_id.ObjectId.{ObjectId}
use Rattle.gixp_graph.specs.Object.{commit_at}
use Rattle.gixp_graph.specs.GraphData.{GraphData, unmarked}

-- more commits are held, without marks; nothing else changes
pub record LooksUp (g h : GraphData) : Type 0 where
  pub objects : h.objects ≡ g.objects
  pub held : (id : ObjectId) → (finite.get h.held id ≡ finite.get g.held id)
      ⊎ ((finite.get g.held id ≡ None) × (finite.get h.held id ≡ option_map unmarked (commit_at g.objects id)))
