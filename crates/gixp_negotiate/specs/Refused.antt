-- Calls on a negotiator until one failed: those before it were made, and no other.
use Rattle.std.specs.Prelude.{◌≡◌, List, ◌∷◌, ◌++◌}
use Rattle.gixp_hash.specs.declared.object_id.ObjectId.{ObjectId}
use Rattle.gixp_graph.specs.GraphData.{GraphData}
use Rattle.gixp_graph.specs.Run.{Call, RefusedCall, IsRun}
use Rattle.gixp_graph.specs.declared.negotiator.NegotiatorError.{NegotiatorError}

-- a first part of these calls were made, and the next failed with this error; the negotiator defines what the failed
-- call leaves, and nothing was done after it
pub record CallsSome {N : Type 0} (call : Call N) (refuses : RefusedCall N) (ids : List ObjectId) (n : N) (g : GraphData)
    (x : NegotiatorError) (m : N) (h : GraphData) : Type 0 where
  pub made : List ObjectId
  pub refused : ObjectId
  pub left : List ObjectId
  pub split : ids ≡ made ++ refused ∷ left
  pub reported : N
  pub reported_graph : GraphData
  pub run : IsRun call made n g reported reported_graph
  pub fails : refuses reported reported_graph refused x m h
