-- What the calls of a negotiator do, and which errors they return.
use Rattle.std.specs.Prelude.{◌≡◌, ⊤, ℕ, ◌⊎◌}
use Rattle.gixp_graph.specs.declared.objects.ObjectError.{ObjectError}
use Rattle.gixp_graph.specs.declared.objects.ObjectError.TheVariants as object
use Rattle.gixp_graph.specs.declared.negotiator.NegotiatorError.{NegotiatorError}
use Rattle.gixp_graph.specs.declared.negotiator.NegotiatorError.TheVariants.{Lookup, Memory}
use Rattle.gixp_hash.specs.Failures.{HasRisen}
use Rattle.gixp_graph.specs.GraphData.{GraphData}
use Rattle.gixp_graph.specs.Refusals.{Written, ErrorIsRefusal}
use Rattle.gixp_graph.specs.Run.{Call, Offer, RefusedCall, RefusedOffer}

-- what the calls of a negotiator do, what failed calls leave, how many haves it may still offer, and how many calls
-- have failed so far
pub record NegotiatorCalls (N : Type 0) : Type 1 where
  -- the haves that it may still offer, over this graph
  pub count : N → GraphData → ℕ
  pub failures : N → ℕ
  -- of `known_common`
  pub knows : Call N
  -- of `add_tip`
  pub adds : Call N
  -- of `in_common_with_remote`
  pub learns : Call N
  -- of `next_have`
  pub offers : Offer N
  pub knowing_fails : RefusedCall N
  pub adding_fails : RefusedCall N
  pub learning_fails : RefusedCall N
  pub offering_fails : RefusedOffer N

-- an allocation failed, in the negotiator or in a call of the graph
abbrev pub IsMemory : NegotiatorError → Type 0
IsMemory (Lookup e) = e ≡ object.Memory
IsMemory Memory = ⊤

-- why a call failed: an allocation failed, or the negotiator or the graph's objects counted a failure
abbrev pub IsRefusal : ℕ → ℕ → ℕ → ℕ → NegotiatorError → Type 0
IsRefusal old new graph_old graph_new e = IsMemory e ⊎ (HasRisen old new ⊎ HasRisen graph_old graph_new)

-- why: a call of the graph's objects failed with this error, and recorded it; or an allocation failed, and none of
-- their calls did
abbrev pub ErrorIsLookupRefusal : NegotiatorError → Written ObjectError → Written ObjectError → Type 0
ErrorIsLookupRefusal (Lookup e) old new = ErrorIsRefusal e old new
ErrorIsLookupRefusal Memory old new = new ≡ old

-- why, unless the negotiator itself failed
abbrev pub ErrorHasCause : ℕ → ℕ → NegotiatorError → Written ObjectError → Written ObjectError → Type 0
ErrorHasCause old new e old_refusals new_refusals = HasRisen old new ⊎ ErrorIsLookupRefusal e old_refusals new_refusals
