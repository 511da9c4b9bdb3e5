use Rattle.std.proofs.Common.{◌≡◌, ◌||◌, ℕ, List, length}
use Rattle.gixp_client.specs.Changes.{is_mapped, has_key}
use Rattle.gixp_client.proofs.changes.mapped_names.Given as goal

abbrev pub invariant-loop-mapping : goal.invariant-loop-mapping
invariant-loop-mapping l = (name : List ℕ) → (has_key l.names name || is_mapped l.rest name) ≡ is_mapped l.mappings name

abbrev pub decreases-loop-mapping : goal.decreases-loop-mapping
decreases-loop-mapping l = length l.rest
