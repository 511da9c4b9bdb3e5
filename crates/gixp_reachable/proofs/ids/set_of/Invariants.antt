use Rattle.std.proofs.Common.{◌≡◌, length}
use Rattle.std.specs.Prelude.{◌||◌}
use Rattle.std.specs.BTreeSet.{contains}
use Rattle.gixp_hash.specs.ObjectId.{id_cmp}
use Rattle.gixp_hash.specs.declared.object_id.ObjectId.{ObjectId}
use Rattle.gixp_reachable.specs.Ids.{has_id}
use Rattle.gixp_reachable.proofs.ids.set_of.Given as goal

abbrev pub invariant-loop-id : goal.invariant-loop-id
invariant-loop-id l = (q : ObjectId) → (contains id_cmp l.set q || has_id l.rest q) ≡ has_id l.ids q

abbrev pub decreases-loop-id : goal.decreases-loop-id
decreases-loop-id l = length l.rest
