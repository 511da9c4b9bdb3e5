-- The rest of the updates has the same first unknown id.
use Rattle.std.proofs.Common.{◌≡◌, drop}
use Rattle.std.specs.BTreeSet.{contains}
use Rattle.gixp_hash.specs.ObjectId.{id_cmp}
use Rattle.gixp_client.specs.Unshallowed.{unknown_unshallow}
use Rattle.gixp_client.proofs.unshallow_check.unknown_unshallow.Given as goal

abbrev pub invariant-loop-update : goal.invariant-loop-update
invariant-loop-update l =
    unknown_unshallow (contains id_cmp l.boundary) (drop l.update-index l.updates)
    ≡ unknown_unshallow (contains id_cmp l.boundary) l.updates
