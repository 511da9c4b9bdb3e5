-- A borrowed boundary.
use Rattle.std.proofs.Common.{◌≡◌, List, subst}
use Rattle.gix_protocol.specs.ObjectIdType.{ObjectId}
use Rattle.gixp_fetch_common.specs.OfBoundary.{OfBoundary}

-- what holds of the borrowed ids holds of the ids themselves
pub of_boundary : (P : List ObjectId → Type 0) (lent ids : List ObjectId) → lent ≡ ids → P lent → OfBoundary P ids
of_boundary P lent ids e h = record { holds = subst P e h }
