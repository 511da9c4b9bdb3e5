-- What is said of a shallow boundary.
use Rattle.std.specs.Prelude.{List}
use Rattle.gix_protocol.specs.ObjectIdType.{ObjectId}

-- this holds of its ids
pub record OfBoundary (P : List ObjectId → Type 0) (ids : List ObjectId) : Type 0 where
  pub holds : P ids
