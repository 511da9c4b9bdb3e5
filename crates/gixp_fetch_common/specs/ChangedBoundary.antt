-- The boundary of a shallow repository before and after a fetch (gitrepository-layout, "shallow").
use Rattle.std.specs.Prelude.{◌≡◌, ◌≢◌, List, Option, Some, None}
use Rattle.gix_protocol.specs.ObjectIdType.{ObjectId}

-- the new boundary is written, unless it is the old one
abbrev pub ChangesTo : List ObjectId → List ObjectId → Option (List ObjectId) → Type 0
ChangesTo old new None = new ≡ old
ChangesTo old new (Some ids) = (ids ≡ new) × (ids ≢ old)
