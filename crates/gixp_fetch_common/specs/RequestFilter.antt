-- Whether a request leaves objects out by a filter.
use Rattle.std.specs.Prelude.{◌≡◌, ℕ, Bool, true, false, List, Option, Some, None}
use Rattle.gix_protocol.specs.Requests.{SetsFilter}
use Rattle.gix_protocol.specs.RequestType.{Request}

-- the request gets the filter, or stays the same
abbrev pub SetsFilterIf : Bool → List ℕ → Request → Request → Type 0
SetsFilterIf true filter old new = SetsFilter filter old new
SetsFilterIf false filter old new = new ≡ old

-- the same for an optional filter
abbrev pub SetsFilterWhere : Bool → Option (List ℕ) → Request → Request → Type 0
SetsFilterWhere can (Some filter) old new = SetsFilterIf can filter old new
SetsFilterWhere can None old new = new ≡ old
