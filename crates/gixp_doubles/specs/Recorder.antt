-- The offers of a negotiator that records its calls.
use Rattle.std.specs.Prelude.{◌≡◌, List, [], ◌∷◌, Option, Some, None}
use Rattle.gixp_hash.specs.declared.object_id.ObjectId.{ObjectId}

-- the first remaining have is offered, or none remains
abbrev pub OffersFirstHave : List ObjectId → Option ObjectId → List ObjectId → Type 0
OffersFirstHave haves None left = (haves ≡ []) × (left ≡ [])
OffersFirstHave haves (Some id) left = haves ≡ id ∷ left
