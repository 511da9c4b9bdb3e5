-- The first haves of a negotiator (gitprotocol-pack, "Packfile Negotiation").
use Rattle.std.specs.Prelude.{◌≡◌, ℕ, ◌+◌, ◌≤◌, ◌⊎◌, Option, Some, None}
use Rattle.gix_protocol.specs.ObjectIdType.{ObjectId}

-- an offer, by how many more are allowed before and after it: the negotiator's own (`asked`), or none if no more are allowed
abbrev pub OffersWithin : (old new : ℕ) → Option ObjectId → (asked unasked : Type 0) → Type 0
OffersWithin old new (Some id) asked unasked = (new + 1 ≡ old) × asked
OffersWithin old new None asked unasked = (new ≤ old) × (((new + 1 ≡ old) × asked) ⊎ ((old ≡ 0) × unasked))
