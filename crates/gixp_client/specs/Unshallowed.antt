-- Ids that a server unshallows though they aren't in the shallow boundary (gitprotocol-pack, "Packfile Negotiation").
use Rattle.std.specs.Prelude.{◌≡◌, ⊤, Bool, true, List, [], ◌∷◌, Option, Some, None, Result, Ok, Err, if◌then◌else◌}
use Rattle.std.specs.List.{list_all}
use Rattle.std.specs.Option.{option_map_or}
use Rattle.gixp_hash.specs.declared.object_id.ObjectId.{ObjectId}
use Rattle.gixp_shallow.specs.declared.update.ShallowUpdate.{ShallowUpdate}
use Rattle.gixp_shallow.specs.declared.update.ShallowUpdate.TheVariants.{Shallow, Unshallow}
use Rattle.gixp_response.specs.Answer.{AnswerValue}
use Rattle.gixp_fetch.specs.declared.options.Outcome.{Outcome}
use Rattle.gixp_reachable.specs.Ids.{has_id}
use Rattle.gixp_client.specs.declared.error.Error.{Error}
use Rattle.gixp_client.specs.declared.error.Error.TheVariants.{UnknownUnshallow}

-- the id that the update unshallows, if it isn't in the boundary
abbrev pub unknown_id : (ObjectId → Bool) → ShallowUpdate → Option ObjectId
unknown_id is_in (Shallow id) = None
unknown_id is_in (Unshallow id) = if is_in id then None else Some id

-- the first such id
abbrev pub unknown_unshallow : (ObjectId → Bool) → List ShallowUpdate → Option ObjectId
unknown_unshallow is_in [] = None
unknown_unshallow is_in (update ∷ updates) = option_map_or Some (unknown_id is_in update) (unknown_unshallow is_in updates)

-- the id recorded earlier, or else the first such id of this response
abbrev pub noted : (ObjectId → Bool) → Option ObjectId → Option AnswerValue → Option ObjectId
noted is_in (Some id) answer = Some id
noted is_in None (Some answer) = unknown_unshallow is_in answer.shallow_updates
noted is_in None None = None

-- the outcome, or the error for such an id
abbrev pub unless_taken : Outcome → Option ObjectId → Result (Option Outcome) Error
unless_taken outcome None = Ok (Some outcome)
unless_taken outcome (Some id) = Err (UnknownUnshallow id)

-- the result of a fetch, or the error for an id of an earlier response or of the last one
abbrev pub known_alone : (ObjectId → Bool) → Result (Option Outcome) Error → Option ObjectId → Result (Option Outcome) Error
known_alone is_in (Err e) unknown = Err e
known_alone is_in (Ok outcome) (Some id) = Err (UnknownUnshallow id)
known_alone is_in (Ok None) None = Ok None
known_alone is_in (Ok (Some outcome)) None =
    unless_taken outcome (unknown_unshallow is_in outcome.last_response.shallow_updates)

-- the last response unshallows only ids of the boundary
abbrev pub TakesKnown : (ObjectId → Bool) → Option Outcome → Type 0
TakesKnown is_in None = ⊤
TakesKnown is_in (Some outcome) = unknown_unshallow is_in outcome.last_response.shallow_updates ≡ None

-- the same, with the boundary as a list
abbrev pub is_known : List ObjectId → ShallowUpdate → Bool
is_known ids (Shallow id) = true
is_known ids (Unshallow id) = has_id ids id

abbrev pub KnowsAll : List ObjectId → Option Outcome → Type 0
KnowsAll ids None = ⊤
KnowsAll ids (Some outcome) = list_all (is_known ids) outcome.last_response.shallow_updates ≡ true
