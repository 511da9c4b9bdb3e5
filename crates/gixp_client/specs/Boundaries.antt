-- The shallow boundary after a fetch (gitprotocol-pack, "Packfile Negotiation").
use Rattle.std.specs.Prelude.{◌≡◌, Bool, true, false, not, List, [], ◌∷◌, ◌++◌, map, filter}
use Rattle.gixp_hash.specs.declared.object_id.ObjectId.{ObjectId}
use Rattle.gixp_reachable.specs.Ids.{has_id}
use Rattle.gixp_shallow.specs.declared.update.ShallowUpdate.{ShallowUpdate}
use Rattle.gixp_shallow.specs.declared.update.ShallowUpdate.TheVariants.{Shallow, Unshallow}
use Rattle.gixp_shallow.specs.Boundary.{boundary}
use Rattle.gixp_client.specs.declared.boundary.Boundary.{Boundary}

-- the ids that `others` doesn't have
abbrev pub ids_beyond : List ObjectId → List ObjectId → List ObjectId
ids_beyond ids others = filter (λ id. not (has_id others id)) ids

abbrev pub becomes_shallow : ObjectId → ShallowUpdate
becomes_shallow id = Shallow id

abbrev pub becomes_whole : ObjectId → ShallowUpdate
becomes_whole id = Unshallow id

-- the updates that lead from one boundary to another: first the new ids, then the ids that are gone
abbrev pub updates_between : List ObjectId → List ObjectId → List ShallowUpdate
updates_between before after = map becomes_shallow (ids_beyond after before) ++ map becomes_whole (ids_beyond before after)

-- the fields of a `Boundary`: its ids, and the requested and unrequested updates
pub record IsLeftBoundary (ids : List ObjectId) (asked unasked : List ShallowUpdate) (b : Boundary) : Type 0 where
  pub ids_kept : b.ids.items ≡ ids
  pub asked_for : b.asked_for.items ≡ asked
  pub not_asked_for : b.unasked.items ≡ unasked

-- the boundary after a fetch; if the request doesn't change the boundary, the updates are unrequested and not applied
abbrev pub IsBoundaryAfter : Bool → List ObjectId → List ObjectId → Boundary → Type 0
IsBoundaryAfter true before after b = IsLeftBoundary after (updates_between before after) [] b
IsBoundaryAfter false before after b = IsLeftBoundary before [] (updates_between before after) b

-- the boundary after updates; without updates the ids keep their order
abbrev pub ids_after : List ObjectId → List ShallowUpdate → List ObjectId
ids_after ids [] = ids
ids_after ids (update ∷ updates) = boundary ids (update ∷ updates)
