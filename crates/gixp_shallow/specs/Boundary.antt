-- The shallow boundary as a set of ids, stored as a sorted list (gitprotocol-pack, "Packfile Negotiation").
use Rattle.std.specs.Prelude.{◌≡◌, ◌≢◌, ◌⊎◌, ◌↔◌, List, [], ◌∷◌}
use Rattle.std.specs.List.{Contains}
use Rattle.std.specs.List.Sorted.{IsStrictlySortedBy}
use Rattle.std.specs.BTreeMap.{is_at}
use Rattle.std.specs.BTreeSet.{insert_key}
use Rattle.std.specs.Set.{remove_key}
use Rattle.gixp_hash.specs.ObjectId.{id_cmp}
use Rattle.gixp_hash.specs.declared.object_id.ObjectId.{ObjectId}
use Rattle.gixp_shallow.specs.declared.update.ShallowUpdate.{ShallowUpdate}
use Rattle.gixp_shallow.specs.declared.update.ShallowUpdate.TheVariants.{Shallow as becomes_shallow, Unshallow as becomes_whole}

-- the ids of a list, sorted, each once
pub record IsSetOf (ids set : List ObjectId) : Type 0 where
  pub ordered : IsStrictlySortedBy id_cmp set
  pub same : (id : ObjectId) → Contains set id ↔ Contains ids id

-- whether an id is in the boundary after these updates in their order; each `shallow` adds its id, each `unshallow` removes it
abbrev pub StaysIn : ObjectId → Type 0 → List ShallowUpdate → Type 0
StaysIn id before [] = before
StaysIn id before (becomes_shallow other ∷ us) = StaysIn id (before ⊎ (id ≡ other)) us
StaysIn id before (becomes_whole other ∷ us) = StaysIn id (before × (id ≢ other)) us

-- the boundary after these updates, sorted, each id once
pub record IsBoundary (ids : List ObjectId) (updates : List ShallowUpdate) (set : List ObjectId) : Type 0 where
  pub ordered : IsStrictlySortedBy id_cmp set
  pub same : (id : ObjectId) → Contains set id ↔ StaysIn id (Contains ids id) updates

-- the keys with these ids, sorted, each once
abbrev pub with_ids : List ObjectId → List ObjectId → List ObjectId
with_ids keys [] = keys
with_ids keys (id ∷ ids) = with_ids (insert_key id_cmp keys id) ids

-- the keys after these updates, sorted, each once
abbrev pub with_updates : List ObjectId → List ShallowUpdate → List ObjectId
with_updates keys [] = keys
with_updates keys (becomes_shallow id ∷ us) = with_updates (insert_key id_cmp keys id) us
with_updates keys (becomes_whole id ∷ us) = with_updates (remove_key (is_at (id_cmp id)) keys) us

-- the boundary after the updates, sorted, each id once
abbrev pub boundary : List ObjectId → List ShallowUpdate → List ObjectId
boundary ids updates = with_updates (with_ids [] ids) updates
