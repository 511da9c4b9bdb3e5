-- Ids without repeats, and the set of them.
use Rattle.std.specs.Prelude.{◌≡◌, List}
use Rattle.std.specs.List.{list_any}
use Rattle.std.specs.BTreeMap.{is_at}
use Rattle.gixp_hash.specs.declared.object_id.ObjectId.{ObjectId}
use Rattle.gixp_hash.specs.ObjectId.{id_cmp}
use Rattle.gixp_negotiate.specs.Rounds.{has_id}

-- the set has exactly these ids
abbrev pub IsIndex : List ObjectId → List ObjectId → Type 0
IsIndex keys ids = (q : ObjectId) → list_any (is_at (id_cmp q)) keys ≡ has_id ids q
