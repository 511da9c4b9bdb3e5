-- Lists of ids.
use Rattle.std.specs.Prelude.{Bool, List}
use Rattle.std.specs.List.{list_any}
use Rattle.std.specs.Ordering.{eq_by_cmp}
use Rattle.gixp_hash.specs.ObjectId.{id_cmp}
use Rattle.gixp_hash.specs.declared.object_id.ObjectId.{ObjectId}

-- whether a list has an id
abbrev pub has_id : List ObjectId → ObjectId → Bool
has_id ids id = list_any (λ had. eq_by_cmp id_cmp had id) ids
