-- The order of updates of the boundary.
use Rattle.std.specs.declared.cmp.Ordering.{Ordering}
use Rattle.std.specs.declared.cmp.Ordering.TheVariants.{Less, Greater}
use Rattle.gixp_hash.specs.ObjectId.{id_cmp}
use Rattle.gixp_shallow.specs.declared.update.ShallowUpdate.{ShallowUpdate}
use Rattle.gixp_shallow.specs.declared.update.ShallowUpdate.TheVariants.{Shallow, Unshallow}

-- `shallow` before `unshallow`, each ordered by the ids
abbrev pub update_cmp : ShallowUpdate → ShallowUpdate → Ordering
update_cmp (Shallow a) (Shallow b) = id_cmp a b
update_cmp (Shallow a) (Unshallow b) = Less
update_cmp (Unshallow a) (Shallow b) = Greater
update_cmp (Unshallow a) (Unshallow b) = id_cmp a b
