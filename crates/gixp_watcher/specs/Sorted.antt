-- Rows in the order of their keys, and the objects and the refs of a repository made of them.
use Rattle.std.specs.Prelude.{◌≡◌, ◌<◌, ◌-◌, ℕ, List, map, length, slice_index_or, Some}
use Rattle.std.specs.Option.{option_map}
use Rattle.std.specs.declared.cmp.Ordering.{Ordering}
use Rattle.std.specs.declared.cmp.Ordering.TheVariants.{Less}
use Rattle.std.specs.Ordering.{nat_cmp}
use Rattle.std.specs.Cmp.Lexicographic.{slice_cmp}
use Rattle.std.specs.FinMap as finite
use Rattle.bstr.specs.Owned.{bstring_bytes}
use Rattle.gix_protocol.specs.ObjectIdType.{ObjectId}
use Rattle.gix_protocol.specs.Object.{Object, Objects, commit_of}
use Rattle.gixp_watcher.specs.declared.rows.ObjectRow.{ObjectRow}
use Rattle.gixp_watcher.specs.declared.rows.RefRow.{RefRow}

-- each key is less than those after it
abbrev pub Rises : {X K : Type 0} → (K → K → Ordering) → (X → K) → List X → Type 0
Rises {X} cmp key xs = (i j : ℕ) (d : X) → i < j → j < length xs → cmp (key (slice_index_or xs i d)) (key (slice_index_or xs j d)) ≡ Less

-- the key is greater than that of the last element, if there is one
abbrev pub IsAboveLast : {X K : Type 0} → (K → K → Ordering) → (X → K) → List X → X → Type 0
IsAboveLast {X} cmp key xs y = (d : X) → 0 < length xs → cmp (key (slice_index_or xs (length xs - 1) d)) (key y) ≡ Less

abbrev pub object_of : ObjectRow → Object
object_of r = record { kind = Some r.kind; commit = option_map commit_of r.commit }

abbrev pub objects_of : List ObjectRow → Objects
objects_of rows = finite.from_entries (map (λ (r : ObjectRow). (r.id, object_of r)) rows)

abbrev pub name_of : RefRow → List ℕ
name_of r = bstring_bytes r.name

abbrev pub peeled_of : RefRow → ObjectId
peeled_of r = r.peeled

-- the name of a ref, and the id that it holds
abbrev pub name_and_id : RefRow → List ℕ × ObjectId
name_and_id r = (name_of r, r.id)

abbrev pub refs_of : List RefRow → finite.FinMap (slice_cmp nat_cmp) ObjectId
refs_of rows = finite.from_entries (map name_and_id rows)
