-- What a repository in memory means.
use Rattle.std.specs.Prelude.{ℕ, List, map, Option, Some, None, option_map}
use Rattle.std.specs.Ordering.{nat_cmp}
use Rattle.std.specs.Cmp.Lexicographic.{slice_cmp}
use Rattle.std.specs.FinMap as finite
use Rattle.std.specs.declared.vec.Vec.{Vec}
use Rattle.std.specs.declared.alloc.Global.{Global}
use Rattle.std.specs.declared.cmp.Ordering.{Ordering}
use Rattle.gixp_hash.specs.declared.object_id.ObjectId.{ObjectId}
use Rattle.gixp_graph.specs.Object.{Object, Objects, commit_of}
use Rattle.gixp_graph.specs.declared.objects.ObjectKind.{ObjectKind}
use Rattle.gixp_memory.specs.declared.stored_objects.StoredObject.{StoredObject}
use Rattle.gixp_memory.specs.declared.stored_objects.Answered.{Answered}
use Rattle.gixp_memory.specs.declared.stored_objects.Answered.TheVariants.{Kind, Missing}

-- a stored object as plain data
abbrev pub object_of : StoredObject → Object
object_of s = record { kind = s.kind; commit = option_map commit_of s.commit }

-- the stored objects, by id
abbrev pub objects_of : List (ObjectId × StoredObject) → Objects
objects_of stored = finite.from_entries (map (λ (e : ObjectId × StoredObject). (e.0, object_of e.1)) stored)

-- names are ordered by their bytes
abbrev pub name_cmp : Vec ℕ Global → Vec ℕ Global → Ordering
name_cmp a b = slice_cmp nat_cmp a.items b.items

-- the kind of the object, or none where it is missing
abbrev pub kind_answered : Answered → Option ObjectKind
kind_answered (Kind kind) = Some kind
kind_answered Missing = None

abbrev pub answer_value : ObjectId × Answered → ObjectId × Option ObjectKind
answer_value a = (a.0, kind_answered a.1)
