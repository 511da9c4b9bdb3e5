-- The objects of a list of commits.
use Rattle.std.specs.Prelude.{List, Option, Some, map}
use Rattle.std.specs.Map.{lookup}
use Rattle.std.specs.BTreeMap.{is_at}
use Rattle.std.specs.FinMap as finite
use Rattle.gixp_hash.specs.declared.object_id.ObjectId.{ObjectId}
use Rattle.gixp_hash.specs.ObjectId.{id_cmp}
use Rattle.gixp_graph.specs.declared.objects.ObjectKind.TheVariants.{Commit as IsCommit}
use Rattle.gixp_graph.specs.declared.objects.CommitData.{CommitData}
use Rattle.gixp_graph.specs.Object.{Object, Objects, commit_of}

abbrev pub object_of : CommitData → Object
object_of c = record { kind = Some IsCommit; commit = Some (commit_of c) }

-- the objects of these commits, by id
abbrev pub objects_of : List (ObjectId × CommitData) → Objects
objects_of commits = finite.from_entries (map (λ (e : ObjectId × CommitData). (e.0, object_of e.1)) commits)

-- the commit with this id in such a list
abbrev pub listed_at : List (ObjectId × CommitData) → ObjectId → Option CommitData
listed_at commits id = lookup (is_at (id_cmp id)) commits
