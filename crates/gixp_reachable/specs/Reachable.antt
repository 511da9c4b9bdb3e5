-- The objects that refs reach (gitglossary, "reachable"): the objects that they name, and the ancestors of commits.
use Rattle.std.specs.Prelude.{◌≡◌, List, Contains, IsTrue, Option, Some, None}
use Rattle.std.specs.FinMap as finite
use Rattle.gixp_hash.specs.declared.object_id.ObjectId.{ObjectId}
use Rattle.gixp_graph.specs.declared.objects.ObjectKind.{ObjectKind}
use Rattle.gixp_graph.specs.declared.objects.ObjectKind.TheVariants.{Commit as IsCommit}
use Rattle.gixp_graph.specs.Object.{Object, Objects, Commit, commit_at}

-- an object that exists is reachable if it is a tip, or a parent of a commit that is reachable
pub data IsReachable (objects : Objects) (tips : List ObjectId) : ObjectId → Type 0 where
  tip : {id : ObjectId} → Contains tips id → IsTrue (finite.contains_key objects id) → IsReachable objects tips id
  parent : {child id : ObjectId} {c : Commit} → IsReachable objects tips child → commit_at objects child ≡ Some c → Contains c.parents id
      → IsTrue (finite.contains_key objects id) → IsReachable objects tips id

-- the kind of a commit is `Commit`; the kind of another object is the one that was read
abbrev pub kind_stored : Option ObjectKind → Option Commit → Option ObjectKind
kind_stored kind (Some c) = Some IsCommit
kind_stored kind None = kind

-- an object as a repository in memory has it
abbrev pub as_stored : Object → Object
as_stored o = record { kind = kind_stored o.kind o.commit; commit = o.commit }
