-- The commits that the refs of a repository lead to.
use Rattle.std.specs.Prelude.{◌≡◌, ◌&&◌, ◌||◌, Bool, true, false, List, Option, Some, None}
use Rattle.std.specs.Ordering.{is_eq}
use Rattle.std.specs.List.{list_any}
use Rattle.std.specs.BTreeSet.{BTreeSet, contains}
use Rattle.gix_protocol.specs.ObjectId.{id_cmp}
use Rattle.gix_protocol.specs.ObjectIdType.{ObjectId}
use Rattle.gix_protocol.specs.ObjectKindType.{ObjectKind}
use Rattle.gix_protocol.specs.ObjectKindType.TheVariants.{Commit as IsCommit}
use Rattle.gix_protocol.specs.Object.{Objects, kind_at}

-- it isn't known to be another object
abbrev pub may_be_commit : Option ObjectKind → Bool
may_be_commit (Some IsCommit) = true
may_be_commit (Some _) = false
may_be_commit None = true

-- a ref leads to this object, which may be a commit
abbrev pub is_tip : Objects → ObjectId → ObjectId → Bool
is_tip objects id target = may_be_commit (kind_at objects target) && is_eq (id_cmp target id)

-- those of some objects were added
abbrev pub AddsTips : Objects → List ObjectId → BTreeSet ObjectId → BTreeSet ObjectId → Type 0
AddsTips objects targets old new =
    (id : ObjectId) → contains id_cmp new id ≡ (contains id_cmp old id || list_any (is_tip objects id) targets)

-- these are what the refs lead to
abbrev pub HasTips : Objects → List ObjectId → BTreeSet ObjectId → Type 0
HasTips objects targets tips = (id : ObjectId) → contains id_cmp tips id ≡ list_any (is_tip objects id) targets
