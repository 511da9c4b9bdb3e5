-- The objects of a list of commits, by id.
use Rattle.std.proofs.Common.{◌≡◌, ◌∙◌, Bool, true, false, cond, ◌||◌, List, [], ◌∷◌, map, Option, Some, None, refl, ap}
use Rattle.std.specs.Prelude.{option_map, option_and_then, is_some}
use Rattle.std.specs.Ordering.{eq_by_cmp}
use Rattle.std.specs.List.{list_any}
use Rattle.std.specs.FinMap as finite
use Rattle.std.specs.FinMap.{find, get-from_entries}
use Rattle.gixp_hash.specs.declared.object_id.ObjectId.{ObjectId}
use Rattle.gixp_hash.specs.ObjectId.{id_cmp}
use Rattle.gixp_graph.specs.declared.objects.CommitData.{CommitData}
use Rattle.gixp_graph.specs.declared.objects.ObjectKind.TheVariants.{Commit as IsCommit}
use Rattle.gixp_graph.specs.Object.{Object, Commit, kind_at, commit_at, commit_of}
use Rattle.gixp_test_lower.specs.Listed.{object_of, objects_of, listed_at}
use Rattle.gixp_hash.specs.IdLaws.{ids_total}

-- a lookup among the objects is a lookup in the list
find_map : (es : List (ObjectId × CommitData)) (q : ObjectId)
    → find id_cmp q (map (λ (e : ObjectId × CommitData). (e.0, object_of e.1)) es) ≡ option_map object_of (listed_at es q)
find_map [] q = refl
find_map (e ∷ es) q = at (eq_by_cmp id_cmp q e.0) (find_map es q)
  where
    at : (b : Bool) → find id_cmp q (map (λ (e : ObjectId × CommitData). (e.0, object_of e.1)) es) ≡ option_map object_of (listed_at es q)
        → cond b (Some (object_of e.1)) (find id_cmp q (map (λ (e : ObjectId × CommitData). (e.0, object_of e.1)) es))
        ≡ option_map object_of (cond b (Some e.1) (listed_at es q))
    at true r = refl
    at false r = r

-- an object exists if its commit is listed
pub get_listed : (es : List (ObjectId × CommitData)) (q : ObjectId) → finite.get (objects_of es) q ≡ option_map object_of (listed_at es q)
get_listed es q = get-from_entries ids_total (map (λ (e : ObjectId × CommitData). (e.0, object_of e.1)) es) q ∙ find_map es q

-- the commit of an object of a list
commit_here : (o : Option CommitData) → option_and_then (λ (x : Object). x.commit) (option_map object_of o) ≡ option_map commit_of o
commit_here None = refl
commit_here (Some c) = refl

-- the commit of an object is the listed one
pub commit_listed : (es : List (ObjectId × CommitData)) (q : ObjectId) → commit_at (objects_of es) q ≡ option_map commit_of (listed_at es q)
commit_listed es q = ap (option_and_then (λ (x : Object). x.commit)) (get_listed es q) ∙ commit_here (listed_at es q)

-- the kind of an object of a list
kind_here : (o : Option CommitData) → option_and_then (λ (x : Object). x.kind) (option_map object_of o) ≡ option_map (λ _. IsCommit) o
kind_here None = refl
kind_here (Some c) = refl

-- the kind of a listed object is a commit
pub kind_listed : (es : List (ObjectId × CommitData)) (q : ObjectId)
    → kind_at (objects_of es) q ≡ option_map (λ _. IsCommit) (listed_at es q)
kind_listed es q = ap (option_and_then (λ (x : Object). x.kind)) (get_listed es q) ∙ kind_here (listed_at es q)

-- whether an object of a list exists
key_here : (o : Option CommitData) → is_some (option_map object_of o) ≡ is_some o
key_here None = refl
key_here (Some c) = refl

-- an object exists if it is listed
pub key_listed : (es : List (ObjectId × CommitData)) (q : ObjectId) → finite.contains_key (objects_of es) q ≡ is_some (listed_at es q)
key_listed es q = ap is_some (get_listed es q) ∙ key_here (listed_at es q)

-- a commit exists if it is listed
pub some_listed : (es : List (ObjectId × CommitData)) (q : ObjectId) → is_some (commit_at (objects_of es) q) ≡ is_some (listed_at es q)
some_listed es q = ap is_some (commit_listed es q) ∙ at (listed_at es q)
  where
    at : (o : Option CommitData) → is_some (option_map commit_of o) ≡ is_some o
    at None = refl
    at (Some c) = refl

-- a listed id is among the ids of the list
pub any_listed : (es : List (ObjectId × CommitData)) (q : ObjectId)
    → is_some (listed_at es q) ≡ list_any (eq_by_cmp id_cmp q) (map (λ (e : ObjectId × CommitData). e.0) es)
any_listed [] q = refl
any_listed (e ∷ es) q = at (eq_by_cmp id_cmp q e.0) (any_listed es q)
  where
    at : (b : Bool) → is_some (listed_at es q) ≡ list_any (eq_by_cmp id_cmp q) (map (λ (e : ObjectId × CommitData). e.0) es)
        → is_some (cond b (Some e.1) (listed_at es q)) ≡ (b || list_any (eq_by_cmp id_cmp q) (map (λ (e : ObjectId × CommitData). e.0) es))
    at true r = refl
    at false r = r

abbrev pub some_commit : Commit → Option Commit
some_commit c = Some c
