-- The objects of a repository as plain data: a finite map from ids to what can be read of each.
use Rattle.std.specs.Prelude.{ℕ, ◌≡◌, ◌-◌, ℤ, List, Option, option_and_then, option_map, refl, zero, suc}
use Rattle.std.specs.FinMap as finite
use Rattle.std.specs.FinMap.{FinMap}
use Rattle.std.specs.Coded.{Coded, code_by, coded×, coded_ℕ, coded_list, coded_ℤ, coded_option}
use Rattle.gixp_hash.specs.declared.object_id.ObjectId.{ObjectId}
use Rattle.gixp_hash.specs.ObjectId.{id_cmp, coded_id}
use Rattle.gixp_graph.specs.declared.objects.ObjectKind.{ObjectKind}
use Rattle.gixp_graph.specs.declared.objects.ObjectKind.TheVariants.{Commit as IsCommit, Tree, Blob, Tag}
use Rattle.gixp_graph.specs.declared.objects.CommitData.{CommitData}

-- a commit: the committer's time, and the ids of its parents in order
pub record Commit : Type 0 where
  pub time : ℤ
  pub parents : List ObjectId

-- an object: its kind where that can be read, and its commit where it is one
pub record Object : Type 0 where
  pub kind : Option ObjectKind
  pub commit : Option Commit

-- the objects of a repository, by id
abbrev pub Objects : Type 0
Objects = FinMap id_cmp Object

abbrev pub kind_at : Objects → ObjectId → Option ObjectKind
kind_at objects id = option_and_then (λ (o : Object). o.kind) (finite.get objects id)

abbrev pub commit_at : Objects → ObjectId → Option Commit
commit_at objects id = option_and_then (λ (o : Object). o.commit) (finite.get objects id)

-- the time of the commit that an id names
abbrev pub time_at : Objects → ObjectId → Option ℤ
time_at objects id = option_map (λ (c : Commit). c.time) (commit_at objects id)

-- the data of a commit that was read
abbrev pub commit_of : CommitData → Commit
commit_of c = record { time = c.time; parents = c.parents.items }

abbrev kind_number : ObjectKind → ℕ
kind_number IsCommit = 0
kind_number Tree = 1
kind_number Blob = 2
kind_number Tag = 3

abbrev kind_numbered : ℕ → ObjectKind
kind_numbered zero = IsCommit
kind_numbered (suc zero) = Tree
kind_numbered (suc (suc zero)) = Blob
kind_numbered (suc (suc (suc _))) = Tag

pub kind_numbered-kind_number : (k : ObjectKind) → kind_numbered (kind_number k) ≡ k
kind_numbered-kind_number IsCommit = refl
kind_numbered-kind_number Tree = refl
kind_numbered-kind_number Blob = refl
kind_numbered-kind_number Tag = refl

abbrev pub coded_kind : Coded ObjectKind
coded_kind = code_by ℕ coded_ℕ kind_number kind_numbered kind_numbered-kind_number

abbrev pub coded_commit : Coded Commit
coded_commit = code_by (ℤ × List ObjectId) (coded× coded_ℤ (coded_list coded_id)) (λ c. (c.time, c.parents))
    (λ p. record { time = p.0; parents = p.1 }) (λ _. refl)

abbrev pub coded_object : Coded Object
coded_object = code_by (Option ObjectKind × Option Commit) (coded× (coded_option coded_kind) (coded_option coded_commit))
    (λ o. (o.kind, o.commit)) (λ p. record { kind = p.0; commit = p.1 }) (λ _. refl)
