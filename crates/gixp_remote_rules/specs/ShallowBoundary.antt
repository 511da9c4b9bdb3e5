-- The shallow boundary of the repository after a fetch.
use Rattle.std.specs.Prelude.{ℕ, ◌&&◌, ◌||◌, not, Bool, if◌then◌else◌, List, ◌++◌, filter, slice_get, Option, Some, None}
use Rattle.std.specs.List.{position}
use Rattle.std.specs.BTreeSet.{BTreeSet, contains}
use Rattle.gixp_hash.specs.declared.object_id.ObjectId.{ObjectId}
use Rattle.gixp_hash.specs.ObjectId.{id_cmp}
use Rattle.gixp_remote_rules.specs.HelperOptions.{HelperOptionsValue, has_depth}
use Rattle.gixp_remote_rules.specs.declared.boundary.ShallowPolicy.{ShallowPolicy}
use Rattle.gixp_remote_rules.specs.declared.boundary.ShallowPolicy.TheVariants.{Deepen, Update, Keep}
use Rattle.gixp_remote_rules.specs.declared.boundary.ConnectivityCheck.{ConnectivityCheck}
use Rattle.gixp_remote_rules.specs.declared.boundary.ConnectivityCheck.TheVariants as check
use Rattle.gixp_remote_rules.specs.declared.boundary.BoundaryChange.{BoundaryChange}
use Rattle.gixp_remote_rules.specs.declared.boundary.BoundaryChange.TheVariants.{Stays, Becomes, Grows, Refused}

-- the policy that git's options ask for
abbrev pub shallow_policy : HelperOptionsValue → ShallowPolicy
shallow_policy c = if has_depth c then Deepen else if c.is_cloning || c.updates_shallow then Update else Keep

-- git checks connectivity if a depth changes the boundary, except in a clone, which git checks
-- itself; and if the server sent a boundary that isn't taken over
abbrev pub connectivity_check_by : ShallowPolicy → Bool → Bool → Bool → ConnectivityCheck
connectivity_check_by Deepen is_cloning changes has_boundary = if changes && not is_cloning then check.Deepened else check.Skip
connectivity_check_by Keep is_cloning changes has_boundary = if has_boundary then check.Unasked else check.Skip
connectivity_check_by Update is_cloning changes has_boundary = check.Skip

abbrev pub connectivity_check : HelperOptionsValue → Bool → Bool → ConnectivityCheck
connectivity_check c changes has_boundary = connectivity_check_by (shallow_policy c) c.is_cloning changes has_boundary

-- it is unchanged, is replaced by these ids, gets these ids, or the server sent an id that is not a
-- commit of this repository
pub data AfterFetch : Type 0 where
  stays : AfterFetch
  becomes : List ObjectId → AfterFetch
  grows : List ObjectId → AfterFetch
  refused : ObjectId → AfterFetch

abbrev pub boundary_value : BoundaryChange → AfterFetch
boundary_value Stays = stays
boundary_value (Becomes ids) = becomes ids.items
boundary_value (Grows ids) = grows ids.items
boundary_value (Refused id) = refused id

-- the ids of a new boundary that the old one lacks
abbrev pub added : BTreeSet ObjectId → List ObjectId → List ObjectId
added old new = filter (λ id. not (contains id_cmp old id)) new

-- the wanted ids, and those that only the old boundary has
abbrev pub roots : List ObjectId → List ObjectId → BTreeSet ObjectId → List ObjectId
roots wanted old new = wanted ++ added new old

-- the ids that are commits now and weren't present before
abbrev pub received_commits : BTreeSet ObjectId → BTreeSet ObjectId → List ObjectId → List ObjectId
received_commits before commits ids = filter (λ id. contains id_cmp commits id && not (contains id_cmp before id)) ids

-- the index of the first id that is not a commit
abbrev pub missing_at : BTreeSet ObjectId → List ObjectId → Option ℕ
missing_at commits ids = position (λ id. not (contains id_cmp commits id)) ids

abbrev pub id_at : List ObjectId → Option ℕ → Option ObjectId
id_at ids None = None
id_at ids (Some at) = slice_get ids at

abbrev pub first_missing : BTreeSet ObjectId → List ObjectId → Option ObjectId
first_missing commits ids = id_at ids (missing_at commits ids)

abbrev pub unless_missing : List ObjectId → Option ObjectId → AfterFetch
unless_missing new None = becomes new
unless_missing new (Some id) = refused id

-- the boundary after a fetch, if the server's boundary is `new` and `ids` are added
abbrev pub boundary_after : ShallowPolicy → List ObjectId → List ObjectId → BTreeSet ObjectId → BTreeSet ObjectId → AfterFetch
boundary_after Keep new ids before commits = stays
boundary_after Deepen new ids before commits = unless_missing new (first_missing commits ids)
boundary_after Update new ids before commits = grows (received_commits before commits ids)
