-- The changes of local refs that refspecs and a server's refs ask for (git-fetch, "<refspec>", "--prune").
use Rattle.std.specs.Prelude.{◌&&◌, nat_eq, not, ℕ, Bool, false, if◌then◌else◌, List, [], ◌∷◌, ◌++◌, map, drop, length, Option, Some, None}
use Rattle.std.specs.Option.{option_map, option_map_or}
use Rattle.std.specs.Borrow.{Bor}
use Rattle.std.specs.List.{list_any, filter_map, flat_map, starts_with, ends_with}
use Rattle.std.specs.Str.{bytes_eq}
use Rattle.std.specs.Ordering.{nat_cmp}
use Rattle.std.specs.Cmp.Lexicographic.{slice_cmp}
use Rattle.std.specs.BTreeSet.{BTreeSet, contains_by}
use Rattle.std.specs.FinMap as finite
use Rattle.std.specs.FinMap.{FinMap}
use Rattle.bstr.specs.declared.bstring.BString.{BString}
use Rattle.bstr.specs.Owned.{bstring_bytes}
use Rattle.gixp_hash.specs.declared.object_id.ObjectId.{ObjectId}
use Rattle.gixp_refspec.specs.declared.spec.RefSpec.{RefSpec}
use Rattle.gixp_refspec.specs.Spec.{Spec, is_negative}
use Rattle.gixp_refspec.specs.RefSpec.{owned_value_of}
use Rattle.gixp_refspec.specs.Matching.{is_pattern, before_star, after_star}
use Rattle.gixp_refmap.specs.Mapping.{source_id}
use Rattle.gixp_refmap.specs.SafeNames.{has_safe_name}
use Rattle.gixp_refmap.specs.declared.refmap.mapping.Mapping.{Mapping}
use Rattle.gixp_client.specs.declared.changes.LocalChange.{LocalChange}
use Rattle.gixp_client.specs.declared.changes.LocalChange.TheVariants.{Made, Moved, Kept, Removed}

-- a local ref, by its full name, is created, moved, kept or removed
pub data LocalRefChange : Type 0 where
  makes : (name : List ℕ) → (id : ObjectId) → LocalRefChange
  moves : (name : List ℕ) → (old new : ObjectId) → LocalRefChange
  keeps : (name : List ℕ) → (id : ObjectId) → LocalRefChange
  removes : (name : List ℕ) → (old : ObjectId) → LocalRefChange

abbrev pub change_value : LocalChange → LocalRefChange
change_value (Made name id) = makes (bstring_bytes name) id
change_value (Moved name old new) = moves (bstring_bytes name) old new
change_value (Kept name id) = keeps (bstring_bytes name) id
change_value (Removed name old) = removes (bstring_bytes name) old

abbrev pub change_values : List LocalChange → List LocalRefChange
change_values changes = map change_value changes

-- a full name and the id that the ref holds
abbrev pub listed_value : BString × ObjectId → List ℕ × ObjectId
listed_value e = (bstring_bytes e.0, e.1)

-- ---- refs that a mapping names

-- a ref that holds this id, if it exists, shall hold that id
abbrev pub change_to : List ℕ → Option ObjectId → ObjectId → LocalRefChange
change_to name None id = makes name id
change_to name (Some old) id = if bytes_eq old.bytes id.bytes then keeps name id else moves name old id

-- the change of a mapping's local ref; there is none without a local name or without an object
abbrev pub change_at : FinMap (slice_cmp nat_cmp) ObjectId → Option (List ℕ) → Option ObjectId → Option LocalRefChange
change_at refs None id = None
change_at refs (Some name) None = None
change_at refs (Some name) (Some id) = Some (change_to name (finite.get refs name) id)

-- the same for a mapping; there is none if its local name isn't safe
abbrev pub change_by : FinMap (slice_cmp nat_cmp) ObjectId → Mapping → Option LocalRefChange
change_by refs m =
    if has_safe_name m then change_at refs (option_map bstring_bytes m.local) (source_id m.remote) else None

-- ---- refs to prune

-- a name matches a destination: it is equal, or a part of it is in place of the asterisk
abbrev pub matches : List ℕ → List ℕ → Bool
matches destination name =
    if is_pattern destination
    then starts_with nat_eq name (before_star destination)
    && ends_with nat_eq (drop (length (before_star destination)) name) (after_star destination)
    else bytes_eq destination name

-- a positive refspec has a destination that matches the name
abbrev pub writes : Spec → List ℕ → Bool
writes s name = not (is_negative s.sign) && option_map_or (λ destination. matches destination name) s.destination false

abbrev pub is_written : List RefSpec → List ℕ → Bool
is_written specs name = list_any (λ s. writes (owned_value_of s) name) specs

abbrev pub goes_to : Mapping → List ℕ → Bool
goes_to m name = option_map_or (λ local. bytes_eq (bstring_bytes local) name) m.local false

abbrev pub is_mapped : List Mapping → List ℕ → Bool
is_mapped ms name = list_any (λ m. goes_to m name) ms

abbrev pub has_key : BTreeSet (Bor (List ℕ)) → List ℕ → Bool
has_key keys name = contains_by (λ key. slice_cmp nat_cmp name key.now) keys

-- the removal of a ref if the condition holds
abbrev pub removals : Bool → List ℕ × ObjectId → List LocalRefChange
removals is_pruned e = if is_pruned then removes e.0 e.1 ∷ [] else []

-- the removal of a ref whose name a refspec writes and no mapping does
abbrev pub removals_of : List RefSpec → List Mapping → List ℕ × ObjectId → List LocalRefChange
removals_of specs ms e = removals (is_written specs e.0 && not (is_mapped ms e.0)) e

-- ---- all changes

-- the change of each mapping, in order, and the removal of each listed ref to prune
abbrev pub changes_of : List Mapping → List RefSpec → FinMap (slice_cmp nat_cmp) ObjectId → List (List ℕ × ObjectId) → List LocalRefChange
changes_of ms specs refs listed = filter_map (change_by refs) ms ++ flat_map (removals_of specs ms) listed
