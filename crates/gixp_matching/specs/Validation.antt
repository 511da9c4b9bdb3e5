-- Local names with two sources, and local names that aren't full names.
use Rattle.std.specs.Prelude.{ℕ, Bool, true, false, not, if◌then◌else◌, List, [], ◌∷◌, filter, map, Option, Some, None}
use Rattle.std.specs.Option.{option_map_or}
use Rattle.std.specs.List.{list_any, slice_get, fold, flat_map}
use Rattle.std.specs.Ordering.{is_lt, nat_cmp}
use Rattle.std.specs.Cmp.Lexicographic.{slice_cmp}
use Rattle.std.specs.Str.{bytes_eq}
use Rattle.gixp_refspec.specs.Name.{is_partial_name}
use Rattle.gixp_refspec.specs.Spec.{Spec, text_of, is_full}
use Rattle.gixp_matching.specs.Mappings.{Source, Mapped, source_eq, local_eq}

-- the mapping has this local name
abbrev pub has_local : List ℕ → Mapped → Bool
has_local name m = local_eq m.local (Some name)

-- the mappings with this local name
abbrev pub of_local : List ℕ → List Mapped → List Mapped
of_local name ms = filter (has_local name) ms

-- two of the mappings have different sources
abbrev pub differ : List Mapped → Bool
differ ms = list_any (λ m. list_any (λ other. not (source_eq m.source other.source)) ms) ms

-- a name is below another in byte order
abbrev pub is_below : List ℕ → List ℕ → Bool
is_below a b = is_lt (slice_cmp nat_cmp a b)

-- inserts a name into names in byte order, unless they contain it
abbrev pub insert_name : List ℕ → List (List ℕ) → List (List ℕ)
insert_name name [] = name ∷ []
insert_name name (first ∷ rest) =
    if is_below first name then first ∷ insert_name name rest else if bytes_eq first name then first ∷ rest else name ∷ first ∷ rest

-- inserts a local name, if there is one
abbrev pub insert_local : Option (List ℕ) → List (List ℕ) → List (List ℕ)
insert_local None names = names
insert_local (Some name) names = insert_name name names

-- the local names in byte order, each once
abbrev pub local_names : List Mapped → List (List ℕ)
local_names ms = fold (λ names m. insert_local m.local names) [] ms

-- the text of the refspec of a mapping
abbrev pub spec_text : List Spec → Mapped → List ℕ
spec_text specs m = option_map_or text_of (slice_get specs m.spec) []

-- a conflict: the local name, and for each mapping with it the refspec's text and the source
pub record Conflict : Type 0 where
  pub destination : List ℕ
  pub specs : List (List ℕ)
  pub sources : List Source

-- the conflict of the mappings with a local name: for each the text of its refspec, and its source
abbrev pub the_conflict : List Spec → List ℕ → List Mapped → Conflict
the_conflict specs name group = record { destination = name; specs = map (spec_text specs) group; sources = map (λ m. m.source) group }

-- the conflict of the mappings with a local name, where they have two sources
abbrev pub conflict_over : List Spec → List ℕ → List Mapped → List Conflict
conflict_over specs name group = if differ group then the_conflict specs name group ∷ [] else []

-- the conflicts, sorted by the bytes of the local names
unfoldable pub conflicts : List Spec → List Mapped → List Conflict
conflicts specs ms = flat_map (λ name. conflict_over specs name (of_local name ms)) (local_names ms)

-- a local name that isn't a full name: neither `HEAD` nor begins with `refs/`
abbrev pub is_partial_local : Option (List ℕ) → Bool
is_partial_local None = false
is_partial_local (Some name) = not (is_full name)

-- the mapping has a local name that isn't a full name
abbrev pub is_partial : Mapped → Bool
is_partial m = is_partial_local m.local

-- a local name that is valid, or none
abbrev pub is_safe_local : Option (List ℕ) → Bool
is_safe_local None = true
is_safe_local (Some name) = is_partial_name name

-- the mapping has no invalid local name
abbrev pub has_safe_local : Mapped → Bool
has_safe_local m = is_safe_local m.local

-- a fix: the local name and the text of the refspec of a mapping that is removed
pub record Removed : Type 0 where
  pub name : Option (List ℕ)
  pub spec : List ℕ

-- the fix for a mapping
abbrev pub removed_at : List Spec → Mapped → Removed
removed_at specs m = record { name = m.local; spec = spec_text specs m }

-- the fixes for the mappings that are removed
unfoldable pub fixes : List Spec → List Mapped → List Removed
fixes specs ms = map (removed_at specs) (filter is_partial ms)

-- the mappings that stay
unfoldable pub kept : List Mapped → List Mapped
kept ms = filter (λ m. not (is_partial m)) ms
