-- The mappings of refspecs and names, by pairs, without a table.
use Rattle.std.specs.Prelude.{ℕ, Bool, true, false, not, ◌&&◌, ◌||◌, if◌then◌else◌, List, [], ◌∷◌, ◌++◌, filter, Option, Some, None, option_to_list}
use Rattle.std.specs.Option.{option_map}
use Rattle.std.specs.List.{list_any, flat_map, enumerate_from}
use Rattle.std.specs.Str.{bytes_eq}
use Rattle.gixp_hash.specs.ObjectId.{id_of}
use Rattle.gixp_refspec.specs.Spec.{Spec, is_negative}
use Rattle.gixp_refspec.specs.Matching.{middle_of, matches, local_of}

-- the source of a mapping: the name of a ref, or the bytes of an id
pub data Source : Type 0 where
  FullName : List ℕ → Source
  ObjectId : List ℕ → Source

-- a mapping: the index of its ref, its source, its local name, the index of its refspec
pub record Mapped : Type 0 where
  pub item : Option ℕ
  pub source : Source
  pub local : Option (List ℕ)
  pub spec : ℕ

abbrev pub mapped : Option ℕ → Source → Option (List ℕ) → ℕ → Mapped
mapped item source local spec = record { item = item; source = source; local = local; spec = spec }

-- two sources are equal: both are names or both are ids, with equal bytes
abbrev pub source_eq : Source → Source → Bool
source_eq (FullName a) (FullName b) = bytes_eq a b
source_eq (FullName a) (ObjectId b) = false
source_eq (ObjectId a) (FullName b) = false
source_eq (ObjectId a) (ObjectId b) = bytes_eq a b

-- two local names are equal, or both are absent
abbrev pub local_eq : Option (List ℕ) → Option (List ℕ) → Bool
local_eq None None = true
local_eq None (Some b) = false
local_eq (Some a) None = false
local_eq (Some a) (Some b) = bytes_eq a b

-- two mappings have the same source and the same local name
abbrev pub is_same : Mapped → Mapped → Bool
is_same a b = source_eq a.source b.source && local_eq a.local b.local

-- the first of each set of mappings with the same source and local name
abbrev pub firsts : List Mapped → List Mapped
firsts [] = []
firsts (m ∷ ms) = m ∷ filter (λ later. not (is_same m later)) (firsts ms)

-- the mapping of the id that a positive refspec names
unfoldable pub id_mapping : ℕ × Spec → List Mapped
id_mapping s =
    if is_negative s.1.sign then []
    else option_to_list (option_map (λ id. mapped None (ObjectId id) (local_of s.1 []) s.0) (id_of s.1.source))

-- the refspec is negative and matches the name
abbrev pub excludes : List ℕ → Spec → Bool
excludes name s = is_negative s.sign && matches s name

-- a negative refspec matches the name
unfoldable pub is_excluded : List Spec → List ℕ → Bool
is_excluded specs name = list_any (excludes name) specs

-- the mapping of a refspec and a name, if the refspec matches the name
unfoldable pub pair : List Spec → ℕ × Spec → ℕ × List ℕ → List Mapped
pair specs s name =
    if is_negative s.1.sign || is_excluded specs name.1 then []
    else option_to_list (option_map (λ middle. mapped (Some name.0) (FullName name.1) (local_of s.1 middle) s.0)
    (middle_of s.1.source name.1))

-- the mappings of a refspec and each name
abbrev pub pairs_of : List Spec → List (List ℕ) → ℕ × Spec → List Mapped
pairs_of specs names s = flat_map (pair specs s) (enumerate_from 0 names)

-- the mappings of ids, by refspec
abbrev pub id_mappings : List Spec → List Mapped
id_mappings specs = flat_map id_mapping (enumerate_from 0 specs)

-- the mappings of all pairs, by refspec and then by ref
abbrev pub pairs : List Spec → List (List ℕ) → List Mapped
pairs specs names = flat_map (pairs_of specs names) (enumerate_from 0 specs)

-- first the mappings of ids, then of all pairs, by refspec and then by name; of equal ones only the first
abbrev pub mappings : List Spec → List (List ℕ) → List Mapped
mappings specs names = firsts (id_mappings specs ++ pairs specs names)
