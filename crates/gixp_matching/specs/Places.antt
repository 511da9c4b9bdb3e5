-- The origin of mappings: a refspec, and a ref that it matches or the id that it names.
use Rattle.std.specs.Prelude.{ℕ, ◌≡◌, List, [], ◌++◌, map, Option, Some, None, option_to_list, Vec}
use Rattle.std.specs.Option.{option_map}
use Rattle.std.specs.List.{slice_get, flat_map, enumerate_from}
use Rattle.std.specs.declared.alloc.Global.{Global}
use Rattle.gixp_hash.specs.ObjectId.{id_of}
use Rattle.gixp_refspec.specs.Spec.{Spec}
use Rattle.gixp_refspec.specs.Matching.{middle_of, local_of}
use Rattle.gixp_matching.specs.declared.match_group.Place.{Place}
use Rattle.gixp_matching.specs.Mappings.{Source, FullName, ObjectId, Mapped, mapped, id_mapping, id_mappings, pair, pairs}

-- the mappings of refspecs and refs, including those that repeat an earlier source and local name
abbrev pub repeated : List Spec → List (List ℕ) → List Mapped
repeated specs names = id_mappings specs ++ pairs specs names

-- the indices of the ref and of the refspec of a mapping
abbrev pub place_of : Mapped → Option ℕ × ℕ
place_of m = (m.item, m.spec)

abbrev pub place_value : Place → Option ℕ × ℕ
place_value p = (p.item_index, p.spec_index)

abbrev pub places_in : Vec Place Global → List (Option ℕ × ℕ)
places_in v = map place_value v.items

-- the place of the id that a positive refspec names
abbrev pub id_places : ℕ × Spec → List (Option ℕ × ℕ)
id_places s = map place_of (id_mapping s)

-- the place of a refspec and a name, if the refspec matches the name
abbrev pub pair_places : List Spec → ℕ × Spec → ℕ × List ℕ → List (Option ℕ × ℕ)
pair_places specs s ref = map place_of (pair specs s ref)

-- the places of a refspec and each name
abbrev pub places_with : List Spec → List (List ℕ) → ℕ × Spec → List (Option ℕ × ℕ)
places_with specs names s = flat_map (pair_places specs s) (enumerate_from 0 names)

abbrev pub local_after : Spec → Option (List ℕ) → Option (List ℕ)
local_after s None = None
local_after s (Some middle) = local_of s middle

-- the local name that a refspec makes of a source
abbrev pub local_for : Option Spec → Source → Option (List ℕ)
local_for None source = None
local_for (Some s) (FullName name) = local_after s (middle_of s.source name)
local_for (Some s) (ObjectId id) = local_of s []

-- the id that a refspec names
abbrev pub id_for : Option Spec → Option (List ℕ)
id_for None = None
id_for (Some s) = id_of s.source

-- the source is the name of the ref at this index, or without one the id of the refspec
abbrev pub IsSourceAt : List Spec → List (List ℕ) → Option ℕ → ℕ → Source → Type 0
IsSourceAt specs names (Some i) s (FullName name) = slice_get names i ≡ Some name
IsSourceAt specs names None s (ObjectId id) = id_for (slice_get specs s) ≡ Some id
IsSourceAt specs names _ s _ = ⊥

-- the source and the local name of a mapping follow from its ref and its refspec
pub record FollowsFromPlace (specs : List Spec) (names : List (List ℕ)) (m : Mapped) : Type 0 where
  pub source : IsSourceAt specs names m.item m.spec m.source
  pub local : m.local ≡ local_for (slice_get specs m.spec) m.source

-- the name of the ref at this index, or without one the id of the refspec
abbrev pub source_at : List Spec → List (List ℕ) → Option ℕ → ℕ → Option Source
source_at specs names (Some i) s = option_map FullName (slice_get names i)
source_at specs names None s = option_map ObjectId (id_for (slice_get specs s))

-- the mapping at a place; none where the ref or the refspec doesn't exist
abbrev pub made_at : List Spec → List (List ℕ) → Option ℕ × ℕ → Option Mapped
made_at specs names place =
    option_map (λ source. mapped place.0 source (local_for (slice_get specs place.1) source) place.1)
    (source_at specs names place.0 place.1)

-- the mappings at these places
abbrev pub made_of : List Spec → List (List ℕ) → List (Option ℕ × ℕ) → List Mapped
made_of specs names places = flat_map (λ place. option_to_list (made_at specs names place)) places
