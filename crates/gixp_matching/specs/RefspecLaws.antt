-- Laws of the definitions.
use Rattle.std.specs.Prelude.{ℕ, ◌≡◌, ◌&&◌, Bool, true, List, [], ◌∷◌, ◌++◌, Option, Some, None}
use Rattle.std.specs.List.{list_any, list_all, slice_get, position_from, AllByRecursion}
use Rattle.std.specs.Str.{bytes_eq}
use Rattle.gixp_hash.specs.ObjectId.{id_of}
use Rattle.gixp_refspec.specs.Spec.{Spec}
use Rattle.gixp_refspec.specs.Matching.{between, prefixes_of, is_covered}
use Rattle.gixp_matching.specs.Mappings.{Source, FullName, ObjectId, Mapped, mappings}
use Rattle.gixp_matching.specs.Validation.{has_local, is_below, local_names}

-- a pattern matches the name made of its front, any middle and its back
abbrev pub MatchesMiddle : Type 0
MatchesMiddle = (front middle back : List ℕ) → between front back (front ++ (middle ++ back)) ≡ Some middle

-- a pattern matches no other name
abbrev pub MatchesOnly : Type 0
MatchesOnly = (front back name middle : List ℕ) → between front back name ≡ Some middle → name ≡ front ++ (middle ++ back)

-- the names in byte order are exactly the local names of the mappings
abbrev pub NamesAreLocal : Type 0
NamesAreLocal = (name : List ℕ) (ms : List Mapped) → list_any (λ other. bytes_eq other name) (local_names ms) ≡ list_any (has_local name) ms

-- each name is below all later ones
abbrev pub is_increasing : List (List ℕ) → Bool
is_increasing [] = true
is_increasing (name ∷ names) = list_all (is_below name) names && is_increasing names

-- these names are in byte order, each once
abbrev pub NamesIncrease : Type 0
NamesIncrease = (ms : List Mapped) → is_increasing (local_names ms) ≡ true

-- the source of a mapping of this refspec: the first ref with its name, which begins with a prefix of the refspec, or
-- the id that the refspec names
abbrev pub IsTakenBy : Spec → List (List ℕ) → Option ℕ → Source → Type 0
IsTakenBy s names (Some i) (FullName name) = (position_from (λ other. bytes_eq other name) 0 names ≡ Some i)
    × (is_covered (prefixes_of s) name ≡ true)
IsTakenBy s names None (ObjectId bytes) = id_of s.source ≡ Some bytes
IsTakenBy s names _ _ = ⊥

-- the refspec of a mapping is one of the list, and the mapping has a source that this refspec allows
pub record HasOrigin (specs : List Spec) (names : List (List ℕ)) (m : Mapped) : Type 0 where
  pub origin : Spec
  pub at_place : slice_get specs m.spec ≡ Some origin
  pub taken : IsTakenBy origin names m.item m.source

-- each mapping has a refspec of the list, and the first ref with its name or an id
abbrev pub MappingsHaveOrigins : Type 0
MappingsHaveOrigins = (specs : List Spec) (names : List (List ℕ)) → AllByRecursion (HasOrigin specs names) (mappings specs names)
