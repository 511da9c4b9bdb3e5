-- Leaving out refs that no prefix covers (gitprotocol-v2, `ref-prefix`).
use Rattle.std.specs.Prelude.{ℕ, ◌≡◌, ◌⊎◌, true, false, List, [], ◌∷◌, map, None}
use Rattle.std.specs.List.{flat_map}
use Rattle.gixp_refspec.specs.Spec.{Spec}
use Rattle.gixp_refspec.specs.Matching.{prefixes_of, is_covered}
use Rattle.gixp_matching.specs.Mappings.{Mapped, mapped, mappings}
use Rattle.gixp_matching.specs.Validation.{conflicts, fixes, kept}

abbrev pub all_prefixes : List Spec → List (List ℕ)
all_prefixes specs = flat_map prefixes_of specs

-- names are all names, without some that begin with none of the prefixes
abbrev pub LeavesOut : List (List ℕ) → List (List ℕ) → List (List ℕ) → Type 0
LeavesOut prefixes names [] = names ≡ []
LeavesOut prefixes names (name ∷ all) =
    ((is_covered prefixes name ≡ false) × LeavesOut prefixes names all)
    ⊎ ((rest : List (List ℕ)) × (names ≡ name ∷ rest) × LeavesOut prefixes rest all)

-- a mapping without the index of its ref
abbrev pub without_item : Mapped → Mapped
without_item m = mapped None m.source m.local m.spec

-- two lists of mappings that differ only in the indices of refs, and validate to the same result
pub record SameAnswers (specs : List Spec) (ms all : List Mapped) : Type 0 where
  pub same_mappings : map without_item ms ≡ map without_item all
  pub same_conflicts : conflicts specs ms ≡ conflicts specs all
  pub same_fixes : fixes specs ms ≡ fixes specs all
  pub same_kept : map without_item (kept ms) ≡ map without_item (kept all)

-- prefixes that cover each name that the prefixes of the refspecs cover
abbrev pub CoversAll : List (List ℕ) → List Spec → Type 0
CoversAll prefixes specs = (name : List ℕ) → is_covered (all_prefixes specs) name ≡ true → is_covered prefixes name ≡ true

-- the mappings of these names are the mappings of each list from which a server that got such prefixes may have left out refs
abbrev pub AnswersAll : List Spec → List (List ℕ) → List Mapped → Type 0
AnswersAll specs names ms = (prefixes all : List (List ℕ)) → CoversAll prefixes specs → LeavesOut prefixes names all
    → SameAnswers specs ms (mappings specs all)

-- leaving out refs by prefix is sound
abbrev pub KeepsAnswers : Type 0
KeepsAnswers = (specs : List Spec) (names : List (List ℕ)) → AnswersAll specs names (mappings specs names)
