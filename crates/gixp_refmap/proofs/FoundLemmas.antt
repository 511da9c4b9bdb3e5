-- A mapping has the first ref with its name, which a prefix covers.
use Rattle.std.proofs.Common.{◌≡◌, ℕ, ◌+◌, ◌<◌, Bool, true, nat_eq, zero, suc, List, [], ◌∷◌, Option, Some, None, inl, inr, length, ap, ◌∙◌, refl, arith}
use Rattle.std.specs.Prelude.{find}
use Rattle.std.specs.List.{slice_get, position_from, starts_with, AllByRecursion}
use Rattle.std.proofs.lemmas.Bool.{cases_Bool, or_left, or_right}
use Rattle.std.proofs.lemmas.List.Folds.{list_any-append}
use Rattle.std.proofs.lemmas.Option.{slice_get_within}
use Rattle.std.specs.Str.{bytes_eq}
use Rattle.gixp_refs.specs.Ref.{RefValue}
use Rattle.gixp_refspec.specs.Spec.{Spec}
use Rattle.gixp_refspec.specs.Matching.{prefixes_of, is_covered}
use Rattle.gixp_matching.specs.Mappings.{Source, FullName, ObjectId, Mapped}
use Rattle.gixp_matching.specs.Leaving.{all_prefixes}
use Rattle.gixp_matching.specs.RefspecLaws.{IsTakenBy, HasOrigin, MappingsHaveOrigins}
use Rattle.gixp_refmap.specs.Mapping.{value_name, value_names, has_name, found_in}

-- the source of a mapping: the first ref with its name, which is covered, or an id
abbrev pub ItemIsFirst : List Spec → List RefValue → Option ℕ → Source → Type 0
ItemIsFirst specs refs (Some i) (FullName name) =
    (r : RefValue) × (slice_get refs i ≡ Some r) × (find (has_name name) refs ≡ Some r) × (is_covered (all_prefixes specs) name ≡ true)
ItemIsFirst specs refs None (ObjectId bytes) = Unit {0}
ItemIsFirst specs refs _ _ = ⊥

-- a mapping of one of the refspecs with such a source
pub record Good (specs : List Spec) (refs : List RefValue) (m : Mapped) : Type 0 where
  pub place : m.spec < length specs
  pub item : ItemIsFirst specs refs m.item m.source

-- the first ref that passes, with its index
record Found (p : List ℕ → Bool) (refs : List RefValue) (k i : ℕ) : Type 0 where
  pub at : ℕ
  pub place : i ≡ k + at
  pub ref : RefValue
  pub there : slice_get refs at ≡ Some ref
  pub first : find (λ r. p (value_name r)) refs ≡ Some ref

some_is : (a b : ℕ) → Some a ≡ Some b → b ≡ a
some_is a b e = cc

-- the index of a name is the index of a ref
found_at : (p : List ℕ → Bool) (refs : List RefValue) (k i : ℕ) → position_from p k (value_names refs) ≡ Some i → Found p refs k i
found_at p [] k i e = cc
found_at p (r ∷ refs) k i e = elim (cases_Bool (p (value_name r))) [
  | inl t ↦ (
      let s = rw t at e in
      record { at = 0; place = some_is k i s ∙ omega arith; ref = r; there = refl; first = rw t refl })
  | inr f ↦ (
      let s = rw f at e in
      let rest = found_at p refs (k + 1) i s in
      record { at = suc rest.at; place = rest.place ∙ omega arith; ref = rest.ref; there = rest.there; first = rw f rest.first })
]

-- a name that a prefix of one refspec covers is covered by the prefixes of all
covered_by_all : (specs : List Spec) (j : ℕ) (s : Spec) (name : List ℕ) → slice_get specs j ≡ Some s
    → is_covered (prefixes_of s) name ≡ true → is_covered (all_prefixes specs) name ≡ true
covered_by_all [] j s name e h = cc
covered_by_all (first ∷ specs) zero s name e h =
    let same : first ≡ s = cc in
    list_any-append (λ prefix. starts_with nat_eq name prefix) (prefixes_of first) (all_prefixes specs)
    ∙ or_left _ _ (ap (λ x. is_covered (prefixes_of x) name) same ∙ h)
covered_by_all (first ∷ specs) (suc j) s name e h =
    list_any-append (λ prefix. starts_with nat_eq name prefix) (prefixes_of first) (all_prefixes specs)
    ∙ or_right _ _ (covered_by_all specs j s name e h)

-- a source by names is a source by refs
taken_of_refs : (specs : List Spec) (refs : List RefValue) (j : ℕ) (s : Spec) (item : Option ℕ) (source : Source)
    → slice_get specs j ≡ Some s → IsTakenBy s (value_names refs) item source → ItemIsFirst specs refs item source
taken_of_refs specs refs j s (Some i) (FullName name) e h =
    let found = found_at (λ other. bytes_eq other name) refs 0 i h.0 in
    let there : i ≡ found.at = found.place ∙ omega arith in
    (found.ref, ap (slice_get refs) there ∙ found.there, found.first, covered_by_all specs j s name e h.1)
taken_of_refs specs refs j s (Some i) (ObjectId bytes) e h = absurd h
taken_of_refs specs refs j s None (FullName name) e h = absurd h
taken_of_refs specs refs j s None (ObjectId bytes) e h = tt

-- the source of each mapping by refs
good_of_origins : (specs : List Spec) (refs : List RefValue) (ms : List Mapped) → AllByRecursion (HasOrigin specs (value_names refs)) ms
    → AllByRecursion (Good specs refs) ms
good_of_origins specs refs [] h = tt
good_of_origins specs refs (m ∷ ms) h = (
  record {
    place = slice_get_within specs m.spec h.0.origin h.0.at_place;
    item = taken_of_refs specs refs m.spec h.0.origin m.item m.source h.0.at_place h.0.taken;
  },
  good_of_origins specs refs ms h.1,
)

-- each mapping belongs to one of the refspecs, and has an id or the first ref with its name
pub found_are_good : MappingsHaveOrigins → (specs : List Spec) (refs : List RefValue)
    → AllByRecursion (Good specs refs) (found_in specs refs)
found_are_good law specs refs = good_of_origins specs refs (found_in specs refs) (law specs (value_names refs))
