-- A validation doesn't depend on the indices of the refs.
use Rattle.std.proofs.Common.{◌≡◌, ℕ, Bool, cond, List, [], ◌∷◌, map, ap, sym, ◌∙◌, refl}
use Rattle.std.specs.Prelude.{filter, not}
use Rattle.std.specs.List.{list_any, flat_map}
use Rattle.std.proofs.lemmas.List.Folds.{fold-map}
use Rattle.gixp_refspec.specs.Spec.{Spec}
use Rattle.gixp_matching.specs.Mappings.{Source, Mapped, source_eq, mappings}
use Rattle.gixp_matching.specs.Validation.{has_local, of_local, differ, local_names, insert_local, spec_text, Conflict, conflict_over, conflicts, is_partial, removed_at, fixes, kept}
use Rattle.gixp_matching.specs.Leaving.{without_item, SameAnswers, KeepsAnswers, AnswersAll}
use Rattle.gixp_matching.proofs.ListLemmas.{any_same, map_same, map_of_map, flat_map_same, filter_of_map}
use Rattle.gixp_packetline.proofs.ListLemmas.{any_of_map}
use Rattle.gixp_matching.proofs.LeavingLemmas.{keeps_mappings}

-- local names don't depend on the indices
names_of_bare : (ms : List Mapped) → local_names (map without_item ms) ≡ local_names ms
names_of_bare ms = fold-map (λ names m. insert_local m.local names) without_item [] ms

-- whether sources differ doesn't depend on the indices
differ_bare : (ms : List Mapped) → differ (map without_item ms) ≡ differ ms
differ_bare ms =
    any_of_map (λ m. list_any (λ other. not (source_eq m.source other.source)) (map without_item ms)) without_item ms
    ∙ any_same _ _ (λ m. any_of_map (λ other. not (source_eq m.source other.source)) without_item ms) ms

bare_map : {B : Type 0} (f : Mapped → B) → ((m : Mapped) → f (without_item m) ≡ f m) → (ms : List Mapped)
    → map f (map without_item ms) ≡ map f ms
bare_map f h ms = map_of_map f without_item ms ∙ map_same _ _ h ms

abbrev conflict_made : Bool → List ℕ → List (List ℕ) → List Source → List Conflict
conflict_made b name texts sources = cond b (record { destination = name; specs = texts; sources = sources } ∷ []) []

-- the conflict over a local name doesn't depend on the indices
conflict_over_bare : (specs : List Spec) (name : List ℕ) (ms : List Mapped) → conflict_over specs name (map without_item ms)
    ≡ conflict_over specs name ms
conflict_over_bare specs name ms =
    ap (λ b. conflict_made b name (map (spec_text specs) (map without_item ms)) (map (λ m. m.source) (map without_item ms)))
    (differ_bare ms)
    ∙ ap (λ t. conflict_made (differ ms) name t (map (λ m. m.source) (map without_item ms))) (bare_map (spec_text specs) (λ m. refl) ms)
    ∙ ap (λ t. conflict_made (differ ms) name (map (spec_text specs) ms) t) (bare_map (λ m. m.source) (λ m. refl) ms)

-- conflicts don't depend on the indices
pub conflicts_of_bare : (specs : List Spec) (ms : List Mapped) → conflicts specs (map without_item ms) ≡ conflicts specs ms
unfolding conflicts
conflicts_of_bare specs ms =
    ap (flat_map (λ name. conflict_over specs name (of_local name (map without_item ms)))) (names_of_bare ms)
    ∙ flat_map_same _ _ (λ name. ap (conflict_over specs name) (filter_of_map (has_local name) without_item ms)
    ∙ conflict_over_bare specs name (of_local name ms)) (local_names ms)

-- fixes don't depend on the indices
pub fixes_of_bare : (specs : List Spec) (ms : List Mapped) → fixes specs (map without_item ms) ≡ fixes specs ms
unfolding fixes
fixes_of_bare specs ms =
    ap (map (removed_at specs)) (filter_of_map is_partial without_item ms)
    ∙ map_of_map (removed_at specs) without_item (filter is_partial ms) ∙ map_same _ _ (λ m. refl) (filter is_partial ms)

-- the mappings that stay don't depend on the indices
kept_of_bare : (ms : List Mapped) → kept (map without_item ms) ≡ map without_item (kept ms)
unfolding kept
kept_of_bare ms = filter_of_map (λ m. not (is_partial m)) without_item ms

-- a validation doesn't depend on the indices
same_answers : (specs : List Spec) (ms all : List Mapped) → map without_item ms ≡ map without_item all → SameAnswers specs ms all
same_answers specs ms all same = record {
  same_mappings = same;
  same_conflicts = sym (conflicts_of_bare specs ms) ∙ ap (conflicts specs) same ∙ conflicts_of_bare specs all;
  same_fixes = sym (fixes_of_bare specs ms) ∙ ap (fixes specs) same ∙ fixes_of_bare specs all;
  same_kept = sym (kept_of_bare ms) ∙ ap kept same ∙ kept_of_bare all;
}

-- the result for fewer names is the result for all
pub answers_all : (specs : List Spec) (names : List (List ℕ)) (ms : List Mapped) → ms ≡ mappings specs names → AnswersAll specs names ms
answers_all specs names ms is = λ prefixes all covers h. same_answers specs ms (mappings specs all)
    (ap (map without_item) is ∙ keeps_mappings specs names prefixes all covers h)

-- leaving out refs that no prefix covers changes no result
pub keeps_answers : KeepsAnswers
keeps_answers specs names = answers_all specs names (mappings specs names) refl
