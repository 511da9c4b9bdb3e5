-- A ref that no prefix covers makes no mapping.
use Rattle.std.proofs.Common.{◌≡◌, ℕ, ◌+◌, Bool, true, false, cond, nat_eq, List, [], ◌∷◌, ◌++◌, map, Option, Some, None, ap, sym, ◌∙◌, refl, inl, inr}
use Rattle.std.specs.Prelude.{filter, not, ◌||◌, is_some, option_to_list}
use Rattle.std.specs.Option.{option_map}
use Rattle.std.specs.List.{flat_map, enumerate_from, starts_with}
use Rattle.std.proofs.lemmas.Bool.{cases_Bool, cond-true, or_left, or_right, false≢true}
use Rattle.std.proofs.lemmas.List.{map-append}
use Rattle.std.proofs.lemmas.List.Folds.{list_any-append}
use Rattle.gixp_refspec.specs.Spec.{Spec, is_negative}
use Rattle.gixp_refspec.specs.Matching.{matches, middle_of, local_of, prefixes_of, is_covered}
use Rattle.gixp_matching.specs.Mappings.{FullName, Mapped, mapped, is_same, firsts, pair, pairs_of, pairs, id_mappings, is_excluded, mappings}
use Rattle.gixp_matching.specs.Leaving.{LeavesOut, CoversAll, without_item, all_prefixes}
use Rattle.gixp_matching.proofs.ListLemmas.{filter_of_map}
use Rattle.gixp_refspec.proofs.PrefixLemmas.{matched_is_covered}

-- the first of equal mappings, without the indices of the refs
firsts-without_item : (ms : List Mapped) → firsts (map without_item ms) ≡ map without_item (firsts ms)
firsts-without_item [] = refl
firsts-without_item (m ∷ ms) =
    ap (λ r. without_item m ∷ filter (λ later. not (is_same (without_item m) later)) r) (firsts-without_item ms)
    ∙ ap (λ r. without_item m ∷ r) (filter_of_map (λ later. not (is_same (without_item m) later)) without_item (firsts ms))

-- a positive refspec matches no name that isn't covered
abbrev Misses : List (List ℕ) → Spec → Type 0
Misses prefixes s = (name : List ℕ) → is_covered prefixes name ≡ false → is_negative s.sign ≡ false → matches s name ≡ false

-- the mapping of a refspec and the name at index i: none where b holds, else one for the middle
abbrev made : (s : ℕ × Spec) (name : List ℕ) (i : ℕ) (b : Bool) (middle : Option (List ℕ)) → List Mapped
made s name i b middle = cond b [] (option_to_list (option_map (λ m. mapped (Some i) (FullName name) (local_of s.1 m) s.0) middle))

-- another index changes only the index in the mapping
made_anywhere : (s : ℕ × Spec) (name : List ℕ) (i j : ℕ) (b : Bool) (middle : Option (List ℕ))
    → map without_item (made s name i b middle) ≡ map without_item (made s name j b middle)
made_anywhere s name i j true middle = refl
made_anywhere s name i j false None = refl
made_anywhere s name i j false (Some m) = refl

made_of_none : (s : ℕ × Spec) (name : List ℕ) (i : ℕ) (b : Bool) (middle : Option (List ℕ)) → is_some middle ≡ false
    → made s name i b middle ≡ []
made_of_none s name i true middle h = refl
made_of_none s name i false None h = refl
made_of_none s name i false (Some m) h = cc

-- a refspec and a name at two indices
pair_anywhere : (specs : List Spec) (s : ℕ × Spec) (name : List ℕ) (i j : ℕ) → map without_item (pair specs s (i, name))
    ≡ map without_item (pair specs s (j, name))
unfolding pair
pair_anywhere specs s name i j = made_anywhere s name i j (is_negative s.1.sign || is_excluded specs name) (middle_of s.1.source name)

-- a name that isn't covered has no mapping
pair_of_none : (specs : List Spec) (s : ℕ × Spec) (prefixes : List (List ℕ)) (name : List ℕ) (i : ℕ) → Misses prefixes s.1
    → is_covered prefixes name ≡ false → pair specs s (i, name) ≡ []
unfolding pair
pair_of_none specs s prefixes name i misses h = elim (cases_Bool (is_negative s.1.sign)) [
  | inl negative ↦ cond-true _ _ _ (or_left _ _ negative)
  | inr positive ↦ made_of_none s name i (is_negative s.1.sign || is_excluded specs name) (middle_of s.1.source name)
      (misses name h positive)
]

-- one refspec and fewer names
pairs_of_fewer : (specs : List Spec) (s : ℕ × Spec) (prefixes : List (List ℕ)) → Misses prefixes s.1
    → (names all : List (List ℕ)) (i j : ℕ) → LeavesOut prefixes names all
    → map without_item (flat_map (pair specs s) (enumerate_from i names))
    ≡ map without_item (flat_map (pair specs s) (enumerate_from j all))
pairs_of_fewer specs s prefixes misses names [] i j h = ap (λ ns. map without_item (flat_map (pair specs s) (enumerate_from i ns))) h
pairs_of_fewer specs s prefixes misses names (name ∷ all) i j (inl h) =
    let rest = flat_map (pair specs s) (enumerate_from (j + 1) all) in
    pairs_of_fewer specs s prefixes misses names all i (j + 1) h.1
    ∙ ap (λ z. map without_item (z ++ rest)) (sym (pair_of_none specs s prefixes name j misses h.0))
pairs_of_fewer specs s prefixes misses names (name ∷ all) i j (inr h) =
    let left = flat_map (pair specs s) (enumerate_from (i + 1) h.0) in
    let right = flat_map (pair specs s) (enumerate_from (j + 1) all) in
    ap (λ ns. map without_item (flat_map (pair specs s) (enumerate_from i ns))) h.1
    ∙ map-append without_item (pair specs s (i, name)) left
    ∙ ap (λ z. z ++ map without_item left) (pair_anywhere specs s name i j)
    ∙ ap (λ z. map without_item (pair specs s (j, name)) ++ z) (pairs_of_fewer specs s prefixes misses h.0 all (i + 1) (j + 1) h.2)
    ∙ sym (map-append without_item (pair specs s (j, name)) right)

-- a positive refspec of the list matches no name that its prefixes don't cover
misses_from_prefixes : (prefixes : List (List ℕ)) (s : Spec) (part : List Spec) → CoversAll prefixes (s ∷ part) → Misses prefixes s
misses_from_prefixes prefixes s part has name h positive = elim (cases_Bool (matches s name)) [
  | inl t ↦ (
      let among = list_any-append (λ prefix. starts_with nat_eq name prefix) (prefixes_of s) (all_prefixes part)
      ∙ or_left _ _ (matched_is_covered s name positive t) in
      absurd (false≢true (sym h ∙ has name among)))
  | inr f ↦ f
]

-- the prefixes of the remaining refspecs are among the prefixes
rest_has : (prefixes : List (List ℕ)) (s : Spec) (part : List Spec) → CoversAll prefixes (s ∷ part) → CoversAll prefixes part
rest_has prefixes s part has name h =
    has name (list_any-append (λ prefix. starts_with nat_eq name prefix) (prefixes_of s) (all_prefixes part) ∙ or_right _ _ h)

-- each refspec and fewer names
pairs_fewer : (specs : List Spec) (prefixes : List (List ℕ)) (names all : List (List ℕ)) → LeavesOut prefixes names all
    → (part : List Spec) (k : ℕ) → CoversAll prefixes part
    → map without_item (flat_map (pairs_of specs names) (enumerate_from k part))
    ≡ map without_item (flat_map (pairs_of specs all) (enumerate_from k part))
pairs_fewer specs prefixes names all h [] k has = refl
pairs_fewer specs prefixes names all h (s ∷ part) k has =
    let left = flat_map (pairs_of specs names) (enumerate_from (k + 1) part) in
    let right = flat_map (pairs_of specs all) (enumerate_from (k + 1) part) in
    map-append without_item (pairs_of specs names (k, s)) left
    ∙ ap (λ z. z ++ map without_item left) (pairs_of_fewer specs (k, s) prefixes (misses_from_prefixes prefixes s part has) names all 0 0 h)
    ∙ ap (λ z. map without_item (pairs_of specs all (k, s)) ++ z)
    (pairs_fewer specs prefixes names all h part (k + 1) (rest_has prefixes s part has))
    ∙ sym (map-append without_item (pairs_of specs all (k, s)) right)

-- leaving out refs that no prefix covers changes no mapping
pub keeps_mappings : (specs : List Spec) (names prefixes all : List (List ℕ)) → CoversAll prefixes specs → LeavesOut prefixes names all
    → map without_item (mappings specs names) ≡ map without_item (mappings specs all)
keeps_mappings specs names prefixes all covers h =
    let ids = id_mappings specs in
    let same = pairs_fewer specs prefixes names all h specs 0 covers in
    sym (firsts-without_item (ids ++ pairs specs names))
    ∙ ap firsts (map-append without_item ids (pairs specs names) ∙ ap (λ z. map without_item ids ++ z) same
    ∙ sym (map-append without_item ids (pairs specs all)))
    ∙ firsts-without_item (ids ++ pairs specs all)
