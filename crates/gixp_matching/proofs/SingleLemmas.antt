-- The only positive refspec makes all mappings, where its source is a pattern.
use Rattle.std.proofs.Common.{◌≡◌, ℕ, zero, suc, ◌+◌, ◌<◌, ◌≤◌, Bool, true, false, List, [], ◌∷◌, ◌++◌, length, drop, map, get_or, cond, Option, Some, None, ap, sym, ◌∙◌, refl, inl, inr, subst, arith, add-one}
use Rattle.std.specs.Prelude.{not, filter, is_some, option_map, option_to_list, position}
use Rattle.std.specs.List.{list_any, flat_map, enumerate_from, position_or_len}
use Rattle.std.proofs.lemmas.Bool.{cases_Bool, false≢true, true≢false}
use Rattle.std.proofs.lemmas.Grind.{common_steps}
use Rattle.std.proofs.lemmas.List.{append-nil}
use Rattle.std.proofs.lemmas.List.Quantifiers.{position-Some}
use Rattle.std.specs.Borrow.{Bor}
use Rattle.gixp_hash.specs.ObjectId.{id_of}
use Rattle.gixp_refspec.specs.declared.needle.Needle.{Needle}
use Rattle.gixp_refspec.specs.declared.needle.Needle.TheVariants.{Id as the_id, Pattern as the_pattern, Exact as the_exact, Short as the_short}
use Rattle.gixp_refspec.specs.declared.spec.RefSpecRef.{RefSpecRef}
use Rattle.gixp_refspec.specs.Matching.{Id, Pattern, Exact, Short, kind_of, local_of}
use Rattle.gixp_refspec.specs.Needle.{IsNeedle}
use Rattle.gixp_refspec.specs.RefSpec.{value_of}
use Rattle.gixp_refspec.specs.Spec.{Spec, is_id, is_negative}
use Rattle.gixp_matching.specs.Mappings.{ObjectId, mapped, id_mapping, pair, pairs, pairs_of}
use Rattle.gixp_matching.specs.MatchGroup.{values}
use Rattle.gixp_matching.specs.Only.{is_positive, IsOnlyPositive, IsPlaceOfOnly}
use Rattle.gixp_matching.specs.Places.{repeated}
use Rattle.gixp_matching.specs.Single.{maps_refs, HasLonePattern}
use Rattle.gixp_matching.proofs.PairLemmas.{unmapped_negative}

-- ---- lists with exactly one item that passes, where the others have no results

module _ {A B C : Type 0} (p : A → Bool) (g : A → B) (f : ℕ × B → List C)
    (none : (n : ℕ) (x : A) → p x ≡ false → f (n, g x) ≡ []) where
  none_gives : (n : ℕ) (xs : List A) → list_any p xs ≡ false → flat_map f (enumerate_from n (map g xs)) ≡ []
  none_gives n [] h = refl
  none_gives n (x ∷ xs) h = elim (cases_Bool (p x)) [
    | inl t ↦ absurd (true≢false (rw t at h))
    | inr e ↦ ap (λ l. l ++ flat_map f (enumerate_from (n + 1) (map g xs))) (none n x e) ∙ none_gives (n + 1) xs (rw e at h)
  ]

  one_gives : (n i k : ℕ) (xs : List A) (d : A) → k ≡ n + i → i < length xs → ((j : ℕ) → j < i → p (get_or xs j d) ≡ false)
      → list_any p (drop (suc i) xs) ≡ false → flat_map f (enumerate_from n (map g xs)) ≡ f (k, g (get_or xs i d))
  one_gives n i k [] d at within before after = absurd (omega arith)
  one_gives n zero k (x ∷ xs) d at within before after =
      let same : n ≡ k = omega arith in
      ap (λ l. f (n, g x) ++ l) (none_gives (n + 1) xs after) ∙ append-nil (f (n, g x)) ∙ ap (λ m. f (m, g x)) same
  one_gives n (suc i) k (x ∷ xs) d at within before after =
      ap (λ l. l ++ flat_map f (enumerate_from (n + 1) (map g xs))) (none n x (before 0 (omega arith)))
      ∙ one_gives (n + 1) i k xs d (omega arith) (omega arith) (λ j l. before (suc j) (omega arith)) after

-- ---- the mappings of a refspec

is_negative_of : (b : Bool) → not b ≡ false → b ≡ true
is_negative_of true h = refl
is_negative_of false h = absurd (true≢false h)

is_positive_of : (b : Bool) → not b ≡ true → b ≡ false
is_positive_of true h = absurd (false≢true h)
is_positive_of false h = refl

pub only_is_positive : (specs : List RefSpecRef) (i : ℕ) (d : RefSpecRef) → IsOnlyPositive specs i
    → is_negative (get_or specs i d).sign ≡ false
only_is_positive specs i d only = is_positive_of _ (position-Some is_positive specs i d only.first).1

-- a negative refspec has no mapping of an id
negative_id : (s : ℕ × Spec) → is_negative s.1.sign ≡ true → id_mapping s ≡ []
unfolding id_mapping
negative_id s negative = rw negative refl

-- a negative refspec maps no ref
negative_pairs : (specs : List Spec) (s : ℕ × Spec) (refs : List (ℕ × List ℕ)) → is_negative s.1.sign ≡ true
    → flat_map (pair specs s) refs ≡ []
negative_pairs specs s [] negative = refl
negative_pairs specs s (ref ∷ refs) negative =
    ap (λ l. l ++ flat_map (pair specs s) refs) (sym (unmapped_negative specs s ref negative)) ∙ negative_pairs specs s refs negative

-- a pattern isn't an id
pattern_is_no_id : (source : List ℕ) → kind_of source ≡ Pattern → is_id source ≡ false
unfolding kind_of
pattern_is_no_id source h = elim (cases_Bool (is_id source)) [
  | inl t ↦ absurd (let x = rw t at h in cc)
  | inr f ↦ f
]

no_id : (source : List ℕ) → is_id source ≡ false → is_some (id_of source) ≡ false
unfolding is_id
no_id source h = h

pattern_id : (s : ℕ × Spec) → kind_of s.1.source ≡ Pattern → id_mapping s ≡ []
unfolding id_mapping
pattern_id s pattern = made_none (is_negative s.1.sign) (id_of s.1.source) (no_id s.1.source (pattern_is_no_id s.1.source pattern)) where
  made_none : (b : Bool) (id : Option (List ℕ)) → is_some id ≡ false
      → cond b [] (option_to_list (option_map (λ id. mapped None (ObjectId id) (local_of s.1 []) s.0) id)) ≡ []
  made_none true id h = refl
  made_none false None h = refl
  made_none false (Some id) h = absurd (true≢false h)

-- the source of a pattern's needle
pub pattern_source : (source : List ℕ) (needle : Needle) (before after : Bor (List ℕ)) → IsNeedle source needle
    → needle ≡ the_pattern before after → kind_of source ≡ Pattern
pattern_source source needle before after made is = (subst (IsNeedle source) is made).0

-- the source of another needle isn't a pattern
pub other_source : (source : List ℕ) (needle : Needle) → IsNeedle source needle
    → ((before after : Bor (List ℕ)) → ¬ (needle ≡ the_pattern before after)) → ¬ (kind_of source ≡ Pattern)
other_source source the_id made other pattern = let id : kind_of source ≡ Id = made in cc
other_source source (the_pattern before after) made other pattern = other before after refl
other_source source (the_exact name) made other pattern = let exact : kind_of source ≡ Exact = made.0 in cc
other_source source (the_short name) made other pattern = let short : kind_of source ≡ Short = made.0 in cc

-- ---- the mappings of all refspecs

-- the only positive refspec of a group makes all its mappings, where it is a pattern
pub single_makes : (specs : List RefSpecRef) (names : List (List ℕ)) (i : ℕ) (d : RefSpecRef) → IsOnlyPositive specs i
    → kind_of (get_or specs i d).source.now ≡ Pattern
    → repeated (values specs) names ≡ pairs_of (values specs) names (i, value_of (get_or specs i d))
single_makes specs names i d only pattern =
    let all = values specs in
    let found = position-Some is_positive specs i d only.first in
    let last : list_any is_positive (drop (suc i) specs) ≡ false = rw add-one at only.last in
    let here : i ≡ 0 + i = omega arith in
    ap (λ l. l ++ pairs all names) (one_gives is_positive value_of id_mapping
    (λ n x h. negative_id (n, value_of x) (is_negative_of _ h)) 0 i i specs d here found.0 found.2 last
    ∙ pattern_id (i, value_of (get_or specs i d)) pattern)
    ∙ one_gives is_positive value_of (pairs_of all names)
    (λ n x h. negative_pairs all (n, value_of x) (enumerate_from 0 names) (is_negative_of _ h)) 0 i i specs d here found.0 found.2 last

-- ---- without a single refspec

module _ {A : Type 0} (p : A → Bool) where
  none_kept : (xs : List A) → length xs ≤ position_or_len p xs → filter p xs ≡ []
  none_kept [] h = refl
  none_kept (x ∷ xs) h = elim (cases_Bool (p x)) [
    | inl t ↦ absurd (let none = rw t at h in omega arith)
    | inr f ↦ rw f (none_kept xs (let more = rw f at h in omega arith))
  ]

  some_kept : (xs : List A) → list_any p xs ≡ true → ¬ (filter p xs ≡ [])
  some_kept [] any none = false≢true any
  some_kept (x ∷ xs) any none = elim (cases_Bool (p x)) [
    | inl t ↦ (let kept = rw t at none in cc)
    | inr f ↦ some_kept xs (rw f at any) (rw f at none)
  ]

  two_kept : (i : ℕ) (xs : List A) (d s : A) → i < length xs → p (get_or xs i d) ≡ true → ((j : ℕ) → j < i → p (get_or xs j d) ≡ false)
      → list_any p (drop (suc i) xs) ≡ true → ¬ (filter p xs ≡ s ∷ [])
  two_kept i [] d s within here before after lone = omega arith
  two_kept zero (x ∷ xs) d s within here before after lone =
      some_kept xs after (let kept = rw here at lone in cc)
  two_kept (suc i) (x ∷ xs) d s within here before after lone =
      two_kept i xs d s (omega arith) here (λ j l. before (suc j) (omega arith)) after
      (let first : p x ≡ false = before 0 (omega arith) in rw first at lone)

  one_kept : (i : ℕ) (xs : List A) (d : A) → i < length xs → p (get_or xs i d) ≡ true → ((j : ℕ) → j < i → p (get_or xs j d) ≡ false)
      → list_any p (drop (suc i) xs) ≡ false → filter p xs ≡ get_or xs i d ∷ []
  one_kept i [] d within here before after = absurd (omega arith)
  one_kept zero (x ∷ xs) d within here before after =
      rw here (ap (λ l. x ∷ l) (filter_none xs after)) where
        filter_none : (ys : List A) → list_any p ys ≡ false → filter p ys ≡ []
        filter_none [] h = refl
        filter_none (y ∷ ys) h = elim (cases_Bool (p y)) [
          | inl t ↦ absurd (true≢false (rw t at h))
          | inr f ↦ rw f (filter_none ys (rw f at h))
        ]
  one_kept (suc i) (x ∷ xs) d within here before after =
      let first : p x ≡ false = before 0 (omega arith) in
      rw first (one_kept i xs d (omega arith) here (λ j l. before (suc j) (omega arith)) after)

-- the positive refspecs as values
kept_values : (specs : List RefSpecRef) → filter maps_refs (values specs) ≡ values (filter is_positive specs)
kept_values [] = refl
kept_values (s ∷ specs) = elim (cases_Bool (is_positive s)) [
  | inl t ↦ rw (t, kept_values specs) refl
  | inr f ↦ rw (f, kept_values specs) refl
]

-- no refspec is positive
pub none_positive : (specs : List RefSpecRef) (s : RefSpecRef) → position is_positive specs ≡ None → ¬ (filter is_positive specs ≡ s ∷ [])
none_positive specs s none lone =
    let no : filter is_positive specs ≡ [] = none_kept is_positive specs (grind (arith, common_steps)) in cc

-- two refspecs are positive
pub two_positive : (specs : List RefSpecRef) (s d : RefSpecRef) (i : ℕ) → position is_positive specs ≡ Some i
    → list_any is_positive (drop (i + 1) specs) ≡ true → ¬ (filter is_positive specs ≡ s ∷ [])
two_positive specs s d i first another =
    let found = position-Some is_positive specs i d first in
    two_kept is_positive i specs d s found.0 found.1 found.2 (rw add-one at another)

-- no single refspec is positive
pub no_lone : (specs : List RefSpecRef) → IsPlaceOfOnly specs None → ¬ HasLonePattern (values specs)
no_lone specs none has = one_value (filter is_positive specs) none (sym (kept_values specs) ∙ has.lone) where
  one_value : (kept : List RefSpecRef) → ((s : RefSpecRef) → ¬ (kept ≡ s ∷ [])) → ¬ (values kept ≡ has.spec ∷ [])
  one_value [] none same = cc
  one_value (s ∷ []) none same = none s refl
  one_value (s ∷ t ∷ more) none same = cc

-- the only positive refspec isn't a pattern
pub no_pattern : (specs : List RefSpecRef) (i : ℕ) (d : RefSpecRef) → IsOnlyPositive specs i
    → ¬ (kind_of (get_or specs i d).source.now ≡ Pattern) → ¬ HasLonePattern (values specs)
no_pattern specs i d only other has =
    let found = position-Some is_positive specs i d only.first in
    let last : list_any is_positive (drop (suc i) specs) ≡ false = rw add-one at only.last in
    let lone : filter is_positive specs ≡ get_or specs i d ∷ [] = one_kept is_positive i specs d found.0 found.1 found.2 last in
    let same : value_of (get_or specs i d) ∷ [] ≡ has.spec ∷ [] = sym (ap values lone) ∙ sym (kept_values specs) ∙ has.lone in
    other (ap (λ s. kind_of s.source) (let one : value_of (get_or specs i d) ≡ has.spec = cc in one) ∙ has.pattern)
