-- Conflicts in byte order of their names, at most one for each name.
use Rattle.std.proofs.Common.{◌≡◌, ℕ, suc, ◌≤◌, ◌<◌, Bool, true, false, cond, List, [], ◌∷◌, ◌++◌, length, map, get_or, Option, Some, None, nat_cmp, arith, ap, sym, subst, ◌∙◌, refl, inl, inr, append_assoc}
use Rattle.std.specs.declared.cmp.Ordering.TheVariants.{Less}
use Rattle.std.specs.Prelude.{◌||◌, filter}
use Rattle.std.specs.Cmp.Lexicographic.{slice_cmp}
use Rattle.std.specs.List.{All, AllByRecursion, IsDistinct, list_all, flat_map, slice_get}
use Rattle.std.specs.List.Sorted.{IsPermutation, IsSortedByKey}
use Rattle.std.specs.Option.{option_map, option_map_or}
use Rattle.std.specs.Ordering.{is_lt, ordering_reverse}
use Rattle.std.specs.Str.{bytes_eq}
use Rattle.std.proofs.lemmas.Bool.{cases_Bool, and_parts, and_from, or_left, or_right, or_parts, false≢true, cond-true, cond-false, false_from_ne_true}
use Rattle.std.proofs.lemmas.Cmp.{nat_list_cmp_total}
use Rattle.std.proofs.lemmas.List.{map-append}
use Rattle.std.proofs.lemmas.List.Elements.{All-from_recursion, recursion_from_All, filter-append}
use Rattle.std.proofs.lemmas.List.Sorted.{All-permutation, IsPermutation-sym, ranks_by, sorted_far}
use Rattle.std.proofs.lemmas.Map.Keys.{IsDistinct-IsPermutation}
use Rattle.std.proofs.lemmas.Option.{slice_get-map}
use Rattle.std.proofs.lemmas.Slice.Eq.{bytes_eq-Decides}
use Rattle.gixp_matching.specs.declared.match_group.validate.Issue.{Issue}
use Rattle.gixp_matching.specs.Found.{text_in, found_over, found_among, is_over, destination_of}
use Rattle.gixp_matching.specs.Mappings.{Mapped}
use Rattle.gixp_refspec.specs.Spec.{Spec, text_of}
use Rattle.gixp_matching.specs.Validate.{conflict_of}
use Rattle.gixp_matching.specs.Validation.{Conflict, is_below, of_local, differ, local_names, spec_text, conflict_over, conflicts}
use Rattle.gixp_matching.specs.RefspecLaws.{is_increasing}
use Rattle.gixp_matching.proofs.FoundLemmas.{none_local}
use Rattle.gixp_matching.proofs.KeyLemmas.{bytes_eq-turned}
use Rattle.gixp_matching.proofs.LawLemmas.{has-local_names, has}
use Rattle.gixp_matching.proofs.ListLemmas.{map_same}
use Rattle.gixp_matching.proofs.SortedLemmas.{increasing-local_names, less_is, below_trans, other_below}

below_itself : (name : List ℕ) → is_below name name ≡ true → ⊥
below_itself name h =
    let less : slice_cmp nat_cmp name name ≡ Less = less_is (slice_cmp nat_cmp name name) h in
    false≢true (sym (ap (λ o. is_lt (ordering_reverse o)) less) ∙ sym (ap is_lt (nat_list_cmp_total.antisymm name name)) ∙ h)

not_among : (name : List ℕ) (names : List (List ℕ)) → list_all (is_below name) names ≡ true → has name names ≡ false
not_among name [] h = refl
not_among name (first ∷ rest) h =
    let both = and_parts (is_below name first) (list_all (is_below name) rest) h in
    let other : bytes_eq first name ≡ false =
    false_from_ne_true _ (λ t. below_itself name (ap (is_below name) (sym ((bytes_eq-Decides first name).0 t)) ∙ both.0)) in
    ap (λ b. b || has name rest) other ∙ not_among name rest both.1

all_below : (x y : List ℕ) (names : List (List ℕ)) → is_below x y ≡ true → list_all (is_below y) names ≡ true
    → list_all (is_below x) names ≡ true
all_below x y [] h all = refl
all_below x y (first ∷ rest) h all =
    let both = and_parts (is_below y first) (list_all (is_below y) rest) all in
    and_from _ _ (below_trans x y first h both.0) (all_below x y rest h both.1)

among_more : (x name : List ℕ) (names : List (List ℕ)) → has name names ≡ true → has name (x ∷ names) ≡ true
among_more x name names h = or_right (bytes_eq x name) (has name names) h

-- a name that only one list has differs from the first name of the other
differs_from : (x name : List ℕ) (xs ys : List (List ℕ)) → has x ys ≡ false → has name ys ≡ true → has name xs ≡ false
    → has name (x ∷ xs) ≡ false
differs_from x name xs ys absent there lacking =
    let other : bytes_eq x name ≡ false =
    false_from_ne_true _ (λ t. false≢true (sym absent ∙ ap (λ n. has n ys) ((bytes_eq-Decides x name).0 t) ∙ there)) in
    ap (λ b. b || has name xs) other ∙ lacking

-- the results for names in order don't depend on names without results
supported : {B : Type 0} (F : List ℕ → List B) (xs ys : List (List ℕ)) → is_increasing xs ≡ true → is_increasing ys ≡ true
    → ((name : List ℕ) → has name xs ≡ false → has name ys ≡ true → F name ≡ [])
    → ((name : List ℕ) → has name ys ≡ false → has name xs ≡ true → F name ≡ [])
    → flat_map F xs ≡ flat_map F ys
supported F [] [] up_x up_y not_x not_y = refl
supported F [] (y ∷ ys) up_x up_y not_x not_y =
    supported F [] ys up_x (and_parts (list_all (is_below y) ys) (is_increasing ys) up_y).1
    (λ name h there. not_x name h (among_more y name ys there)) (λ name h there. absurd (false≢true there))
    ∙ ap (λ l. l ++ flat_map F ys) (sym (not_x y refl (or_left _ _ ((bytes_eq-Decides y y).1 refl))))
supported F (x ∷ xs) [] up_x up_y not_x not_y =
    ap (λ l. l ++ flat_map F xs) (not_y x refl (or_left _ _ ((bytes_eq-Decides x x).1 refl)))
    ∙ supported F xs [] (and_parts (list_all (is_below x) xs) (is_increasing xs) up_x).1 up_y
    (λ name h there. absurd (false≢true there)) (λ name h there. not_y name h (among_more x name xs there))
supported F (x ∷ xs) (y ∷ ys) up_x up_y not_x not_y =
    let above_x = and_parts (list_all (is_below x) xs) (is_increasing xs) up_x in
    let above_y = and_parts (list_all (is_below y) ys) (is_increasing ys) up_y in
    elim (cases_Bool (is_below x y)) [
      | inl below ↦ (
          let absent : has x (y ∷ ys) ≡ false = not_among x (y ∷ ys) (and_from _ _ below (all_below x y ys below above_y.0)) in
          ap (λ l. l ++ flat_map F xs) (not_y x absent (or_left _ _ ((bytes_eq-Decides x x).1 refl)))
          ∙ supported F xs (y ∷ ys) above_x.1 up_y
          (λ name h there. not_x name (differs_from x name xs (y ∷ ys) absent there h) there)
          (λ name h there. not_y name h (among_more x name xs there)))
      | inr above ↦ elim (cases_Bool (bytes_eq x y)) [
        | inl t ↦ (
            let e : x ≡ y = (bytes_eq-Decides x y).0 t in
            let absent_y : has x ys ≡ false = not_among x ys (ap (λ z. list_all (is_below z) ys) e ∙ above_y.0) in
            let absent_x : has y xs ≡ false = not_among y xs (ap (λ z. list_all (is_below z) xs) (sym e) ∙ above_x.0) in
            ap (λ z. F z ++ flat_map F xs) e
            ∙ ap (λ l. F y ++ l) (supported F xs ys above_x.1 above_y.1
            (λ name h there. not_x name (differs_from x name xs ys absent_y there h) (among_more y name ys there))
            (λ name h there. not_y name (differs_from y name ys xs absent_x there h) (among_more x name xs there))))
        | inr other ↦ (
            let higher = other_below x y above other in
            let absent : has y (x ∷ xs) ≡ false = not_among y (x ∷ xs) (and_from _ _ higher (all_below y x xs higher above_x.0)) in
            supported F (x ∷ xs) ys up_x above_y.1
            (λ name h there. not_x name h (among_more y name ys there))
            (λ name h there. not_y name (differs_from y name ys (x ∷ xs) absent there h) there)
            ∙ ap (λ l. l ++ flat_map F ys) (sym (not_x y absent (or_left _ _ ((bytes_eq-Decides y y).1 refl)))))
      ]
    ]

-- ---- conflicts that are the results for their names

-- two issues are over the same name
abbrev over_one_name : Issue → Issue → Bool
over_one_name a b = bytes_eq (destination_of a) (destination_of b)

-- the issues are all results for their names, at most one for each name, and other names have no results
pub record AreOver (F : List ℕ → List Conflict) (issues : List Issue) : Type 0 where
  pub each : All (λ issue. F (destination_of issue) ≡ conflict_of issue ∷ []) issues
  pub once : IsDistinct over_one_name issues
  pub others : (name : List ℕ) → All (λ issue. is_over name (conflict_of issue) ≡ false) issues → F name ≡ []

-- a list with at most one element has nothing next to it
alone : {X : Type 0} (front back : List X) (x : X) → length (front ++ x ∷ back) ≤ 1 → (front ≡ []) × (back ≡ [])
alone [] [] x h = (refl, refl)
alone [] (y ∷ back) x h = absurd (omega (arith, h))
alone (y ∷ []) back x h = absurd (omega (arith, h))
alone (y ∷ z ∷ front) back x h = absurd (omega (arith, h))

none_pass : (name : List ℕ) (issues : List Issue) → AllByRecursion (λ issue. is_over name (conflict_of issue) ≡ false) issues
    → filter (is_over name) (map conflict_of issues) ≡ []
none_pass name [] h = refl
none_pass name (issue ∷ issues) h = cond-false _ _ _ h.0 ∙ none_pass name issues h.1

none_passed : (name : List ℕ) (issues : List Issue) → filter (is_over name) (map conflict_of issues) ≡ []
    → AllByRecursion (λ issue. is_over name (conflict_of issue) ≡ false) issues
none_passed name [] h = tt
none_passed name (issue ∷ issues) h = elim (cases_Bool (is_over name (conflict_of issue))) [
  | inl t ↦ (let clash : conflict_of issue ∷ filter (is_over name) (map conflict_of issues) ≡ [] = sym (cond-true _ _ _ t) ∙ h in cc)
  | inr f ↦ (f, none_passed name issues (sym (cond-false _ _ _ f) ∙ h))
]

module _ (F : List ℕ → List Conflict) (short : (name : List ℕ) → length (F name) ≤ 1) where
  -- the name of an issue has no other result
  one_of : (front back : List Issue) (issue : Issue)
      → ((name : List ℕ) → filter (is_over name) (map conflict_of (front ++ issue ∷ back)) ≡ F name)
      → (F (destination_of issue) ≡ conflict_of issue ∷ []) × (filter (is_over (destination_of issue)) (map conflict_of back) ≡ [])
  one_of front back issue is =
      let name = destination_of issue in
      let before = filter (is_over name) (map conflict_of front) in
      let after = filter (is_over name) (map conflict_of back) in
      let parts : F name ≡ before ++ conflict_of issue ∷ after =
      sym (is name) ∙ ap (filter (is_over name)) (map-append conflict_of front (issue ∷ back))
      ∙ filter-append (is_over name) (map conflict_of front) (conflict_of issue ∷ map conflict_of back)
      ∙ ap (λ l. before ++ l) (cond-true _ _ _ ((bytes_eq-Decides name name).1 refl)) in
      let few : length (before ++ conflict_of issue ∷ after) ≤ 1 = subst (λ l. length l ≤ 1) parts (short name) in
      let both = alone before after (conflict_of issue) few in (
        parts ∙ ap (λ l. l ++ conflict_of issue ∷ after) both.0 ∙ ap (λ l. conflict_of issue ∷ l) both.1,
        both.1,
      )

  each_of : (front back : List Issue) → ((name : List ℕ) → filter (is_over name) (map conflict_of (front ++ back)) ≡ F name)
      → AllByRecursion (λ issue. F (destination_of issue) ≡ conflict_of issue ∷ []) back
  each_of front [] is = tt
  each_of front (issue ∷ back) is = (
    (one_of front back issue is).0,
    each_of (front ++ issue ∷ []) back
        (λ name. ap (λ l. filter (is_over name) (map conflict_of l)) (append_assoc front (issue ∷ []) back) ∙ is name),
  )

  turned : (issue : Issue) (back : List Issue) → AllByRecursion (λ other. is_over (destination_of issue) (conflict_of other) ≡ false) back
      → AllByRecursion (λ other. over_one_name issue other ≡ false) back
  turned issue [] h = tt
  turned issue (other ∷ back) h = (bytes_eq-turned (destination_of issue) (destination_of other) ∙ h.0, turned issue back h.1)

  once_of : (front back : List Issue) → ((name : List ℕ) → filter (is_over name) (map conflict_of (front ++ back)) ≡ F name)
      → IsDistinct over_one_name back
  unfolding IsDistinct
  once_of front [] is = tt
  once_of front (issue ∷ back) is = (
    turned issue back (none_passed (destination_of issue) back (one_of front back issue is).1),
    once_of (front ++ issue ∷ []) back
        (λ name. ap (λ l. filter (is_over name) (map conflict_of l)) (append_assoc front (issue ∷ []) back) ∙ is name),
  )

  -- issues that are found by their names
  by_names : (issues : List Issue) → ((name : List ℕ) → filter (is_over name) (map conflict_of issues) ≡ F name) → AreOver F issues
  by_names issues is = record {
    each = All-from_recursion _ issues (each_of [] issues is);
    once = once_of [] issues is;
    others = λ name none. sym (is name) ∙ none_pass name issues (recursion_from_All _ issues none);
  }

-- the order of the issues doesn't matter
over_moved : (F : List ℕ → List Conflict) (old new : List Issue) → IsPermutation old new → AreOver F old → AreOver F new
over_moved F old new moved are = record {
  each = All-permutation (λ issue. F (destination_of issue) ≡ conflict_of issue ∷ []) old new moved are.each;
  once = IsDistinct-IsPermutation over_one_name (λ a b. bytes_eq-turned (destination_of a) (destination_of b)) old new moved are.once;
  others = λ name none. are.others name
      (All-permutation (λ issue. is_over name (conflict_of issue) ≡ false) new old (IsPermutation-sym old new moved) none);
}

-- ---- their order

abbrev issue_lt : Issue → Issue → Bool
issue_lt x y = is_below (destination_of x) (destination_of y)

-- the first of sorted issues is below all later ones, which are over other names
all_above : (issue : Issue) (issues : List Issue) → AllByRecursion (λ y. over_one_name issue y ≡ false) issues
    → ((k : ℕ) → k < length issues → issue_lt (get_or issues k issue) issue ≡ false)
    → list_all (is_below (destination_of issue)) (map destination_of issues) ≡ true
all_above issue issues once h = all issues once h where
  all : (ys : List Issue) → AllByRecursion (λ y. over_one_name issue y ≡ false) ys
      → ((k : ℕ) → k < length ys → issue_lt (get_or ys k issue) issue ≡ false)
      → list_all (is_below (destination_of issue)) (map destination_of ys) ≡ true
  all [] different far = refl
  all (y ∷ ys) different far =
      and_from _ _ (other_below (destination_of y) (destination_of issue) (far 0 (omega arith))
      (bytes_eq-turned (destination_of y) (destination_of issue) ∙ different.0))
      (all ys different.1 (λ k p. far (suc k) (omega arith)))

increasing : (issues : List Issue) → IsDistinct over_one_name issues
    → ((i j : ℕ) (d : Issue) → i ≤ j → j < length issues → issue_lt (get_or issues j d) (get_or issues i d) ≡ false)
    → is_increasing (map destination_of issues) ≡ true
unfolding IsDistinct
increasing [] once far = refl
increasing (issue ∷ issues) once far =
    and_from _ _ (all_above issue issues once.0 (λ k p. far 0 (suc k) issue (omega arith) (omega arith)))
    (increasing issues once.1 (λ i j d p q. far (suc i) (suc j) d (omega arith) (omega arith)))

-- the issues are the results for their names
made : (F : List ℕ → List Conflict) (issues : List Issue)
    → AllByRecursion (λ issue. F (destination_of issue) ≡ conflict_of issue ∷ []) issues
    → map conflict_of issues ≡ flat_map F (map destination_of issues)
made F [] h = refl
made F (issue ∷ issues) h =
    ap (λ l. conflict_of issue ∷ l) (made F issues h.1) ∙ ap (λ l. l ++ flat_map F (map destination_of issues)) (sym h.0)

-- ---- the conflicts of mappings

-- the texts at hand are the refspecs' texts
same_text : (specs : List Spec) (m : Mapped) → text_in (map text_of specs) m ≡ spec_text specs m
same_text specs m = ap (λ o. option_map_or (λ text. text) o []) (slice_get-map text_of specs m.spec) ∙ at (slice_get specs m.spec) where
  at : (o : Option Spec) → option_map_or (λ text. text) (option_map text_of o) [] ≡ option_map_or text_of o []
  at None = refl
  at (Some spec) = refl

same_over : (texts : List (List ℕ)) (specs : List Spec) → texts ≡ map text_of specs → (name : List ℕ) (group : List Mapped)
    → found_over texts name group ≡ conflict_over specs name group
same_over texts specs is name group =
    ap (λ t. found_over t name group) is
    ∙ ap (λ l. cond (differ group) (record { destination = name; specs = l; sources = map (λ m. m.source) group } ∷ []) [])
    (map_same (text_in (map text_of specs)) (spec_text specs) (same_text specs) group)

one_at_most : (texts : List (List ℕ)) (ms : List Mapped) (name : List ℕ) → length (found_among texts ms name) ≤ 1
one_at_most texts ms name = elim (cases_Bool (differ (of_local name ms))) [
  | inl t ↦ (let e : length (found_among texts ms name) ≡ 1 = ap length (cond-true _ _ _ t) in omega (arith, e))
  | inr f ↦ (let e : length (found_among texts ms name) ≡ 0 = ap length (cond-false _ _ _ f) in omega (arith, e))
]

flat_map_same : {A B : Type 0} (f h : A → List B) → ((x : A) → f x ≡ h x) → (xs : List A) → flat_map f xs ≡ flat_map h xs
flat_map_same f h e [] = refl
flat_map_same f h e (x ∷ xs) = ap (λ l. l ++ flat_map f xs) (e x) ∙ ap (λ l. h x ++ l) (flat_map_same f h e xs)

none_has : (name : List ℕ) (issues : List Issue) → has name (map destination_of issues) ≡ false
    → All (λ issue. is_over name (conflict_of issue) ≡ false) issues
none_has name issues h = All-from_recursion _ issues (each issues h) where
  each : (ys : List Issue) → has name (map destination_of ys) ≡ false
      → AllByRecursion (λ issue. is_over name (conflict_of issue) ≡ false) ys
  each [] e = tt
  each (y ∷ ys) e = let both = or_parts (is_over name (conflict_of y)) (has name (map destination_of ys)) e in (both.0, each ys both.1)

-- the issues that were found and sorted are the conflicts
pub conflicts_from_issues : (specs : List Spec) (texts : List (List ℕ)) (ms : List Mapped) (old new : List Issue)
    → texts ≡ map text_of specs
    → ((name : List ℕ) → filter (is_over name) (map conflict_of old) ≡ found_among texts ms name) → IsPermutation old new
    → IsSortedByKey destination_of (slice_cmp nat_cmp) new → map conflict_of new ≡ conflicts specs ms
unfolding conflicts
conflicts_from_issues specs texts ms old new same is moved up =
    let F = found_among texts ms in
    let are = over_moved F old new moved (by_names F (one_at_most texts ms) old is) in
    made F new (recursion_from_All _ new are.each)
    ∙ supported F (map destination_of new) (local_names ms)
    (increasing new are.once (sorted_far issue_lt (ranks_by nat_list_cmp_total destination_of) new up)) (increasing-local_names ms)
    (λ name h there. are.others name (none_has name new h))
    (λ name h there. ap (found_over texts name) (none_local name ms (sym (has-local_names name ms) ∙ h)))
    ∙ flat_map_same F (λ name. conflict_over specs name (of_local name ms)) (λ name. same_over texts specs same name (of_local name ms))
    (local_names ms)
