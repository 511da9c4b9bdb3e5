-- Refs sorted by name.
use Rattle.std.proofs.Common.{◌≡◌, ℕ, ◌+◌, ◌≤◌, ◌<◌, Bool, true, false, cond, List, [], ◌∷◌, ◌++◌, length, take, drop, map, get_or, Option, Ordering, Less, Equal, Greater, ap, sym, subst, ◌∙◌, refl, inl, inr, arith}
use Rattle.std.specs.Prelude.{◌&&◌, not, filter, Result, Ok, Err, OnOk}
use Rattle.std.specs.Borrow.{Bor}
use Rattle.std.specs.Cmp.Lexicographic.{slice_cmp}
use Rattle.std.specs.List.{All, AllByRecursion, flat_map, enumerate_from}
use Rattle.std.specs.List.Sorted.{IsPartitionedBy, IsPartitionPoint, IsStableBy, ties}
use Rattle.std.specs.Ordering.{is_lt, is_eq, nat_cmp, ordering_reverse}
use Rattle.std.specs.Str.{bytes_eq}
use Rattle.std.proofs.lemmas.Bool.{cases_Bool, cond-true, cond-false, false≢true}
use Rattle.std.proofs.lemmas.Cmp.{nat_list_cmp_total}
use Rattle.std.proofs.lemmas.List.{get_or-take, get_or-drop, length-take-le, length-drop, take-append-drop, append-nil}
use Rattle.std.proofs.lemmas.List.Elements.{filter-append, recursion_from_All}
use Rattle.std.proofs.lemmas.List.Kept.{IsSortedBy-filter}
use Rattle.std.proofs.lemmas.List.Sorted.{ranks_by, sorted_far}
use Rattle.std.proofs.lemmas.Map.Text.{is_eq-slice_cmp}
use Rattle.std.proofs.lemmas.Slice.Eq.{bytes_eq-Decides}
use Rattle.gixp_matching.specs.declared.match_group.rows.Row.{Row}
use Rattle.gixp_refspec.specs.declared.needle.Needle.TheVariants.{Id as the_id, Exact as the_exact}
use Rattle.gixp_refspec.specs.Spec.{Spec, is_negative}
use Rattle.gixp_refspec.specs.Matching.{where_true}
use Rattle.gixp_matching.specs.Places.{pair_places, places_with}
use Rattle.gixp_refspec.specs.Needle.{IsNeedle}
use Rattle.gixp_matching.specs.Rows.{shown, is_row_of, AreByName, meant, IsRowTable, AreSought}
use Rattle.gixp_matching.specs.Sought.{sought_by, is_among}
use Rattle.gixp_matching.specs.Validation.{is_below}
use Rattle.gixp_matching.proofs.KeyLemmas.{bytes_eq-turned}
use Rattle.gixp_matching.proofs.ListLemmas.{kept_same, filter_of_map}
use Rattle.gixp_matching.proofs.NeedleLemmas.{middle_with-needle}
use Rattle.gixp_matching.proofs.PairLemmas.{pair_none, pair_negative}
use Rattle.gixp_matching.proofs.SoughtLemmas.{exact_sought}
use Rattle.gixp_matching.proofs.SortedLemmas.{below_trans, other_below}

-- ---- the elements of a list that pass

module _ {X : Type 0} where
  filter_all : (p : X → Bool) (xs : List X) → AllByRecursion (λ x. p x ≡ true) xs → filter p xs ≡ xs
  filter_all p [] h = refl
  filter_all p (x ∷ xs) h = cond-true _ _ _ h.0 ∙ ap (λ r. x ∷ r) (filter_all p xs h.1)

  filter_none : (p : X → Bool) (xs : List X) → AllByRecursion (λ x. p x ≡ false) xs → filter p xs ≡ []
  filter_none p [] h = refl
  filter_none p (x ∷ xs) h = cond-false _ _ _ h.0 ∙ filter_none p xs h.1

  filter_twice : (p q : X → Bool) (xs : List X) → filter p (filter q xs) ≡ filter (λ x. q x && p x) xs
  filter_twice p q [] = refl
  filter_twice p q (x ∷ xs) = elim (cases_Bool (q x)) [
    | inl t ↦ rw t (ap (λ r. cond (p x) (x ∷ r) r) (filter_twice p q xs))
    | inr f ↦ rw f (filter_twice p q xs)
  ]

  -- up to a partition point all elements pass, and after it none
  front_passes : (p : X → Bool) (xs : List X) (i : ℕ) → i ≤ length xs → IsPartitionPoint (λ y. p y ≡ true) (λ y. p y ≡ false) xs i
      → All (λ y. p y ≡ true) (take i xs)
  front_passes p xs i l h = λ k d m.
      let within : k < i = subst (λ n. k < n) (length-take-le i xs l) m in
      ap p (get_or-take i xs k d within) ∙ h.0 k d (omega arith) within

  back_fails : (p : X → Bool) (xs : List X) (i : ℕ) → i ≤ length xs → IsPartitionPoint (λ y. p y ≡ true) (λ y. p y ≡ false) xs i
      → All (λ y. p y ≡ false) (drop i xs)
  back_fails p xs i l h = λ k d m.
      let within : i + k < length xs = omega (arith, length-drop i xs) in
      ap p (get_or-drop i xs k d) ∙ h.1 (i + k) d (omega arith) within

  filter_split : (p : X → Bool) (xs : List X) (i : ℕ) → i ≤ length xs → IsPartitionPoint (λ y. p y ≡ true) (λ y. p y ≡ false) xs i
      → filter p xs ≡ take i xs
  filter_split p xs i l h =
      ap (filter p) (sym (take-append-drop i xs)) ∙ filter-append p (take i xs) (drop i xs)
      ∙ ap (λ z. z ++ filter p (drop i xs)) (filter_all p (take i xs) (recursion_from_All _ _ (front_passes p xs i l h)))
      ∙ ap (λ z. take i xs ++ z) (filter_none p (drop i xs) (recursion_from_All _ _ (back_fails p xs i l h))) ∙ append-nil (take i xs)

  all_turned : (p : X → Bool) (b : Bool) (xs : List X) → AllByRecursion (λ x. p x ≡ b) xs → AllByRecursion (λ x. not (p x) ≡ not b) xs
  all_turned p b [] h = tt
  all_turned p b (x ∷ xs) h = (ap not h.0, all_turned p b xs h.1)

  rest_split : (p : X → Bool) (xs : List X) (i : ℕ) → i ≤ length xs → IsPartitionPoint (λ y. p y ≡ true) (λ y. p y ≡ false) xs i
      → filter (λ x. not (p x)) xs ≡ drop i xs
  rest_split p xs i l h =
      let q : X → Bool = λ x. not (p x) in
      ap (filter q) (sym (take-append-drop i xs)) ∙ filter-append q (take i xs) (drop i xs)
      ∙ ap (λ z. z ++ filter q (drop i xs)) (filter_none q (take i xs)
      (all_turned p true (take i xs) (recursion_from_All _ _ (front_passes p xs i l h))))
      ∙ filter_all q (drop i xs) (all_turned p false (drop i xs) (recursion_from_All _ _ (back_fails p xs i l h)))

  -- elements with no results may be left out
  pub flat_map-filter : {B : Type 0} (f : X → List B) (p : X → Bool) → ((x : X) → p x ≡ false → f x ≡ []) → (xs : List X)
      → flat_map f (filter p xs) ≡ flat_map f xs
  flat_map-filter f p none [] = refl
  flat_map-filter f p none (x ∷ xs) = elim (cases_Bool (p x)) [
    | inl t ↦ ap (flat_map f) (cond-true _ _ _ t) ∙ ap (λ l. f x ++ l) (flat_map-filter f p none xs)
    | inr e ↦ ap (flat_map f) (cond-false _ _ _ e) ∙ flat_map-filter f p none xs ∙ sym (ap (λ l. l ++ flat_map f xs) (none x e))
  ]

-- ---- the order of names

pub neither : (o : Ordering) → (not (is_lt o) && not (is_lt (ordering_reverse o))) ≡ is_eq o
neither Less = refl
neither Equal = refl
neither Greater = refl

equal_or : (a b : List ℕ) → (not (is_below a b) && not (is_below b a)) ≡ bytes_eq a b
equal_or a b =
    ap (λ o. not (is_below a b) && not (is_lt o)) (nat_list_cmp_total.antisymm b a) ∙ neither (slice_cmp nat_cmp a b) ∙ is_eq-slice_cmp a b

below_from : (a b c : List ℕ) → is_below b a ≡ false → is_below b c ≡ true → is_below a c ≡ true
below_from a b c h k = elim (cases_Bool (bytes_eq b a)) [
  | inl t ↦ ap (λ x. is_below x c) (sym ((bytes_eq-Decides b a).0 t)) ∙ k
  | inr f ↦ below_trans a b c (other_below b a h f) k
]

until_from : (a b c : List ℕ) → is_below b a ≡ false → not (is_below c b) ≡ true → not (is_below c a) ≡ true
until_from a b c h k = elim (cases_Bool (is_below c a)) [
  | inl t ↦ (
      let above : is_below c b ≡ true = elim (cases_Bool (bytes_eq b a)) [
        | inl e ↦ ap (is_below c) ((bytes_eq-Decides b a).0 e) ∙ t
        | inr f ↦ below_trans c a b t (other_below b a h f)
      ] in
      absurd (false≢true (sym (ap not above) ∙ k)))
  | inr f ↦ ap not f
]

abbrev row_lt : Row → Row → Bool
row_lt x y = is_lt (slice_cmp nat_cmp x.name.now y.name.now)

-- sorted rows are partitioned by each name
pub parted_before : (name : List ℕ) (rows : List Row) → AreByName rows → IsPartitionedBy (λ (row : Row). is_below row.name.now name) rows
parted_before name rows up = λ i j d le l t.
    below_from (get_or rows i d).name.now (get_or rows j d).name.now name
    (sorted_far row_lt (ranks_by nat_list_cmp_total (λ row. row.name.now)) rows up i j d le l) t

pub parted_until : (name : List ℕ) (rows : List Row) → AreByName rows
    → IsPartitionedBy (λ (row : Row). not (is_below name row.name.now)) rows
parted_until name rows up = λ i j d le l t.
    until_from (get_or rows i d).name.now (get_or rows j d).name.now name
    (sorted_far row_lt (ranks_by nat_list_cmp_total (λ row. row.name.now)) rows up i j d le l) t

-- the rows after those before a name are sorted too
pub rest_in_order : (name : List ℕ) (rows : List Row) (i : ℕ) → AreByName rows → i ≤ length rows
    → IsPartitionPoint (λ (row : Row). is_below row.name.now name ≡ true) (λ row. is_below row.name.now name ≡ false) rows i
    → AreByName (drop i rows)
rest_in_order name rows i up l h =
    subst AreByName (rest_split (λ (row : Row). is_below row.name.now name) rows i l h)
    (IsSortedBy-filter row_lt (ranks_by nat_list_cmp_total (λ row. row.name.now)) (λ (row : Row). not (is_below row.name.now name)) rows up)

-- the rows between the two partition points have the name
pub rows_between : (name : List ℕ) (rows : List Row) (i n : ℕ) → i ≤ length rows → n ≤ length (drop i rows)
    → IsPartitionPoint (λ (row : Row). is_below row.name.now name ≡ true) (λ row. is_below row.name.now name ≡ false) rows i
    → IsPartitionPoint (λ (row : Row). not (is_below name row.name.now) ≡ true) (λ row. not (is_below name row.name.now) ≡ false)
    (drop i rows) n
    → take n (drop i rows) ≡ filter (is_row_of name) rows
rows_between name rows i n l m h k =
    sym (filter_split (λ (row : Row). not (is_below name row.name.now)) (drop i rows) n m k)
    ∙ ap (filter (λ (row : Row). not (is_below name row.name.now)))
    (sym (rest_split (λ (row : Row). is_below row.name.now name) rows i l h))
    ∙ filter_twice (λ (row : Row). not (is_below name row.name.now)) (λ (row : Row). not (is_below row.name.now name)) rows
    ∙ kept_same _ _ (λ row. equal_or row.name.now name) rows

-- a stable sort by name keeps the order of the rows with one name
pub named_stays : (old new : List Row) → IsStableBy row_lt old new → (name : List ℕ)
    → filter (is_row_of name) new ≡ filter (is_row_of name) old
named_stays old new stable name =
    let row : Row = record { name = record { ref_ptr = (0, 0); now = name }; place = 0 } in
    let same = λ (x : Row). sym (equal_or name x.name.now ∙ bytes_eq-turned name x.name.now) in
    kept_same (is_row_of name) (ties row_lt row) same new ∙ stable row ∙ sym (kept_same (is_row_of name) (ties row_lt row) same old)

both_is_second : (a b : Bool) → (b ≡ true → a ≡ true) → (a && b) ≡ b
both_is_second true b h = refl
both_is_second false true h = h refl
both_is_second false false h = refl

-- the refs with a name are among those whose names are looked up, if this one is
named_sought : (q : List ℕ → Bool) (name : List ℕ) (refs : List (ℕ × List ℕ)) → q name ≡ true
    → filter (λ ref. bytes_eq ref.1 name) (filter (λ ref. q ref.1) refs) ≡ filter (λ ref. bytes_eq ref.1 name) refs
named_sought q name refs is =
    filter_twice (λ (ref : ℕ × List ℕ). bytes_eq ref.1 name) (λ ref. q ref.1) refs
    ∙ kept_same (λ (ref : ℕ × List ℕ). q ref.1 && bytes_eq ref.1 name) (λ ref. bytes_eq ref.1 name)
    (λ ref. both_is_second (q ref.1) (bytes_eq ref.1 name) (λ e. ap q ((bytes_eq-Decides ref.1 name).0 e) ∙ is)) refs

-- the table has the refs whose names are looked up, sorted
pub table_is : (texts names : List (List ℕ)) (q : List ℕ → Bool) (rows sorted : List Row)
    → map shown rows ≡ filter (λ ref. q ref.1) (enumerate_from 0 names) → ((text : List ℕ) → q text ≡ is_among texts text)
    → AreByName sorted → ((name : List ℕ) → filter (is_row_of name) sorted ≡ filter (is_row_of name) rows)
    → IsRowTable texts names sorted
table_is texts names q rows sorted listed has up same = record {
  in_order = up;
  has_all = λ name is. ap (map shown) (same name) ∙ sym (filter_of_map (λ ref. bytes_eq ref.1 name) shown rows)
      ∙ ap (filter (λ ref. bytes_eq ref.1 name)) listed ∙ named_sought q name (enumerate_from 0 names) (has name ∙ is);
}

-- ---- short names

pub meant_none : (all : List (List ℕ)) → [] ≡ meant all []
meant_none all = sym (filter_none (λ ref. false) (enumerate_from 0 all) (none (enumerate_from 0 all))) where
  none : (xs : List (ℕ × List ℕ)) → AllByRecursion (λ x. false ≡ false) xs
  none [] = tt
  none (x ∷ xs) = (refl, none xs)

-- ---- the places of refs that were looked up

pub on_ok : {X E : Type 0} (r : Result X E) (P Q : Type 0) → (P → Q) → OnOk r P → OnOk r Q
on_ok (Ok x) P Q f h = f h
on_ok (Err e) P Q f h = h

-- a refspec that matches nothing has no place
pub nothing_placed : (specs : List Spec) (all : List (List ℕ)) (s : ℕ × Spec) (now : List (Option ℕ × ℕ))
    → ((ref : ℕ × List ℕ) → [] ≡ pair_places specs s ref) → now ≡ now ++ places_with specs all s
nothing_placed specs all s now none = sym (ap (λ l. now ++ l) (empty (enumerate_from 0 all)) ∙ append-nil now) where
  empty : (refs : List (ℕ × List ℕ)) → flat_map (pair_places specs s) refs ≡ []
  empty [] = refl
  empty (ref ∷ refs) = ap (λ l. l ++ flat_map (pair_places specs s) refs) (sym (none ref)) ∙ empty refs

-- an id matches no name
pub id_placed : (specs : List Spec) (all : List (List ℕ)) (s : ℕ × Spec) (now : List (Option ℕ × ℕ))
    → IsNeedle s.1.source the_id → now ≡ now ++ places_with specs all s
id_placed specs all s now made =
    nothing_placed specs all s now (λ ref. pair_none specs s ref (sym (middle_with-needle s.1.source ref.1 the_id made)))

-- a negative refspec has no place
pub negative_placed : (specs : List Spec) (all : List (List ℕ)) (s : ℕ × Spec) (now : List (Option ℕ × ℕ)) → is_negative s.1.sign ≡ true
    → now ≡ now ++ places_with specs all s
negative_placed specs all s now negative = nothing_placed specs all s now (λ ref. pair_negative specs s ref negative)

-- an exact name has the places of the refs with this name
pub exact_placed : (specs : List Spec) (texts all : List (List ℕ)) (s : ℕ × Spec) (name : Bor (List ℕ)) (rows run : List Row)
    (now new : List (Option ℕ × ℕ)) → IsNeedle s.1.source (the_exact name) → is_negative s.1.sign ≡ false → IsRowTable texts all rows
    → AreSought texts (sought_by s.1) → run ≡ filter (is_row_of name.now) rows
    → new ≡ now ++ flat_map (pair_places specs s) (map shown run) → new ≡ now ++ places_with specs all s
exact_placed specs texts all s name rows run now new made positive table has was step =
    step ∙ ap (λ l. now ++ flat_map (pair_places specs s) l) (ap (map shown) was
    ∙ table.has_all name.now (has name.now (exact_sought s.1 name positive made)))
    ∙ ap (λ l. now ++ l) (flat_map-filter (pair_places specs s) (λ ref. bytes_eq ref.1 name.now)
    (λ ref other. sym (pair_none specs s ref (sym (middle_with-needle s.1.source ref.1 (the_exact name) made) ∙ ap where_true other)))
    (enumerate_from 0 all))
