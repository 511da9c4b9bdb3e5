-- Which keys of a sorted list of rows repeat an earlier key. A row is a key and its position in the original list.
use Rattle.std.proofs.Common.{◌≡◌, ℕ, ◌+◌, ◌<◌, ◌≤◌, zero, suc, Bool, true, false, cond, List, [], ◌∷◌, length, get_or, replicate, Ordering, Less, Equal, Greater, IsPermutation, refl, sym, ap, subst, ◌∙◌, inl, inr, arith}
use Rattle.std.specs.Prelude.{◌&&◌, ◌||◌, ◌==◌, ◌⊎◌, nat_lt, not}
use Rattle.std.specs.Cmp.{IsTotalOrder}
use Rattle.std.specs.List.{AllByRecursion, IsDistinct, list_any, slice_set}
use Rattle.std.specs.List.Sorted.{IsSorted, IsStrictlySortedBy}
use Rattle.std.specs.Ordering.{is_eq, is_lt, nat_cmp, eq_by_cmp, ordering_reverse, ordering_then}
use Rattle.std.proofs.lemmas.Bool.{cases_Bool, and_parts, eqb-true, ltb-true, false≢true, or_left}
use Rattle.std.proofs.lemmas.Cmp.{nat_cmp_total, on_total, then_total}
use Rattle.std.proofs.lemmas.List.Sorted.{list_any-IsPermutation}
use Rattle.std.proofs.lemmas.Map.Keys.{IsDistinct-IsPermutation, sorted_from_all_adjacent}
use Rattle.gixp_utils.specs.Repeats.{is_before, is_repeat, marked_after, marked, tested_from}

-- ---- tests of the positions of a list

pub eqb_other : (j k : ℕ) → j < k → (j == k) ≡ false
eqb_other j k l = grind arith

pub eqb_later : (j k : ℕ) → k < j → (j == k) ≡ false
eqb_later j k l = grind arith

and_true : (b : Bool) → (b && not false) ≡ b
and_true true = refl
and_true false = refl

and_false : (b : Bool) → (b && not true) ≡ false
and_false true = refl
and_false false = refl

module _ {A : Type 0} where
  -- tests that agree from position n on
  pub tested_same : (t s : ℕ → Bool) (n : ℕ) (xs : List A) → ((q : ℕ) → n ≤ q → t q ≡ s q) → tested_from t n xs ≡ tested_from s n xs
  tested_same t s n [] h = refl
  tested_same t s n (x ∷ xs) h = rw (h n (omega arith), tested_same t s (n + 1) xs (λ q l. h q (omega arith))) refl

  -- every flag is still set
  pub tested_all : (n : ℕ) (xs : List A) → replicate (length xs) true ≡ tested_from (λ p. true) n xs
  tested_all n [] = refl
  tested_all n (x ∷ xs) = ap (λ l. true ∷ l) (tested_all (n + 1) xs)

  -- one flag is cleared
  tested_set : (t : ℕ → Bool) (n k : ℕ) (xs : List A)
      → slice_set (tested_from t n xs) k false ≡ tested_from (λ q. t q && not (n + k == q)) n xs
  tested_set t n k [] = refl
  tested_set t n zero (x ∷ xs) =
      let itself : (n + 0 == n) ≡ true = grind arith in
      let here : (t n && not (n + 0 == n)) ≡ false = rw itself (and_false (t n)) in
      let there = tested_same t (λ q. t q && not (n + 0 == q)) (n + 1) xs
      (λ q l. sym (rw (eqb_other (n + 0) q (omega arith)) (and_true (t q)))) in
      rw (here, ← there) refl
  tested_set t n (suc k) (x ∷ xs) =
      let here : (t n && not (n + suc k == n)) ≡ t n = rw (eqb_later (n + suc k) n (omega arith)) (and_true (t n)) in
      let same : n + 1 + k ≡ n + suc k = omega arith in
      let there : slice_set (tested_from t (n + 1) xs) k false ≡ tested_from (λ q. t q && not (n + suc k == q)) (n + 1) xs =
      tested_set t (n + 1) k xs ∙ ap (λ m. tested_from (λ q. t q && not (m == q)) (n + 1) xs) same in
      rw (here, ← there) refl

  -- one flag is cleared, or none
  tested_set_if : (b : Bool) (t : ℕ → Bool) (k : ℕ) (xs : List A)
      → cond b (slice_set (tested_from t 0 xs) k false) (tested_from t 0 xs) ≡ tested_from (λ q. t q && not (b && (k == q))) 0 xs
  tested_set_if true t k xs = tested_set t 0 k xs ∙ ap (λ m. tested_from (λ q. t q && not (m == q)) 0 xs) (omega arith)
  tested_set_if false t k xs = tested_same t _ 0 xs (λ q l. sym (and_true (t q)))

-- ---- tests of lists

any_same : {X : Type 0} (f g : X → Bool) (xs : List X) → AllByRecursion (λ x. f x ≡ g x) xs → list_any f xs ≡ list_any g xs
any_same f g [] h = refl
any_same f g (x ∷ xs) h = rw (h.0, any_same f g xs h.1) refl

any_alike : {X : Type 0} (f g : X → Bool) (xs : List X) → ((x : X) → f x ≡ g x) → list_any f xs ≡ list_any g xs
any_alike f g [] h = refl
any_alike f g (x ∷ xs) h = rw (h x, any_alike f g xs h) refl

any_none : {X : Type 0} (f : X → Bool) (xs : List X) → AllByRecursion (λ x. f x ≡ false) xs → list_any f xs ≡ false
any_none f [] h = refl
any_none f (x ∷ xs) h = rw (h.0, any_none f xs h.1) refl

all_mapped : {X : Type 0} {P Q : X → Type 0} (xs : List X) → ((x : X) → P x → Q x) → AllByRecursion P xs → AllByRecursion Q xs
all_mapped [] f h = tt
all_mapped (x ∷ xs) f h = (f x h.0, all_mapped xs f h.1)

no_more : (x b s : Bool) → (x ≡ true → b ≡ true → s ≡ true) → (x && (b || s)) ≡ (x && s)
no_more false b s h = refl
no_more true false s h = refl
no_more true true s h = sym (h refl refl)

taken_either : (t a c : Bool) → ((t && not a) && not c) ≡ (t && not (a || c))
taken_either false a c = refl
taken_either true false c = refl
taken_either true true c = refl

not_both : (x y : Bool) → (x ≡ true → y ≡ true → ⊥) → (x && y) ≡ false
not_both false y h = refl
not_both true false h = refl
not_both true true h = absurd (h refl refl)

and_alike : (x y z : Bool) → (x ≡ true → y ≡ z) → (y && x) ≡ (x && z)
and_alike true true z h = h refl
and_alike true false z h = h refl
and_alike false true z h = refl
and_alike false false z h = refl

-- ---- sorted rows

less_is : (x y : Ordering) → ordering_then x y ≡ Less → (x ≡ Less) ⊎ ((x ≡ Equal) × (y ≡ Less))
less_is Less y h = inl refl
less_is Equal y h = inr (refl, h)
less_is Greater y h = cc

nat_less : (j k : ℕ) → nat_cmp j k ≡ Less → j < k
nat_less j k h = elim (cases_Bool (nat_lt j k)) [
  | inl l ↦ ltb-true j k l
  | inr n ↦ elim (cases_Bool (j == k)) [
    | inl e ↦ absurd (let x = rw (n, e) at h in cc)
    | inr d ↦ absurd (let x = rw (n, d) at h in cc)
  ]
]

not_both_ways : (x : Ordering) → x ≡ Less → x ≡ Equal → ⊥
not_both_ways x h k = cc

equal_is : (x : Ordering) → is_eq x ≡ true → x ≡ Equal
equal_is Less h = cc
equal_is Equal h = refl
equal_is Greater h = cc

module _ {K : Type 0} {R : K → K → Ordering} (o : IsTotalOrder R) where
  -- by key, then by position
  abbrev pub place_cmp : K × ℕ → K × ℕ → Ordering
  place_cmp a b = ordering_then (R a.0 b.0) (nat_cmp a.1 b.1)

  pub place_total : IsTotalOrder place_cmp
  place_total = then_total (on_total (λ s. s.0) o) (on_total (λ s. s.1) nat_cmp_total)

  turned : (x y : K) → R x y ≡ Equal → R y x ≡ Equal
  turned x y h = o.antisymm y x ∙ ap ordering_reverse h

  -- no row sorted after this one has the same key at an earlier position
  own : (row later : K × ℕ) → place_cmp row later ≡ Less → (eq_by_cmp R later.0 row.0 && nat_lt later.1 row.1) ≡ false
  own row later h = not_both _ _ (λ e l.
      let same = turned later.0 row.0 (equal_is (R later.0 row.0) e) in
      elim (less_is _ _ h) [
        | inl below ↦ absurd (not_both_ways (R row.0 later.0) below same)
        | inr both ↦ (
            let up = nat_less row.1 later.1 both.1 in
            let down = ltb-true later.1 row.1 l in
            absurd (omega arith))
      ])

  -- a row sorted between two rows of one key has that key
  between : (a b c : K × ℕ) → place_cmp a b ≡ Less → place_cmp b c ≡ Less → eq_by_cmp R a.0 c.0 ≡ true
      → (eq_by_cmp R b.0 c.0 && nat_lt b.1 c.1) ≡ true
  between a b c h k e =
      let ends = equal_is (R a.0 c.0) e in
      elim (less_is _ _ k) [
        | inl below ↦ (
            elim (less_is _ _ h) [
              | inl first ↦ absurd (not_both_ways (R a.0 c.0) (o.trans a.0 b.0 c.0 first below) ends)
              | inr both ↦ absurd (not_both_ways (R a.0 c.0) (o.congr a.0 b.0 c.0 both.0 ∙ below) ends)
            ])
        | inr both ↦ (
            let up = nat_less b.1 c.1 both.1 in
            let lower : nat_lt b.1 c.1 ≡ true = grind arith in
            rw (both.0, lower) refl)
      ]

  -- a key equal to that of the row before it is a repeat
  right_before : (row next : K × ℕ) (rows : List (K × ℕ)) → place_cmp row next ≡ Less
      → AllByRecursion (λ later. place_cmp next later ≡ Less) rows
      → is_before R (row ∷ next ∷ rows) next.0 next.1 ≡ eq_by_cmp R row.0 next.0
  right_before row next rows h all =
      let rest : list_any (λ r. eq_by_cmp R r.0 next.0 && nat_lt r.1 next.1) rows ≡ false =
      any_none _ rows (all_mapped rows (λ later. own next later) all) in
      let itself : (eq_by_cmp R next.0 next.0 && nat_lt next.1 next.1) ≡ false =
      not_both _ _ (λ e l. let down = ltb-true next.1 next.1 l in absurd (omega arith)) in
      elim (cases_Bool (eq_by_cmp R row.0 next.0)) [
        | inl same ↦ (
            elim (less_is _ _ h) [
              | inl below ↦ absurd (not_both_ways (R row.0 next.0) below (equal_is (R row.0 next.0) same))
              | inr both ↦ (
                  let up = nat_less row.1 next.1 both.1 in
                  let lower : nat_lt row.1 next.1 ≡ true = grind arith in
                  rw (same, lower) refl)
            ])
        | inr other ↦ rw (other, itself, rest) refl
      ]

  -- an earlier row doesn't matter for the rows after the next one
  before_same : (row next : K × ℕ) (rows : List (K × ℕ)) (p : ℕ) → place_cmp row next ≡ Less → (later : K × ℕ)
      → place_cmp next later ≡ Less
      → ((later.1 == p) && is_before R (row ∷ next ∷ rows) later.0 p) ≡ ((later.1 == p) && is_before R (next ∷ rows) later.0 p)
  before_same row next rows p h later k =
      no_more (later.1 == p) (eq_by_cmp R row.0 later.0 && nat_lt row.1 p) (is_before R (next ∷ rows) later.0 p)
      (λ at is.
      let place = eqb-true later.1 p at in
      let head = between row next later h k (and_parts _ _ is).0 in
      or_left _ _ (subst (λ q. (eq_by_cmp R next.0 later.0 && nat_lt next.1 q) ≡ true) place head))

  -- whether the position p repeats an earlier key, among the remaining rows
  abbrev rest_repeats : K × ℕ → List (K × ℕ) → ℕ → Bool
  rest_repeats row rows p = list_any (λ r. (r.1 == p) && is_before R (row ∷ rows) r.0 p) rows

  marked_rows : {A : Type 0} (xs : List A) (t : ℕ → Bool) (row : K × ℕ) (rows : List (K × ℕ)) → IsStrictlySortedBy place_cmp (row ∷ rows)
      → marked_after R (tested_from t 0 xs) row rows ≡ tested_from (λ p. t p && not (rest_repeats row rows p)) 0 xs
  unfolding IsStrictlySortedBy
  marked_rows xs t row [] h = tested_same t _ 0 xs (λ q l. sym (and_true (t q)))
  marked_rows xs t row (next ∷ rows) h =
      let b = eq_by_cmp R row.0 next.0 in
      let s : ℕ → Bool = λ q. t q && not (b && (next.1 == q)) in
      ap (λ flags. marked_after R flags next rows) (tested_set_if b t next.1 xs)
      ∙ marked_rows xs s next rows h.1
      ∙ tested_same _ _ 0 xs (λ p l.
      let later = any_same (λ r. (r.1 == p) && is_before R (row ∷ next ∷ rows) r.0 p) (λ r. (r.1 == p) && is_before R (next ∷ rows) r.0 p)
      rows (all_mapped rows (λ r. before_same row next rows p h.0.0 r) h.1.0) in
      let here : (b && (next.1 == p)) ≡ ((next.1 == p) && is_before R (row ∷ next ∷ rows) next.0 p) =
      and_alike (next.1 == p) b _
      (λ e. sym (right_before row next rows h.0.0 h.1.0) ∙ ap (is_before R (row ∷ next ∷ rows) next.0) (eqb-true next.1 p e)) in
      taken_either (t p) (b && (next.1 == p)) (rest_repeats next rows p)
      ∙ ap (λ x. t p && not (x || rest_repeats next rows p)) here
      ∙ ap (λ x. t p && not (((next.1 == p) && is_before R (row ∷ next ∷ rows) next.0 p) || x)) (sym later))

  -- the first sorted row is not a repeat
  first_is_new : (row : K × ℕ) (rows : List (K × ℕ)) (p : ℕ) → AllByRecursion (λ later. place_cmp row later ≡ Less) rows
      → ((row.1 == p) && is_before R (row ∷ rows) row.0 p) ≡ false
  first_is_new row rows p all = not_both _ _ (λ at is.
      let place = eqb-true row.1 p at in
      let itself : (eq_by_cmp R row.0 row.0 && nat_lt row.1 row.1) ≡ false =
      not_both _ _ (λ e l. let down = ltb-true row.1 row.1 l in absurd (omega arith)) in
      let none : is_before R (row ∷ rows) row.0 row.1 ≡ false =
      rw itself (any_none _ rows (all_mapped rows (λ later. own row later) all)) in
      absurd (false≢true (sym none ∙ ap (is_before R (row ∷ rows) row.0) place ∙ is)))

  marked_sorted : {A : Type 0} (xs : List A) (rows : List (K × ℕ)) → IsStrictlySortedBy place_cmp rows
      → marked R (tested_from (λ p. true) 0 xs) rows ≡ tested_from (λ p. not (is_repeat R rows p)) 0 xs
  unfolding IsStrictlySortedBy
  marked_sorted xs [] h = refl
  marked_sorted xs (row ∷ rows) h =
      marked_rows xs (λ p. true) row rows h
      ∙ tested_same _ _ 0 xs (λ p l. sym (ap (λ x. not (x || rest_repeats row rows p)) (first_is_new row rows p h.0)))

  -- a permutation of the rows has the same repeats
  repeats_same : (rows sorted : List (K × ℕ)) → IsPermutation rows sorted → (p : ℕ) → is_repeat R sorted p ≡ is_repeat R rows p
  repeats_same rows sorted h p =
      any_alike _ _ sorted (λ row. ap (λ x. (row.1 == p) && x) (sym (list_any-IsPermutation _ rows sorted h)))
      ∙ sym (list_any-IsPermutation _ rows sorted h)

  -- ---- after a sort

  eq_turned : (x y : ℕ) → (x == y) ≡ (y == x)
  eq_turned x y = grind arith

  adjacent_differ : (rows : List (K × ℕ)) → IsDistinct (λ a b. a.1 == b.1) rows → (k : ℕ) (d : K × ℕ) → k + 1 < length rows
      → ((get_or rows k d).1 == (get_or rows (k + 1) d).1) ≡ false
  unfolding IsDistinct
  adjacent_differ [] h k d l = absurd (omega arith)
  adjacent_differ (a ∷ []) h k d l = absurd (omega arith)
  adjacent_differ (a ∷ b ∷ rows) h zero d l = h.0.0
  adjacent_differ (a ∷ b ∷ rows) h (suc k) d l =
      let same : suc (k + 1) ≡ suc k + 1 = omega arith in
      subst (λ m. ((get_or (b ∷ rows) k d).1 == (get_or (a ∷ b ∷ rows) m d).1) ≡ false) same
      (adjacent_differ (b ∷ rows) h.1 k d (omega arith))

  not_less : (x : Ordering) → is_lt x ≡ false → (ordering_reverse x ≡ Equal → ⊥) → ordering_reverse x ≡ Less
  not_less Less h n = cc
  not_less Equal h n = absurd (n refl)
  not_less Greater h n = refl

  then_equal : (x y : Ordering) → ordering_then x y ≡ Equal → y ≡ Equal
  then_equal Less y h = cc
  then_equal Equal y h = h
  then_equal Greater y h = cc

  nat_equal : (j k : ℕ) → nat_cmp j k ≡ Equal → (j == k) ≡ true
  nat_equal j k h = elim (cases_Bool (nat_lt j k)) [
    | inl l ↦ absurd (let x = rw l at h in cc)
    | inr n ↦ elim (cases_Bool (j == k)) [
      | inl e ↦ e
      | inr d ↦ absurd (let x = rw (n, d) at h in cc)
    ]
  ]

  strictly : (rows : List (K × ℕ)) → IsSorted place_cmp rows → IsDistinct (λ a b. a.1 == b.1) rows → IsStrictlySortedBy place_cmp rows
  unfolding IsStrictlySortedBy
  strictly [] h d = tt
  strictly (row ∷ rows) h d = sorted_from_all_adjacent place_total (row ∷ rows) row (λ k l.
      let a = get_or (row ∷ rows) k row in
      let b = get_or (row ∷ rows) (k + 1) row in
      let other = adjacent_differ (row ∷ rows) d k row l in
      place_total.antisymm a b ∙ not_less (place_cmp b a) (h k row (omega arith) l)
      (λ e. false≢true (sym other ∙ nat_equal a.1 b.1 (then_equal _ _ (place_total.antisymm a b ∙ e)))))

  -- the flags of the positions whose key has no earlier equal
  pub marked_after_sort : {A : Type 0} (xs : List A) (rows sorted : List (K × ℕ)) → IsPermutation rows sorted → IsSorted place_cmp sorted
      → IsDistinct (λ a b. a.1 == b.1) rows
      → marked R (tested_from (λ p. true) 0 xs) sorted ≡ tested_from (λ p. not (is_repeat R rows p)) 0 xs
  marked_after_sort xs rows sorted same order apart =
      marked_sorted xs sorted (strictly sorted order
      (IsDistinct-IsPermutation (λ a b. a.1 == b.1) (λ a b. eq_turned a.1 b.1) rows sorted same apart))
      ∙ tested_same _ _ 0 xs (λ p l. ap not (repeats_same rows sorted same p))

  -- ---- another comparison of keys that finds the same repeats

  module _ (S : K → K → Ordering) (alike : (a b : K) → eq_by_cmp R a b ≡ eq_by_cmp S a b) where
    marked_after_alike : (rows : List (K × ℕ)) (flags : List Bool) (last : K × ℕ)
        → marked_after S flags last rows ≡ marked_after R flags last rows
    marked_after_alike [] flags last = refl
    marked_after_alike (row ∷ rows) flags last =
        ap (λ b. marked_after S (cond b (slice_set flags row.1 false) flags) row rows) (sym (alike last.0 row.0))
        ∙ marked_after_alike rows (cond (eq_by_cmp R last.0 row.0) (slice_set flags row.1 false) flags) row

    marked_alike : (flags : List Bool) (rows : List (K × ℕ)) → marked S flags rows ≡ marked R flags rows
    marked_alike flags [] = refl
    marked_alike flags (row ∷ rows) = marked_after_alike rows flags row

    repeats_alike : (rows : List (K × ℕ)) (p : ℕ) → is_repeat R rows p ≡ is_repeat S rows p
    repeats_alike rows p = any_alike _ _ rows (λ row. ap (λ b. (row.1 == p) && b)
        (any_alike _ _ rows (λ earlier. ap (λ b. b && nat_lt earlier.1 p) (alike earlier.0 row.0))))

    -- the flags of the positions whose key has no earlier equal by that comparison
    pub marked_alike_after_sort : {A : Type 0} (xs : List A) (rows sorted : List (K × ℕ)) → IsPermutation rows sorted
        → IsSorted place_cmp sorted → IsDistinct (λ a b. a.1 == b.1) rows
        → marked S (tested_from (λ p. true) 0 xs) sorted ≡ tested_from (λ p. not (is_repeat S rows p)) 0 xs
    marked_alike_after_sort xs rows sorted same order apart =
        marked_alike _ sorted
        ∙ marked_after_sort xs rows sorted same order apart
        ∙ tested_same _ _ 0 xs (λ p l. ap not (repeats_alike rows p))
