-- Rows sorted by hash: rows with the same hash follow one another, and keep their order.
use Rattle.std.proofs.Common.{◌≡◌, ℕ, suc, ◌≤◌, ◌<◌, Bool, true, false, cond, List, [], ◌∷◌, ◌++◌, length, map, get_or, Option, Some, None, ap, sym, ◌∙◌, refl, inl, inr, arith}
use Rattle.std.specs.Prelude.{◌&&◌, ◌||◌, ◌⊎◌, ◌==◌, not, filter, option_to_list}
use Rattle.std.specs.List.{AllByRecursion, list_any, flat_map}
use Rattle.std.specs.List.Sorted.{IsSortedBy, IsStableBy, ties}
use Rattle.std.specs.Option.{option_map}
use Rattle.std.specs.Ordering.{is_lt, nat_cmp}
use Rattle.std.specs.Str.{bytes_eq}
use Rattle.std.proofs.lemmas.Bool.{cases_Bool, cond-true, cond-false, eqb-true}
use Rattle.std.proofs.lemmas.Cmp.{nat_cmp_total}
use Rattle.std.proofs.lemmas.List.Sorted.{ranks_by, sorted_far}
use Rattle.std.proofs.lemmas.Slice.Eq.{bytes_eq-Decides}
use Rattle.gixp_matching.specs.declared.match_group.validate.groups.Named.{Named}
use Rattle.gixp_matching.specs.Digest.{digest}
use Rattle.gixp_matching.specs.Groups.{shown, numbered, following, has_number, after_run, AreTogether}
use Rattle.gixp_matching.specs.Mappings.{Mapped, local_eq}
use Rattle.gixp_matching.specs.Validation.{of_local}
use Rattle.gixp_matching.proofs.ListLemmas.{kept_same}

-- ---- the order of hashes

abbrev below : ℕ → ℕ → Bool
below a b = is_lt (nat_cmp a b)

tied : (a b : ℕ) → (not (below a b) && not (below b a)) ≡ (b == a)
tied a b = grind arith

not_after : (a b c : ℕ) → (b == a) ≡ false → below b a ≡ false → below c b ≡ false → (c == a) ≡ false
not_after a b c different low high = grind arith

module _ {M : Type 0} where
  abbrev row_lt : Named M → Named M → Bool
  row_lt x y = below x.number y.number

  -- no row is below an earlier one
  abbrev Ascend : List (Named M) → Type 0
  Ascend [] = Unit {0}
  Ascend (row ∷ rows) = AllByRecursion (λ later. row_lt later row ≡ false) rows × Ascend rows

  above : (row : Named M) (rows : List (Named M)) → ((k : ℕ) → k < length rows → row_lt (get_or rows k row) row ≡ false)
      → AllByRecursion (λ later. row_lt later row ≡ false) rows
  above row rows h = all rows h where
    all : (ys : List (Named M)) → ((k : ℕ) → k < length ys → row_lt (get_or ys k row) row ≡ false)
        → AllByRecursion (λ later. row_lt later row ≡ false) ys
    all [] h = tt
    all (y ∷ ys) h = (h 0 (omega arith), all ys (λ k p. h (suc k) (omega arith)))

  ascend : (rows : List (Named M))
      → ((i j : ℕ) (d : Named M) → i ≤ j → j < length rows → row_lt (get_or rows j d) (get_or rows i d) ≡ false) → Ascend rows
  ascend [] far = tt
  ascend (row ∷ rows) far = (
    above row rows (λ k p. far 0 (suc k) row (omega arith) (omega arith)),
    ascend rows (λ i j d p q. far (suc i) (suc j) d (omega arith) (omega arith)),
  )

  none_after : (row other : Named M) (rows : List (Named M)) → has_number row.number other ≡ false → row_lt other row ≡ false
      → AllByRecursion (λ later. row_lt later other ≡ false) rows → list_any (has_number row.number) rows ≡ false
  none_after row other [] different low high = refl
  none_after row other (later ∷ rows) different low high =
      ap (λ b. b || list_any (has_number row.number) rows) (not_after row.number other.number later.number different low high.0)
      ∙ none_after row other rows different low high.1

  one_together : (row : Named M) (rows : List (Named M)) → AllByRecursion (λ later. row_lt later row ≡ false) rows → Ascend rows
      → list_any (has_number row.number) (after_run row.number rows) ≡ false
  one_together row [] low up = refl
  one_together row (other ∷ rows) low up = elim (cases_Bool (has_number row.number other)) [
    | inl t ↦ ap (list_any (has_number row.number)) (cond-true _ _ _ t) ∙ one_together row rows low.1 up.1
    | inr f ↦ (
        ap (list_any (has_number row.number)) (cond-false _ _ _ f)
        ∙ ap (λ b. b || list_any (has_number row.number) rows) f ∙ none_after row other rows f low.0 up.0)
  ]

  all_together : (rows : List (Named M)) → Ascend rows → AreTogether rows
  all_together [] up = tt
  all_together (row ∷ rows) up = (one_together row rows up.0 up.1, all_together rows up.1)

  -- rows with the same hash follow one another once they are sorted
  pub sorted_together : (rows : List (Named M)) → IsSortedBy row_lt rows → AreTogether rows
  sorted_together rows up = all_together rows (ascend rows (sorted_far row_lt (ranks_by nat_cmp_total (λ row. row.number)) rows up))

  -- ---- rows with the same hash keep their order

  one_or_none : (n : ℕ) (rows : List (Named M)) → ((row : Named M) × (has_number n row ≡ true)) ⊎ (filter (has_number n) rows ≡ [])
  one_or_none n [] = inr refl
  one_or_none n (row ∷ rows) = elim (cases_Bool (has_number n row)) [
    | inl t ↦ inl (row, t)
    | inr f ↦ elim (one_or_none n rows) [
      | inl found ↦ inl found
      | inr none ↦ inr (cond-false _ _ _ f ∙ none)
    ]
  ]

  by_one : (n : ℕ) (row : Named M) → has_number n row ≡ true → (old new : List (Named M)) → IsStableBy row_lt old new
      → filter (has_number n) new ≡ filter (has_number n) old
  by_one n row has old new stable =
      let same = λ (other : Named M). sym (tied row.number other.number ∙ ap (λ k. other.number == k) (eqb-true row.number n has)) in
      kept_same (has_number n) (ties row_lt row) same new ∙ stable row ∙ sym (kept_same (has_number n) (ties row_lt row) same old)

  pub stay_in_order : (old new : List (Named M)) → IsStableBy row_lt old new → (n : ℕ)
      → filter (has_number n) new ≡ filter (has_number n) old
  stay_in_order old new stable n = elim (one_or_none n old) [
    | inl found ↦ by_one n found.0 found.1 old new stable
    | inr none ↦ elim (one_or_none n new) [
      | inl found ↦ by_one n found.0 found.1 old new stable
      | inr neither_has ↦ neither_has ∙ sym none
    ]
  ]

-- ---- rows of mappings

abbrev Shown : Type 0
Shown = ℕ × Mapped

abbrev with_number : ℕ → List Shown → List Mapped
with_number n ts = map (λ t. t.1) (filter (λ t. t.0 == n) ts)

following_shown : {M : Type 0} (f : M → Mapped) (n : ℕ) (rows : List (Named M))
    → following f (filter (has_number n) rows) ≡ with_number n (map (shown f) rows)
following_shown f n [] = refl
following_shown f n (row ∷ rows) = elim (cases_Bool (has_number n row)) [
  | inl t ↦ ap (following f) (cond-true _ _ _ t) ∙ ap (λ l. (shown f row).1 ∷ l) (following_shown f n rows)
      ∙ sym (ap (map (λ (t : Shown). t.1)) (cond-true _ _ _ t))
  | inr e ↦ ap (following f) (cond-false _ _ _ e) ∙ following_shown f n rows ∙ sym (ap (map (λ (t : Shown). t.1)) (cond-false _ _ _ e))
]

other_name : (name own : List ℕ) (n : ℕ) (m : Mapped) (ts : List Shown) → local_eq m.local (Some name) ≡ false
    → of_local name (with_number n ((digest own, m) ∷ ts)) ≡ of_local name (with_number n ts)
other_name name own n m ts other = elim (cases_Bool (digest own == n)) [
  | inl t ↦ ap (λ l. of_local name (map (λ (t : Shown). t.1) l)) (cond-true _ _ _ t) ∙ cond-false _ _ _ other
  | inr f ↦ ap (λ l. of_local name (map (λ (t : Shown). t.1) l)) (cond-false _ _ _ f)
]

own_name : (name : List ℕ) (n : ℕ) (m : Mapped) (ms : List Mapped) (ts : List Shown) → local_eq m.local (Some name) ≡ true
    → of_local name (with_number n ts) ≡ cond (digest name == n) ms []
    → of_local name (with_number n ((digest name, m) ∷ ts)) ≡ cond (digest name == n) (m ∷ ms) []
own_name name n m ms ts has rest = elim (cases_Bool (digest name == n)) [
  | inl t ↦ ap (λ l. of_local name (map (λ (t : Shown). t.1) l)) (cond-true _ _ _ t) ∙ cond-true _ _ _ has
      ∙ ap (λ l. m ∷ l) (rest ∙ cond-true _ _ _ t) ∙ sym (cond-true _ _ _ t)
  | inr f ↦ ap (λ l. of_local name (map (λ (t : Shown). t.1) l)) (cond-false _ _ _ f) ∙ rest ∙ cond-false _ _ _ f
      ∙ sym (cond-false _ _ _ f)
]

-- the mappings of a hash that have a name: none where the name has another hash
local_numbered : (name : List ℕ) (n : ℕ) (ms : List Mapped)
    → of_local name (with_number n (flat_map numbered ms)) ≡ cond (digest name == n) (of_local name ms) []
local_numbered name n [] = elim (cases_Bool (digest name == n)) [
  | inl t ↦ sym (cond-true _ _ _ t)
  | inr f ↦ sym (cond-false _ _ _ f)
]
local_numbered name n (m ∷ ms) = at (local_numbered name n ms) m.local refl where
  at : of_local name (with_number n (flat_map numbered ms)) ≡ cond (digest name == n) (of_local name ms) [] → (o : Option (List ℕ))
      → m.local ≡ o
      → of_local name (with_number n (option_to_list (option_map (λ own. (digest own, m)) o) ++ flat_map numbered ms))
      ≡ cond (digest name == n) (cond (local_eq o (Some name)) (m ∷ of_local name ms) (of_local name ms)) []
  at rest None is = rest
  at rest (Some own) is = elim (cases_Bool (bytes_eq own name)) [
    | inl t ↦ ap (λ x. of_local name (with_number n ((digest x, m) ∷ flat_map numbered ms))) ((bytes_eq-Decides own name).0 t)
        ∙ own_name name n m (of_local name ms) (flat_map numbered ms) (ap (λ l. local_eq l (Some name)) is ∙ t) rest
        ∙ ap (λ l. cond (digest name == n) l []) (sym (cond-true _ _ _ t))
    | inr f ↦ other_name name own n m (flat_map numbered ms) (ap (λ l. local_eq l (Some name)) is ∙ f) ∙ rest
        ∙ ap (λ l. cond (digest name == n) l []) (sym (cond-false _ _ _ f))
  ]

-- the rows with the hash of a name contain all mappings with the name, and rows with other hashes none
pub rows_local : {M : Type 0} (f : M → Mapped) (ms : List Mapped) (rows : List (Named M)) → map (shown f) rows ≡ flat_map numbered ms
    → (name : List ℕ) (n : ℕ) → of_local name (following f (filter (has_number n) rows)) ≡ cond (digest name == n) (of_local name ms) []
rows_local f ms rows is name n =
    ap (of_local name) (following_shown f n rows ∙ ap (with_number n) is) ∙ local_numbered name n ms
