-- Conflicts as the code finds them, by name.
use Rattle.std.proofs.Common.{◌≡◌, ℕ, zero, suc, ◌+◌, ◌-◌, ◌<◌, ◌≤◌, Bool, true, false, cond, List, [], ◌∷◌, ◌++◌, length, take, drop, map, get_or, Some, ap, sym, subst, ◌∙◌, refl, inl, inr, append_assoc, arith}
use Rattle.std.specs.Prelude.{◌||◌, ◌==◌, min, not, filter, replicate}
use Rattle.std.specs.List.{AllByRecursion, IsDistinct, list_any}
use Rattle.std.specs.Borrow.{Bor}
use Rattle.std.specs.Str.{bytes_eq}
use Rattle.std.proofs.lemmas.Bool.{cases_Bool, cases_lt, cond-true, cond-false, false≢true, or_parts, eqb-true, eq-eqb}
use Rattle.std.proofs.Math.Seq.{drop-cons, drop-append_seam, take-append_seam, take-append-add}
use Rattle.std.proofs.Math.Nat.{min-eq_left, min-eq_right}
use Rattle.std.proofs.lemmas.List.{append-nil, drop_all, drop-replicate, length-map, length-append, length-replicate, map_more, take_all, take-map, take-append-drop, take-append-le, take-replicate}
use Rattle.std.proofs.lemmas.List.Elements.{filter-append, recursion_from_All, All-from_recursion}
use Rattle.std.proofs.lemmas.List.Filters.{length-filter_both}
use Rattle.std.proofs.lemmas.List.Folds.{list_any-append, list_any_kept}
use Rattle.std.proofs.lemmas.Grind.{flat_map-append}
use Rattle.std.proofs.lemmas.Slice.Eq.{bytes_eq-Decides}
use Rattle.gixp_packetline.proofs.ListLemmas.{any_of_map, take-map_more}
use Rattle.gixp_matching.specs.declared.match_group.validate.groups.Group.{Group}
use Rattle.gixp_matching.specs.declared.match_group.validate.groups.Named.{Named}
use Rattle.gixp_matching.specs.Digest.{digest}
use Rattle.gixp_matching.specs.Found.{found_over, found_among, found_first, found_in_groups, is_over, part, AddsConflicts}
use Rattle.gixp_matching.specs.Groups.{following, lent, mappings_of, grouped, has_number, have_one_number, HasAll, ListsNumbered, AreGroups}
use Rattle.gixp_matching.specs.Mappings.{Mapped, local_eq}
use Rattle.gixp_matching.specs.Validation.{Conflict, differ, has_local, of_local}
use Rattle.gixp_matching.proofs.DifferLemmas.{differ-first}
use Rattle.gixp_matching.proofs.FirstLemmas.{or_none}
use Rattle.gixp_matching.proofs.GroupLemmas.{eqb_turned}
use Rattle.gixp_matching.proofs.ListLemmas.{gathered_here, map_of_map}

-- a step of a loop that keeps the elements that pass
pub kept_more : {A B : Type 0} (h : A → B) (p : B → Bool) (now new : List B) (xs : List A) (i : ℕ) (x : A) → x ≡ get_or xs i x
    → i < length xs
    → now ≡ filter p (take i (map h xs)) → new ≡ now ++ filter p (h x ∷ []) → new ≡ filter p (take (i + 1) (map h xs))
kept_more h p now new xs i x e l kept step =
    let front = take i (map h xs) in
    step ∙ ap (λ y. now ++ filter p (h y ∷ [])) e ∙ ap (λ z. z ++ filter p (h (get_or xs i x) ∷ [])) kept
    ∙ sym (filter-append p front (h (get_or xs i x) ∷ [])) ∙ ap (filter p) (sym (take-map_more h xs i x l))

-- one of the first elements, or the next one, passes
pub any_next : {A B : Type 0} (h : A → B) (p : B → Bool) (xs : List A) (i : ℕ) (x : A) → x ≡ get_or xs i x → i < length xs
    → list_any p (take (i + 1) (map h xs)) ≡ (list_any p (take i (map h xs)) || p (h x))
any_next h p xs i x e l =
    ap (list_any p) (take-map_more h xs i x l) ∙ list_any-append p (take i (map h xs)) (h (get_or xs i x) ∷ [])
    ∙ ap (λ b. list_any p (take i (map h xs)) || b) (or_none (p (h (get_or xs i x))) ∙ ap (λ y. p (h y)) (sym e))

-- one of the first elements passes
pub any_first : {A B : Type 0} (h : A → B) (p : B → Bool) (xs : List A) (i : ℕ)
    → list_any p (take i (map h xs)) ≡ list_any (λ x. p (h x)) (take i xs)
any_first h p xs i = ap (list_any p) (take-map h i xs) ∙ any_of_map p h (take i xs)

-- ---- the conflict over one name

-- it is over that name
over_own : (texts : List (List ℕ)) (name : List ℕ) (group : List Mapped)
    → filter (is_over name) (found_over texts name group) ≡ found_over texts name group
over_own texts name group = elim (cases_Bool (differ group)) [
  | inl t ↦ ap (filter (is_over name)) (cond-true _ _ _ t) ∙ cond-true _ _ _ ((bytes_eq-Decides name name).1 refl) ∙ sym (cond-true _ _ _ t)
  | inr f ↦ ap (filter (is_over name)) (cond-false _ _ _ f) ∙ sym (cond-false _ _ _ f)
]

-- it is over no other name
over_other : (texts : List (List ℕ)) (own name : List ℕ) (group : List Mapped) → bytes_eq own name ≡ false
    → filter (is_over name) (found_over texts own group) ≡ []
over_other texts own name group other = elim (cases_Bool (differ group)) [
  | inl t ↦ ap (filter (is_over name)) (cond-true _ _ _ t) ∙ cond-false _ _ _ other
  | inr f ↦ ap (filter (is_over name)) (cond-false _ _ _ f)
]

-- ---- names in a row

-- a mapping whose name isn't new adds no conflict
pub adds_none : (texts : List (List ℕ)) (ms : List Mapped) (place : ℕ) (m : Mapped) (cs : List Conflict)
    → ((name : List ℕ) → list_any (has_local name) (take (place + 1) ms) ≡ (list_any (has_local name) (take place ms) || has_local name m))
    → ((name : List ℕ) → has_local name m ≡ true → list_any (has_local name) (take place ms) ≡ true)
    → AddsConflicts (found_first texts ms place) cs cs
adds_none texts ms place m cs next known name = elim (cases_Bool (list_any (has_local name) (take place ms))) [
  | inl t ↦ sym (ap (λ l. filter (is_over name) cs ++ l) (cond-true _ _ _ t) ∙ append-nil (filter (is_over name) cs))
  | inr f ↦ elim (cases_Bool (has_local name m)) [
    | inl has ↦ absurd (false≢true (sym f ∙ known name has))
    | inr other ↦ (
        let late : list_any (has_local name) (take (place + 1) ms) ≡ false = next name ∙ ap (λ b. b || has_local name m) f ∙ other in
        sym (ap (λ l. filter (is_over name) cs ++ l) (cond-false _ _ _ f ∙ cond-false _ _ _ late) ∙ append-nil (filter (is_over name) cs)))
  ]
]

-- a mapping with a new name adds the conflict over it
pub adds_one : (texts : List (List ℕ)) (ms : List Mapped) (place : ℕ) (m : Mapped) (own : List ℕ) (old new : List Conflict)
    → ((name : List ℕ) → list_any (has_local name) (take (place + 1) ms) ≡ (list_any (has_local name) (take place ms) || has_local name m))
    → m.local ≡ Some own → list_any (has_local own) (take place ms) ≡ false → new ≡ old ++ found_among texts ms own
    → AddsConflicts (found_first texts ms place) old new
adds_one texts ms place m own old new next is fresh step name =
    let front = filter (is_over name) old in
    let has : has_local name m ≡ bytes_eq own name = ap (λ o. local_eq o (Some name)) is in
    ap (filter (is_over name)) step ∙ filter-append (is_over name) old (found_among texts ms own)
    ∙ ap (λ l. front ++ l) (elim (cases_Bool (bytes_eq own name)) [
      | inl t ↦ (
          let e : own ≡ name = (bytes_eq-Decides own name).0 t in
          let early : list_any (has_local name) (take place ms) ≡ false =
          ap (λ n. list_any (has_local n) (take place ms)) (sym e) ∙ fresh in
          let late : list_any (has_local name) (take (place + 1) ms) ≡ true =
          next name ∙ ap (λ b. b || has_local name m) early ∙ has ∙ t in
          ap (λ n. filter (is_over name) (found_among texts ms n)) e ∙ over_own texts name (of_local name ms)
          ∙ sym (cond-false _ _ _ early ∙ cond-true _ _ _ late))
      | inr f ↦ over_other texts own name (of_local own ms) f ∙ elim (cases_Bool (list_any (has_local name) (take place ms))) [
        | inl t ↦ sym (cond-true _ _ _ t)
        | inr early ↦ (
            let late : list_any (has_local name) (take (place + 1) ms) ≡ false =
            next name ∙ ap (λ b. b || has_local name m) early ∙ has ∙ f in
            sym (cond-false _ _ _ early ∙ cond-false _ _ _ late))
      ]
    ])

-- the conflict over a name that one of the first mappings has
abbrev pub found_before : List (List ℕ) → List Mapped → List Mapped → List ℕ → List Conflict
found_before texts ms before name = cond (list_any (has_local name) before) (found_among texts ms name) []

pub before_none : (texts : List (List ℕ)) (ms : List Mapped) (cs : List Conflict) → AddsConflicts (found_before texts ms []) cs cs
before_none texts ms cs name = sym (append-nil (filter (is_over name) cs))

-- one more mapping
pub before_more : (texts : List (List ℕ)) (ms : List Mapped) (i : ℕ) (old now new : List Conflict)
    → AddsConflicts (found_before texts ms (take i ms)) old now → AddsConflicts (found_first texts ms i) now new
    → AddsConflicts (found_before texts ms (take (i + 1) ms)) old new
before_more texts ms i old now new kept step name =
    let front = filter (is_over name) old in
    step name ∙ ap (λ l. l ++ found_first texts ms i name) (kept name)
    ∙ append_assoc front (found_before texts ms (take i ms) name) (found_first texts ms i name)
    ∙ ap (λ l. front ++ l) (elim (cases_Bool (list_any (has_local name) (take i ms))) [
      | inl t ↦ ap (λ l. l ++ found_first texts ms i name) (cond-true _ _ _ t)
          ∙ ap (λ l. found_among texts ms name ++ l) (cond-true _ _ _ t)
          ∙ append-nil (found_among texts ms name) ∙ sym (cond-true _ _ _ (list_any_kept (has_local name) ms i t))
      | inr f ↦ ap (λ l. l ++ found_first texts ms i name) (cond-false _ _ _ f) ∙ cond-false _ _ _ f
    ])

pub none_local : (name : List ℕ) (ms : List Mapped) → list_any (has_local name) ms ≡ false → of_local name ms ≡ []
none_local name [] h = refl
none_local name (m ∷ ms) h =
    let both = or_parts (has_local name m) (list_any (has_local name) ms) h in
    cond-false _ _ _ both.0 ∙ none_local name ms both.1

-- after the last mapping, all conflicts are found
pub before_all : (texts : List (List ℕ)) (ms : List Mapped) (old new : List Conflict) → AddsConflicts (found_before texts ms ms) old new
    → AddsConflicts (found_among texts ms) old new
before_all texts ms old new kept name =
    kept name ∙ ap (λ l. filter (is_over name) old ++ l) (elim (cases_Bool (list_any (has_local name) ms)) [
      | inl t ↦ cond-true _ _ _ t
      | inr f ↦ cond-false _ _ _ f ∙ ap (found_over texts name) (sym (none_local name ms f))
    ])

-- ---- groups in a row

module _ {M : Type 0} where
  -- the mapping of one more row
  pub mappings_more : (old now new : List (Bor M)) (rows : List (Named M)) (i : ℕ) (row : Named M) → row ≡ get_or rows i row
      → i < length rows
      → now ≡ old ++ mappings_of (take i rows) → new ≡ now ++ row.mapping ∷ [] → new ≡ old ++ mappings_of (take (i + 1) rows)
  mappings_more old now new rows i row is l kept step =
      step ∙ ap (λ l. l ++ row.mapping ∷ []) kept ∙ append_assoc old (mappings_of (take i rows)) (row.mapping ∷ [])
      ∙ ap (λ l. old ++ l) (ap (λ (r : Named M). mappings_of (take i rows) ++ r.mapping ∷ []) is
      ∙ sym (map_more (λ r. r.mapping) rows i row l))

  abbrev own : Group M → List (Bor M)
  own group = mappings_of group.rows.now

  own_length : (group : Group M) → length (own group) ≡ length group.rows.now
  own_length group = length-map group.rows.now (λ row. row.mapping)

  -- all mappings are the mappings of the first groups, of one group and of the other groups
  parted : (groups : List (Group M)) (i : ℕ) (group : Group M) → group ≡ get_or groups i group → i < length groups
      → grouped groups ≡ grouped (take i groups) ++ (own group ++ grouped (drop (suc i) groups))
  parted groups i group is l =
      ap grouped (sym (take-append-drop i groups)) ∙ flat_map-append own (take i groups) (drop i groups)
      ∙ ap (λ gs. grouped (take i groups) ++ grouped gs) (drop-cons groups i group l)
      ∙ ap (λ one. grouped (take i groups) ++ (own one ++ grouped (drop (suc i) groups))) (sym is)

  -- the mappings of a group end within all mappings
  pub ends_within : (groups : List (Group M)) (mappings : List (Bor M)) (i start : ℕ) (group : Group M)
      → group ≡ get_or groups i group → i < length groups → mappings ≡ grouped groups → start ≡ length (grouped (take i groups))
      → start + length group.rows.now ≤ length mappings
  ends_within groups mappings i start group is l all here =
      omega (
        arith,
        own_length group,
        here,
        ap length (all ∙ parted groups i group is l),
        length-append (grouped (take i groups)) (own group ++ grouped (drop (suc i) groups)),
        length-append (own group) (grouped (drop (suc i) groups)),
      )

  -- the mappings of the next group follow
  pub ends_at : (groups : List (Group M)) (i start : ℕ) (group : Group M) → group ≡ get_or groups i group → i < length groups
      → start ≡ length (grouped (take i groups)) → start + length group.rows.now ≡ length (grouped (take (i + 1) groups))
  ends_at groups i start group is l here =
      let more : grouped (take i groups) ++ own (get_or groups i group) ≡ grouped (take (i + 1) groups) =
      gathered_here own [] (grouped (take i groups)) (grouped (take i groups) ++ own (get_or groups i group)) groups i group l refl refl in
      let same : length (own group) ≡ length (own (get_or groups i group)) = ap (λ one. length (own one)) is in
      omega (arith, here, own_length group, same, ap length more, length-append (grouped (take i groups)) (own (get_or groups i group)))

  -- the mappings between these indices are the group's
  pub stands_at : (groups : List (Group M)) (mappings : List (Bor M)) (i start : ℕ) (group : Group M)
      → group ≡ get_or groups i group → i < length groups → mappings ≡ grouped groups → start ≡ length (grouped (take i groups))
      → take (start + length group.rows.now - start) (drop start mappings) ≡ own group
  stands_at groups mappings i start group is l all here =
      let front = grouped (take i groups) in
      let back = own group ++ grouped (drop (suc i) groups) in
      let count : start + length group.rows.now - start ≡ length (own group) = omega (arith, own_length group) in
      ap (λ n. take n (drop start mappings)) count
      ∙ ap (λ l. take (length (own group)) (drop start l)) (all ∙ parted groups i group is l)
      ∙ ap (λ n. take (length (own group)) (drop n (front ++ back))) here
      ∙ ap (take (length (own group))) (drop-append_seam front back)
      ∙ take-append_seam (own group) (grouped (drop (suc i) groups))

  pub lent_own : (f : M → Mapped) (group : Group M) → lent f (own group) ≡ following f group.rows.now
  lent_own f group = map_of_map (λ m. f m.now) (λ row. row.mapping) group.rows.now

few_agree : (ms : List Mapped) → length ms < 2 → differ ms ≡ false
few_agree [] h = refl
few_agree (m ∷ []) h = sym (differ-first m [])
few_agree (m ∷ other ∷ ms) h = absurd (omega (arith, h))

fewer_pass : {X : Type 0} (p : X → Bool) (xs : List X) → length (filter p xs) ≤ length xs
fewer_pass p xs = omega (arith, length-filter_both p (λ x. not (p x)) (λ x. refl) xs)

module _ {M : Type 0} (f : M → Mapped) (texts : List (List ℕ)) (ms : List Mapped) (rows : List (Named M)) (listed : ListsNumbered f ms rows)
    (name : List ℕ) where
  -- the conflict that a group adds
  by_group : (group : Group M) → HasAll rows group
      → found_among texts (following f group.rows.now) name ≡ cond (digest name == group.number) (found_among texts ms name) []
  by_group group all =
      ap (λ l. found_among texts (following f l) name) all ∙ ap (found_over texts name) (listed.same name group.number)
      ∙ elim (cases_Bool (digest name == group.number)) [
        | inl t ↦ ap (found_over texts name) (cond-true _ _ _ t) ∙ sym (cond-true _ _ _ t)
        | inr e ↦ ap (found_over texts name) (cond-false _ _ _ e) ∙ sym (cond-false _ _ _ e)
      ]

  -- no group of another hash adds a conflict
  none_by_groups : (groups : List (Group M)) → AllByRecursion (HasAll rows) groups
      → AllByRecursion (λ group. (digest name == group.number) ≡ false) groups → found_in_groups f texts groups name ≡ []
  none_by_groups [] all other = refl
  none_by_groups (group ∷ groups) all other =
      ap (λ l. l ++ found_in_groups f texts groups name) (by_group group all.0 ∙ cond-false _ _ _ other.0)
      ∙ none_by_groups groups all.1 other.1

  -- the conflict over a name is found in the group of its hash; without a group there is none
  by_groups : (groups : List (Group M)) → AllByRecursion (HasAll rows) groups → IsDistinct have_one_number groups
      → (AllByRecursion (λ group. (group.number == digest name) ≡ false) groups → found_among texts ms name ≡ [])
      → found_in_groups f texts groups name ≡ found_among texts ms name
  unfolding IsDistinct
  by_groups [] all once others = sym (others tt)
  by_groups (group ∷ groups) all once others = elim (cases_Bool (digest name == group.number)) [
    | inl t ↦ (
        let none : AllByRecursion (λ (other : Group M). (digest name == other.number) ≡ false) groups =
        subst (λ n. AllByRecursion (λ (other : Group M). (n == other.number) ≡ false) groups) (sym (eqb-true (digest name) group.number t))
        once.0 in
        ap (λ l. l ++ found_in_groups f texts groups name) (by_group group all.0 ∙ cond-true _ _ _ t)
        ∙ ap (λ l. found_among texts ms name ++ l) (none_by_groups groups all.1 none) ∙ append-nil (found_among texts ms name))
    | inr e ↦ ap (λ l. l ++ found_in_groups f texts groups name) (by_group group all.0 ∙ cond-false _ _ _ e)
        ∙ by_groups groups all.1 once.1 (λ rest. others (eqb_turned group.number (digest name) ∙ e, rest))
  ]

-- the conflicts over each name are found
pub all_found : {M : Type 0} (f : M → Mapped) (texts : List (List ℕ)) (ms : List Mapped) (rows : List (Named M)) (groups : List (Group M))
    (cs : List Conflict) → ListsNumbered f ms rows → AreGroups rows groups → AddsConflicts (found_in_groups f texts groups) [] cs →
    (name : List ℕ)
    → filter (is_over name) cs ≡ found_among texts ms name
all_found f texts ms rows groups cs listed are kept name =
    kept name ∙ by_groups f texts ms rows listed name groups (recursion_from_All _ groups are.each) are.once (λ none. (
    let n = digest name in
    let few : length (filter (has_number n) rows) < 2 = are.others n (All-from_recursion _ groups none) in
    let own : of_local name (following f (filter (has_number n) rows)) ≡ of_local name ms =
    listed.same name n ∙ cond-true _ _ _ (eq-eqb n n refl) in
    let less : length (of_local name ms) < 2 =
    omega (
      arith,
      few,
      ap length own,
      fewer_pass (has_local name) (following f (filter (has_number n) rows)),
      length-map (filter (has_number n) rows) (λ row. f row.mapping.now),
    ) in
    cond-false _ _ _ (few_agree (of_local name ms) less)))

-- names with a common prefix have each shorter one in common
pub shorter : (m n : ℕ) (xs ys : List ℕ) → m ≤ n → take n xs ≡ take n ys → take m xs ≡ take m ys
shorter zero n xs ys l h = refl
shorter (suc m) zero xs ys l h = absurd (omega (arith, l))
shorter (suc m) (suc n) [] [] l h = refl
shorter (suc m) (suc n) [] (y ∷ ys) l h = cc
shorter (suc m) (suc n) (x ∷ xs) [] l h = cc
shorter (suc m) (suc n) (x ∷ xs) (y ∷ ys) l h =
    let same : x ≡ y = cc in
    let rest : take n xs ≡ take n ys = cc in
    ap (λ z. z ∷ take m xs) same ∙ ap (λ r. y ∷ r) (shorter m n xs ys (omega arith) rest)

-- bytes padded with zeros
pub padded : (n : ℕ) (xs : List ℕ) → take (min (length xs) n) xs ++ drop (min (length xs) n) (replicate n 0) ≡ part n xs
unfolding part
padded n xs = elim (cases_lt (length xs) n) [
  | inl short ↦ (
      let following : ℕ = n - length xs in
      let all : min (length xs) n ≡ length xs = min-eq_left (omega (arith, short)) in
      let count : length xs + following ≡ n = omega (arith, short) in
      ap (λ m. take m xs ++ drop m (replicate n 0)) all
      ∙ ap (λ l. l ++ drop (length xs) (replicate n 0)) (take_all (length xs) xs (omega arith))
      ∙ ap (λ l. xs ++ l) (drop-replicate (length xs) n 0 ∙ sym (take-replicate following n 0 (omega arith)))
      ∙ sym (take-append-add xs (replicate n 0) following) ∙ ap (λ m. take m (xs ++ replicate n 0)) count)
  | inr long ↦ (
      let cut : min (length xs) n ≡ n = min-eq_right long in
      let none : drop n (replicate n 0) ≡ [] = drop_all n (replicate n 0) (omega (arith, length-replicate {A = ℕ} n 0)) in
      ap (λ m. take m xs ++ drop m (replicate n 0)) cut ∙ ap (λ l. take n xs ++ l) none ∙ append-nil (take n xs)
      ∙ sym (take-append-le n xs (replicate n 0) long))
]
