-- The groups of rows with the same hash.
use Rattle.std.proofs.Common.{◌≡◌, ℕ, suc, ◌+◌, ◌-◌, ◌≤◌, ◌<◌, Bool, true, false, cond, List, [], ◌∷◌, ◌++◌, length, take, drop, get_or, Some, None, ap, sym, subst, ◌∙◌, refl, inl, inr, arith, ltb-false}
use Rattle.std.specs.Prelude.{◌||◌, ◌==◌, not, filter, nat_lt, unwrap_or, position}
use Rattle.std.specs.List.{All, AllByRecursion, IsDistinct, list_any, position_or_len}
use Rattle.std.specs.List.Sorted.{IsPermutation}
use Rattle.std.proofs.lemmas.Bool.{cases_Bool, cond-true, cond-false, false≢true, false_from_ne_true, or_parts, or_left, eqb-true, eq-eqb}
use Rattle.std.proofs.Math.Seq.{drop-cons}
use Rattle.std.proofs.lemmas.Bool.Decides.{Decides-eqb, same_from_decides}
use Rattle.std.proofs.lemmas.List.{append-nil, drop-drop, drop_all, length-drop, take_rest}
use Rattle.std.proofs.lemmas.List.Elements.{All-nil, All-from_recursion, recursion_from_All}
use Rattle.std.proofs.lemmas.List.Sorted.{All-permutation, IsPermutation-sym}
use Rattle.std.proofs.lemmas.List.Sums.{prefix_len-le-length}
use Rattle.std.proofs.lemmas.Map.Keys.{IsDistinct-IsPermutation}
use Rattle.gixp_matching.specs.declared.match_group.validate.groups.Group.{Group}
use Rattle.gixp_matching.specs.declared.match_group.validate.groups.Named.{Named}
use Rattle.gixp_matching.specs.Groups.{has_number, run_of, after_run, AreTogether, several, is_group_of, HasAll, have_one_number, AreGroups}

pub eqb_turned : (a b : ℕ) → (a == b) ≡ (b == a)
eqb_turned a b = same_from_decides (a == b) (b == a)
    (λ h. sym ((Decides-eqb a b).0 h), λ e. (Decides-eqb a b).1 (sym e)) (Decides-eqb b a)

at_or_end : (n l : ℕ) → n ≤ l → unwrap_or (cond (nat_lt n l) (Some n) None) l ≡ n
at_or_end n l h = elim (cases_Bool (nat_lt n l)) [
  | inl t ↦ ap (λ o. unwrap_or o l) (cond-true _ _ _ t)
  | inr f ↦ ap (λ o. unwrap_or o l) (cond-false _ _ _ f) ∙ (let e : l ≡ n = omega (arith, h, ltb-false n l f) in e)
]

pub all_more : {X : Type 0} (P : X → Type 0) (xs : List X) (x : X) → All P xs → P x → All P (xs ++ x ∷ [])
all_more {X} P xs x all one = All-from_recursion P (xs ++ x ∷ []) (more xs (recursion_from_All P xs all)) where
  more : (ys : List X) → AllByRecursion P ys → AllByRecursion P (ys ++ x ∷ [])
  more [] h = (one, tt)
  more (y ∷ ys) h = (h.0, more ys h.1)

all_less : {X : Type 0} (P : X → Type 0) (xs : List X) (x : X) → All P (xs ++ x ∷ []) → All P xs × P x
all_less {X} P xs x all =
    let both = less xs (recursion_from_All P (xs ++ x ∷ []) all) in (All-from_recursion P xs both.0, both.1)
  where
    less : (ys : List X) → AllByRecursion P (ys ++ x ∷ []) → AllByRecursion P ys × P x
    less [] h = (tt, h.0)
    less (y ∷ ys) h = let both = less ys h.1 in ((h.0, both.0), both.1)

-- ---- the leading rows with a hash

module _ {M : Type 0} where
  pub other_or_end : (p : Named M → Bool) (rows : List (Named M)) → unwrap_or (position p rows) (length rows) ≡ position_or_len p rows
  other_or_end p rows = at_or_end (position_or_len p rows) (length rows) (prefix_len-le-length _ rows)

  pub taken_run : (number : ℕ) (rows : List (Named M))
      → take (position_or_len (λ row. not (has_number number row)) rows) rows ≡ run_of number rows
  taken_run number [] = refl
  taken_run number (row ∷ rows) = elim (cases_Bool (has_number number row)) [
    | inl t ↦ (
        let n = position_or_len (λ row. not (has_number number row)) rows in
        let e : position_or_len (λ row. not (has_number number row)) (row ∷ rows) ≡ suc n = rw t (omega arith) in
        ap (λ k. take k (row ∷ rows)) e ∙ ap (λ l. row ∷ l) (taken_run number rows) ∙ sym (cond-true _ _ _ t))
    | inr f ↦ (
        let e : position_or_len (λ row. not (has_number number row)) (row ∷ rows) ≡ 0 = rw f refl in
        ap (λ k. take k (row ∷ rows)) e ∙ sym (cond-false _ _ _ f))
  ]

  pub dropped_run : (number : ℕ) (rows : List (Named M))
      → drop (position_or_len (λ row. not (has_number number row)) rows) rows ≡ after_run number rows
  dropped_run number [] = refl
  dropped_run number (row ∷ rows) = elim (cases_Bool (has_number number row)) [
    | inl t ↦ (
        let n = position_or_len (λ row. not (has_number number row)) rows in
        let e : position_or_len (λ row. not (has_number number row)) (row ∷ rows) ≡ suc n = rw t (omega arith) in
        ap (λ k. drop k (row ∷ rows)) e ∙ dropped_run number rows ∙ sym (cond-true _ _ _ t))
    | inr f ↦ (
        let e : position_or_len (λ row. not (has_number number row)) (row ∷ rows) ≡ 0 = rw f refl in
        ap (λ k. drop k (row ∷ rows)) e ∙ sym (cond-false _ _ _ f))
  ]

  after_shorter : (number : ℕ) (rows : List (Named M)) → length (after_run number rows) ≤ length rows
  after_shorter number [] = omega arith
  after_shorter number (row ∷ rows) = elim (cases_Bool (has_number number row)) [
    | inl t ↦ (
        let e : length (after_run number (row ∷ rows)) ≡ length (after_run number rows) = ap length (cond-true _ _ _ t) in
        omega (arith, e, after_shorter number rows))
    | inr f ↦ (
        let e : length (after_run number (row ∷ rows)) ≡ suc (length rows) = ap length (cond-false _ _ _ f) in omega (arith, e))
  ]

  own_number : (row : Named M) → has_number row.number row ≡ true
  own_number row = eq-eqb row.number row.number refl

  -- fewer rows are left
  pub fewer : (row : Named M) (rows : List (Named M)) → length (after_run row.number (row ∷ rows)) < length (row ∷ rows)
  fewer row rows =
      let e : length (after_run row.number (row ∷ rows)) ≡ length (after_run row.number rows) =
      ap length (cond-true _ _ _ (own_number row)) in
      omega (arith, e, after_shorter row.number rows)

  together_after : (number : ℕ) (rows : List (Named M)) → AreTogether rows → AreTogether (after_run number rows)
  together_after number [] h = tt
  together_after number (row ∷ rows) h = elim (cases_Bool (has_number number row)) [
    | inl t ↦ subst AreTogether (sym (cond-true _ _ _ t)) (together_after number rows h.1)
    | inr f ↦ subst AreTogether (sym (cond-false _ _ _ f)) h
  ]

  none_of_it : (number : ℕ) (rows : List (Named M)) → list_any (has_number number) rows ≡ false → filter (has_number number) rows ≡ []
  none_of_it number [] h = refl
  none_of_it number (row ∷ rows) h =
      let both = or_parts (has_number number row) (list_any (has_number number) rows) h in
      cond-false _ _ _ both.0 ∙ none_of_it number rows both.1

  -- where no later row has the hash, the leading ones are all
  run_is_all : (number : ℕ) (rows : List (Named M)) → list_any (has_number number) (after_run number rows) ≡ false
      → filter (has_number number) rows ≡ run_of number rows
  run_is_all number [] h = refl
  run_is_all number (row ∷ rows) h = elim (cases_Bool (has_number number row)) [
    | inl t ↦ (
        cond-true _ _ _ t ∙ ap (λ l. row ∷ l) (run_is_all number rows (sym (ap (list_any (has_number number)) (cond-true _ _ _ t)) ∙ h))
        ∙ sym (cond-true _ _ _ t))
    | inr f ↦ (
        let none : list_any (has_number number) (row ∷ rows) ≡ false = sym (ap (list_any (has_number number)) (cond-false _ _ _ f)) ∙ h in
        none_of_it number (row ∷ rows) none ∙ sym (cond-false _ _ _ f))
  ]

  other_number : (number other : ℕ) (row : Named M) → (number == other) ≡ false → has_number number row ≡ true
      → has_number other row ≡ false
  other_number number other row different has = ap (λ n. (n == other)) (eqb-true row.number number has) ∙ different

  others_stay : (number other : ℕ) (rows : List (Named M)) → (number == other) ≡ false
      → filter (has_number other) rows ≡ filter (has_number other) (after_run number rows)
  others_stay number other [] different = refl
  others_stay number other (row ∷ rows) different = elim (cases_Bool (has_number number row)) [
    | inl t ↦ (
        cond-false _ _ _ (other_number number other row different t) ∙ others_stay number other rows different
        ∙ ap (filter (has_number other)) (sym (cond-true _ _ _ t)))
    | inr f ↦ ap (filter (has_number other)) (sym (cond-false _ _ _ f))
  ]

  any_stays : (number other : ℕ) (rows : List (Named M)) → (number == other) ≡ false
      → list_any (has_number other) rows ≡ list_any (has_number other) (after_run number rows)
  any_stays number other [] different = refl
  any_stays number other (row ∷ rows) different = elim (cases_Bool (has_number number row)) [
    | inl t ↦ (
        ap (λ b. b || list_any (has_number other) rows) (other_number number other row different t) ∙ any_stays number other rows different
        ∙ ap (list_any (has_number other)) (sym (cond-true _ _ _ t)))
    | inr f ↦ ap (list_any (has_number other)) (sym (cond-false _ _ _ f))
  ]

  -- no row left has the hash, and no group has it
  abbrev has_none : ℕ → List (Group M) → Type 0
  has_none number groups = All (λ group. is_group_of number group ≡ false) groups

-- the rows of each hash are left, or are fewer than two, or a group has them
pub record IsLeft {M : Type 0} (rows rest : List (Named M)) (groups : List (Group M)) : Type 0 where
  pub together : AreTogether rest
  pub each : All (HasAll rows) groups
  pub once : IsDistinct have_one_number groups
  pub later : (number : ℕ) → list_any (has_number number) rest ≡ true
      → (filter (has_number number) rest ≡ filter (has_number number) rows) × has_none number groups
  pub done : (number : ℕ) → list_any (has_number number) rest ≡ false → has_none number groups
      → length (filter (has_number number) rows) < 2

no_group : (M : Type 0) → IsDistinct (λ (a b : Group M). have_one_number a b) []
unfolding IsDistinct
no_group M = tt

module _ {M : Type 0} where
  -- without groups all rows are left
  pub all_left : (rows : List (Named M)) (groups : List (Group M)) → AreTogether rows → groups ≡ [] → IsLeft rows rows groups
  all_left rows groups together none = subst (IsLeft rows rows) (sym none) record {
    together = together;
    each = All-nil (HasAll rows);
    once = no_group M;
    later = λ number h. (refl, All-nil (λ group. is_group_of number group ≡ false));
    done = λ number h none.
        let e : length (filter (has_number number) rows) ≡ 0 = ap length (none_of_it number rows h) in omega (arith, e);
  }

  -- one more group, of a hash that no group has
  once_more : (groups : List (Group M)) (group : Group M) → IsDistinct have_one_number groups → has_none group.number groups
      → IsDistinct have_one_number (groups ++ group ∷ [])
  unfolding IsDistinct
  once_more groups group once none = more groups once (recursion_from_All _ groups none) where
    apart : (one : Group M) (gs : List (Group M)) → is_group_of group.number one ≡ false
        → AllByRecursion (λ y. have_one_number one y ≡ false) gs → AllByRecursion (λ y. have_one_number one y ≡ false) (gs ++ group ∷ [])
    apart one [] other h = (other, tt)
    apart one (g ∷ gs) other h = (h.0, apart one gs other h.1)

    more : (gs : List (Group M)) → IsDistinct have_one_number gs → AllByRecursion (λ g. is_group_of group.number g ≡ false) gs
        → IsDistinct have_one_number (gs ++ group ∷ [])
    more [] h new = (tt, tt)
    more (g ∷ gs) h new = (apart g gs new.0 h.0, more gs h.1 new.1)

  -- the rows of one more hash
  pub one_less : (rows : List (Named M)) (row : Named M) (tail : List (Named M)) (old new : List (Group M)) (group : Group M)
      → IsLeft rows (row ∷ tail) old → group.number ≡ row.number → group.rows.now ≡ run_of row.number (row ∷ tail)
      → new ≡ old ++ several group → IsLeft rows (after_run row.number (row ∷ tail)) new
  one_less rows row tail old new group left called is step =
      let number = row.number in
      let rest = row ∷ tail in
      let own : has_number number row ≡ true = own_number row in
      let gone : list_any (has_number number) (after_run number rest) ≡ false =
      ap (list_any (has_number number)) (cond-true _ _ _ own) ∙ left.together.0 in
      let before = left.later number (or_left _ _ own) in
      let all : group.rows.now ≡ filter (has_number number) rows = is ∙ sym (run_is_all number rest gone) ∙ before.0 in
      let others = λ (other : ℕ) (h : list_any (has_number other) (after_run number rest) ≡ true).
      false_from_ne_true ((number == other)) (λ t. false≢true (sym gone
      ∙ ap (λ n. list_any (has_number n) (after_run number rest)) (eqb-true number other t) ∙ h)) in
      elim (cases_Bool (nat_lt 1 (length group.rows.now))) [
        | inl t ↦ subst (IsLeft rows (after_run number rest)) (sym (step ∙ ap (λ l. old ++ l) (cond-true _ _ _ t))) record {
          together = together_after number rest left.together;
          each = all_more (HasAll rows) old group left.each
              (all ∙ ap (λ n. filter (has_number n) rows) (sym called));
          once = once_more old group left.once (subst (λ n. has_none n old) (sym called) before.1);
          later = λ other h.
              let different = others other h in
              let kept = left.later other (any_stays number other rest different ∙ h) in (
                sym (others_stay number other rest different) ∙ kept.0,
                all_more (λ g. is_group_of other g ≡ false) old group kept.1 (ap (λ n. (n == other)) called ∙ different),
              );
          done = λ other h none.
              let both = all_less (λ g. is_group_of other g ≡ false) old group none in
              left.done other (any_stays number other rest (ap (λ n. (n == other)) (sym called) ∙ both.1) ∙ h) both.0;
        }
        | inr f ↦ subst (IsLeft rows (after_run number rest))
            (sym (step ∙ ap (λ l. old ++ l) (cond-false _ _ _ f) ∙ append-nil old)) record {
              together = together_after number rest left.together;
              each = left.each;
              once = left.once;
              later = λ other h.
                  let different = others other h in
                  let kept = left.later other (any_stays number other rest different ∙ h) in
                  (sym (others_stay number other rest different) ∙ kept.0, kept.1);
              done = λ other h none. elim (cases_Bool ((number == other))) [
                | inl t ↦ (
                    let few : length (filter (has_number number) rows) < 2 =
                    (let e : length group.rows.now ≡ length (filter (has_number number) rows) = ap length all in
                    omega (arith, e, ltb-false 1 (length group.rows.now) f)) in
                    subst (λ n. length (filter (has_number n) rows) < 2) (eqb-true number other t) few)
                | inr different ↦ left.done other (any_stays number other rest different ∙ h) none
              ];
            }
      ]

  -- with no rows left, each hash with several rows has a group
  pub none_left : (rows : List (Named M)) (start : ℕ) (groups : List (Group M)) → length rows ≤ start → IsLeft rows (drop start rows) groups
      → AreGroups rows groups
  none_left rows start groups past left =
      let end = subst (λ l. IsLeft rows l groups) (drop_all start rows past) left in
      record { each = end.each; once = end.once; others = λ number none. end.done number refl none }

  -- ---- the rows from an index on

  front_of : (rows : List (Named M)) (start : ℕ) (row : Named M) → start < length rows → row ≡ get_or rows start row
      → drop start rows ≡ row ∷ drop (suc start) rows
  front_of rows start row within is = drop-cons rows start row within ∙ ap (λ r. r ∷ drop (suc start) rows) (sym is)

  -- fewer rows are left
  pub run_fewer : (rows : List (Named M)) (start count : ℕ) (row : Named M) → start < length rows → row ≡ get_or rows start row
      → drop count (take (length rows - start) (drop start rows)) ≡ after_run row.number (take (length rows - start) (drop start rows))
      → length rows - (start + count) < length rows - start
  run_fewer rows start count row within is cut =
      let rest : drop count (drop start rows) ≡ after_run row.number (drop start rows) =
      subst (λ l. drop count l ≡ after_run row.number l) (take_rest rows start) cut in
      let less : length (after_run row.number (drop start rows)) < length (drop start rows) =
      subst (λ l. length (after_run row.number l) < length l) (sym (front_of rows start row within is))
      (fewer row (drop (suc start) rows)) in
      omega (arith, within, less, ap length rest, length-drop start rows, length-drop count (drop start rows))

  -- the rows of one more hash, from an index on
  pub less_left : (rows : List (Named M)) (start : ℕ) (row : Named M) (old new : List (Group M)) (group : Group M)
      → start < length rows → row ≡ get_or rows start row → IsLeft rows (drop start rows) old
      → group.number ≡ row.number
      → group.rows.now ≡ run_of row.number (take (length rows - start) (drop start rows))
      → drop (length group.rows.now) (take (length rows - start) (drop start rows))
      ≡ after_run row.number (take (length rows - start) (drop start rows))
      → length group.rows.now ≤ length (take (length rows - start) (drop start rows))
      → new ≡ old ++ several group
      → (start + length group.rows.now ≤ length rows) × IsLeft rows (drop (start + length group.rows.now) rows) new
  less_left rows start row old new group inside is left called cut_own cut_rest cut_within step =
      let count = length group.rows.now in
      let whole = take_rest rows start in
      let own : group.rows.now ≡ run_of row.number (drop start rows) = cut_own ∙ ap (run_of row.number) whole in
      let rest : drop count (drop start rows) ≡ after_run row.number (drop start rows) =
      subst (λ l. drop count l ≡ after_run row.number l) whole cut_rest in
      let within : count ≤ length (drop start rows) = subst (λ l. count ≤ length l) whole cut_within in
      let front = front_of rows start row inside is in
      let tail = drop (suc start) rows in
      let end : after_run row.number (row ∷ tail) ≡ drop (start + count) rows =
      ap (after_run row.number) (sym front) ∙ sym rest ∙ drop-drop count start rows in (
        omega (arith, inside, within, length-drop start rows),
        subst (λ l. IsLeft rows l new) end
            (one_less rows row tail old new group (subst (λ l. IsLeft rows l old) front left) called
            (own ∙ ap (run_of row.number) front) step),
      )

  -- ---- groups in another order

  same_number_turned : (x y : Group M) → have_one_number x y ≡ have_one_number y x
  same_number_turned x y = eqb_turned x.number y.number

  pub groups_moved : (rows : List (Named M)) (old new : List (Group M)) → IsPermutation old new → AreGroups rows old → AreGroups rows new
  groups_moved rows old new moved are = record {
    each = All-permutation (HasAll rows) old new moved are.each;
    once = IsDistinct-IsPermutation have_one_number same_number_turned old new moved are.once;
    others = λ number none. are.others number
        (All-permutation (λ group. is_group_of number group ≡ false) new old (IsPermutation-sym old new moved) none);
  }
