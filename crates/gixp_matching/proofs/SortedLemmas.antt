-- Local names are in byte order.
use Rattle.std.proofs.Common.{◌≡◌, ℕ, Bool, true, false, List, [], ◌∷◌, Option, Some, None, Ordering, ap, sym, ◌∙◌, refl, inl, inr}
use Rattle.std.specs.declared.cmp.Ordering.TheVariants.{Less, Equal, Greater}
use Rattle.std.specs.Ordering.{is_lt, nat_cmp, ordering_reverse}
use Rattle.std.specs.Cmp.Lexicographic.{slice_cmp}
use Rattle.std.specs.List.{list_all, fold}
use Rattle.std.specs.Str.{bytes_eq}
use Rattle.std.proofs.lemmas.Bool.{cases_Bool, cond-true, cond-false, and_parts, and_from, false≢true}
use Rattle.std.proofs.lemmas.Cmp.{nat_list_cmp_total}
use Rattle.std.proofs.lemmas.Map.Lookups.{exact_bytes}
use Rattle.std.proofs.lemmas.Slice.Eq.{bytes_eq-Decides}
use Rattle.gixp_matching.specs.Mappings.{Mapped}
use Rattle.gixp_matching.specs.Validation.{is_below, insert_name, insert_local, local_names}
use Rattle.gixp_matching.specs.RefspecLaws.{is_increasing}

pub less_is : (o : Ordering) → is_lt o ≡ true → o ≡ Less
less_is Less h = refl
less_is Equal h = cc
less_is Greater h = cc

turned : (o : Ordering) → is_lt o ≡ false → (o ≡ Equal → ⊥) → is_lt (ordering_reverse o) ≡ true
turned Less h n = cc
turned Equal h n = absurd (n refl)
turned Greater h n = refl

pub below_trans : (a b c : List ℕ) → is_below a b ≡ true → is_below b c ≡ true → is_below a c ≡ true
below_trans a b c h k = ap is_lt (nat_list_cmp_total.trans a b c (less_is (slice_cmp nat_cmp a b) h) (less_is (slice_cmp nat_cmp b c) k))

pub other_below : (first new : List ℕ) → is_below first new ≡ false → bytes_eq first new ≡ false → is_below new first ≡ true
other_below first new h other =
    ap is_lt (nat_list_cmp_total.antisymm new first)
    ∙ turned (slice_cmp nat_cmp first new) h (λ e. false≢true (sym other ∙ (bytes_eq-Decides first new).1 (exact_bytes first new e)))

all_weaker : (p q : List ℕ → Bool) → ((x : List ℕ) → p x ≡ true → q x ≡ true) → (xs : List (List ℕ)) → list_all p xs ≡ true
    → list_all q xs ≡ true
all_weaker p q h [] t = refl
all_weaker p q h (x ∷ xs) t = let both = and_parts (p x) (list_all p xs) t in and_from _ _ (h x both.0) (all_weaker p q h xs both.1)

insert_all : (x new : List ℕ) (names : List (List ℕ)) → is_below x new ≡ true → list_all (is_below x) names ≡ true
    → list_all (is_below x) (insert_name new names) ≡ true
insert_all x new [] h all = and_from _ _ h refl
insert_all x new (first ∷ rest) h all =
    let both = and_parts (is_below x first) (list_all (is_below x) rest) all in
    elim (cases_Bool (is_below first new)) [
      | inl below ↦ ap (list_all (is_below x)) (cond-true _ _ _ below) ∙ and_from _ _ both.0 (insert_all x new rest h both.1)
      | inr above ↦ elim (cases_Bool (bytes_eq first new)) [
        | inl same ↦ ap (list_all (is_below x)) (cond-false _ _ _ above ∙ cond-true _ _ _ same) ∙ all
        | inr other ↦ ap (list_all (is_below x)) (cond-false _ _ _ above ∙ cond-false _ _ _ other) ∙ and_from _ _ h all
      ]
    ]

-- an insertion keeps the order
increasing-insert_name : (new : List ℕ) (names : List (List ℕ)) → is_increasing names ≡ true → is_increasing (insert_name new names) ≡ true
increasing-insert_name new [] h = refl
increasing-insert_name new (first ∷ rest) h =
    let both = and_parts (list_all (is_below first) rest) (is_increasing rest) h in
    elim (cases_Bool (is_below first new)) [
      | inl below ↦ ap is_increasing (cond-true _ _ _ below)
          ∙ and_from _ _ (insert_all first new rest below both.0) (increasing-insert_name new rest both.1)
      | inr above ↦ elim (cases_Bool (bytes_eq first new)) [
        | inl same ↦ ap is_increasing (cond-false _ _ _ above ∙ cond-true _ _ _ same) ∙ h
        | inr other ↦ (
            let lower = other_below first new above other in
            let later = all_weaker (is_below first) (is_below new) (λ x. below_trans new first x lower) rest both.0 in
            ap is_increasing (cond-false _ _ _ above ∙ cond-false _ _ _ other) ∙ and_from _ _ (and_from _ _ lower later) h)
      ]
    ]

-- inserting a local name keeps the order
increasing-insert_local : (local : Option (List ℕ)) (names : List (List ℕ)) → is_increasing names ≡ true
    → is_increasing (insert_local local names) ≡ true
increasing-insert_local None names h = h
increasing-insert_local (Some new) names h = increasing-insert_name new names h

-- several insertions keep the order
increasing-fold : (ms : List Mapped) (names : List (List ℕ)) → is_increasing names ≡ true
    → is_increasing (fold (λ ns m. insert_local m.local ns) names ms) ≡ true
increasing-fold [] names h = h
increasing-fold (m ∷ ms) names h = increasing-fold ms (insert_local m.local names) (increasing-insert_local m.local names h)

-- the local names ascend
pub increasing-local_names : (ms : List Mapped) → is_increasing (local_names ms) ≡ true
increasing-local_names ms = increasing-fold ms [] refl
