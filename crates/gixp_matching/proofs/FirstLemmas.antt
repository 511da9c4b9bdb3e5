-- The first of equal mappings.
use Rattle.std.proofs.Common.{◌≡◌, suc, length, arith, Bool, true, false, cond, List, [], ◌∷◌, ◌++◌, map, ap, sym, subst, ◌≤◌, ◌∙◌, refl, inl, inr}
use Rattle.std.specs.Prelude.{filter, not, ◌&&◌, ◌||◌}
use Rattle.std.specs.List.{list_all, list_any}
use Rattle.std.proofs.lemmas.Bool.{cases_Bool, false≢true}
use Rattle.std.proofs.lemmas.List.{length-map}
use Rattle.std.proofs.lemmas.List.Folds.{list_any-append}
use Rattle.gixp_matching.specs.Mappings.{Mapped, is_same, firsts}
use Rattle.gixp_matching.specs.Firsts.{is_fresh, first_flags, flagged}
use Rattle.gixp_matching.proofs.ListLemmas.{kept_same}

filter_both : (p q : Mapped → Bool) (ms : List Mapped) → filter p (filter q ms) ≡ filter (λ m. q m && p m) ms
filter_both p q [] = refl
filter_both p q (m ∷ ms) = elim (cases_Bool (q m)) [
  | inl t ↦ rw t (ap (λ r. cond (p m) (m ∷ r) r) (filter_both p q ms))
  | inr f ↦ rw f (filter_both p q ms)
]

filter_all : (ms : List Mapped) → filter (is_fresh []) ms ≡ ms
filter_all [] = refl
filter_all (m ∷ ms) = ap (λ r. m ∷ r) (filter_all ms)

none_of : (a b : Bool) → (not a && not b) ≡ not (b || (a || false))
none_of true true = refl
none_of true false = refl
none_of false true = refl
none_of false false = refl

fresh_more : (earlier : List Mapped) (m later : Mapped) → (not (is_same m later) && is_fresh earlier later)
    ≡ is_fresh (earlier ++ m ∷ []) later
fresh_more earlier m later =
    none_of (is_same m later) (list_any (λ e. is_same e later) earlier)
    ∙ ap not (sym (list_any-append (λ e. is_same e later) earlier (m ∷ [])))

-- the first flag keeps or drops the first element
flagged-cons : {A : Type 0} (x : A) (xs : List A) (b : Bool) (flags : List Bool)
    → flagged (x ∷ xs) (b ∷ flags) ≡ cond b (x ∷ flagged xs flags) (flagged xs flags)
flagged-cons x xs true flags = refl
flagged-cons x xs false flags = refl

-- the flags keep the first ones that are new
flagged-first_flags : (earlier ms : List Mapped) → flagged ms (first_flags earlier ms) ≡ filter (is_fresh earlier) (firsts ms)
flagged-first_flags earlier [] = refl
flagged-first_flags earlier (m ∷ ms) =
    let others = filter (λ later. not (is_same m later)) (firsts ms) in
    let rest = flagged-first_flags (earlier ++ m ∷ []) ms
    ∙ kept_same _ _ (λ later. sym (fresh_more earlier m later)) (firsts ms)
    ∙ sym (filter_both (is_fresh earlier) (λ later. not (is_same m later)) (firsts ms)) in
    flagged-cons m ms (is_fresh earlier m) (first_flags (earlier ++ m ∷ []) ms)
    ∙ ap (λ r. cond (is_fresh earlier m) (m ∷ r) r) rest

-- a function applied to the flagged elements
flagged-map : {A B : Type 0} (h : A → B) (xs : List A) (flags : List Bool) → map h (flagged xs flags) ≡ flagged (map h xs) flags
flagged-map h [] flags = refl
flagged-map h (x ∷ xs) [] = refl
flagged-map h (x ∷ xs) (true ∷ flags) = ap (λ r. h x ∷ r) (flagged-map h xs flags)
flagged-map h (x ∷ xs) (false ∷ flags) = flagged-map h xs flags

-- the flagged elements are the first of equal ones
pub values_from_flags : {A : Type 0} (h : A → Mapped) (xs kept : List A) → kept ≡ flagged xs (first_flags [] (map h xs))
    → map h kept ≡ firsts (map h xs)
values_from_flags h xs kept e =
    ap (map h) e ∙ flagged-map h xs (first_flags [] (map h xs)) ∙ flagged-first_flags [] (map h xs) ∙ filter_all (firsts (map h xs))

pub or_none : (b : Bool) → (b || false) ≡ b
or_none true = refl
or_none false = refl

-- there are as many flags as mappings
pub length-first_flags : (earlier ms : List Mapped) → length (first_flags earlier ms) ≡ length ms
length-first_flags earlier [] = refl
length-first_flags earlier (m ∷ ms) = ap suc (length-first_flags (earlier ++ m ∷ []) ms)

-- with all flags set, all elements are kept
pub all_flagged : {A : Type 0} (xs : List A) (flags : List Bool) → length flags ≡ length xs → list_all (λ flag. flag) flags ≡ true
    → flagged xs flags ≡ xs
all_flagged [] flags l h = refl
all_flagged (x ∷ xs) [] l h = absurd (omega (arith, l))
all_flagged (x ∷ xs) (true ∷ flags) l h = ap (λ r. x ∷ r) (all_flagged xs flags (omega (arith, l)) h)
all_flagged (x ∷ xs) (false ∷ flags) l h = absurd (false≢true h)

fewer_flagged : {A : Type 0} (xs : List A) (flags : List Bool) → length (flagged xs flags) ≤ length xs
fewer_flagged [] flags = omega arith
fewer_flagged (x ∷ xs) [] = omega arith
fewer_flagged (x ∷ xs) (true ∷ flags) = let few = fewer_flagged xs flags in omega arith
fewer_flagged (x ∷ xs) (false ∷ flags) = let few = fewer_flagged xs flags in omega arith

-- where as many elements are kept as there are, all are
kept_by_count : {A : Type 0} (xs : List A) (flags : List Bool) → length (flagged xs flags) ≡ length xs → flagged xs flags ≡ xs
kept_by_count [] flags l = refl
kept_by_count (x ∷ xs) [] l = absurd (omega (arith, l))
kept_by_count (x ∷ xs) (true ∷ flags) l = ap (λ r. x ∷ r) (kept_by_count xs flags (omega (arith, l)))
kept_by_count (x ∷ xs) (false ∷ flags) l = absurd (omega (arith, fewer_flagged xs flags, l))

-- where no mapping is equal to an earlier one, the flags keep all
pub firsts_flagged : {A : Type 0} (h : A → Mapped) (xs items : List A) → items ≡ xs → firsts (map h items) ≡ map h items
    → xs ≡ flagged xs (first_flags [] (map h xs))
firsts_flagged h xs items same e =
    let flags = first_flags [] (map h xs) in
    let f : firsts (map h xs) ≡ map h xs = subst (λ ys. firsts (map h ys) ≡ map h ys) same e in
    sym (kept_by_count xs flags (sym (length-map (flagged xs flags) h) ∙ ap length (flagged-map h xs flags
    ∙ flagged-first_flags [] (map h xs) ∙ filter_all (firsts (map h xs)) ∙ f) ∙ length-map xs h))
