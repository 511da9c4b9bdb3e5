-- A property of the first mapping of each set of equal ones is a property of all mappings that are kept.
use Rattle.std.proofs.Common.{◌≡◌, Bool, true, false, List, [], ◌∷◌, ◌++◌, ◌⊎◌, inl, inr, ap, sym, ◌∙◌, refl, subst}
use Rattle.std.specs.Prelude.{filter, not, ◌&&◌, ◌||◌}
use Rattle.std.specs.List.{list_any, AllByRecursion}
use Rattle.std.proofs.lemmas.Bool.{cases_Bool, false≢true}
use Rattle.gixp_matching.specs.Mappings.{Mapped, is_same, firsts}

-- one of these mappings has the same source and local name
abbrev pub has_same : List Mapped → Mapped → Bool
has_same known m = list_any (λ k. is_same k m) known

-- each mapping is good, or an earlier one has the same source and local name
abbrev pub Backed : (Mapped → Type 0) → List Mapped → List Mapped → Type 0
Backed G known [] = Unit {0}
Backed G known (m ∷ ms) = (G m ⊎ (has_same known m ≡ true)) × Backed G (m ∷ known) ms

filter_twice : {A : Type 0} (p q r : A → Bool) → ((x : A) → r x ≡ (q x && p x)) → (xs : List A) → filter p (filter q xs) ≡ filter r xs
filter_twice p q r h [] = refl
filter_twice p q r h (x ∷ xs) = elim (cases_Bool (q x)) [
  | inl t ↦ elim (cases_Bool (p x)) [
    | inl u ↦ let e : r x ≡ true = h x ∙ ap (λ b. b && p x) t ∙ u in rw (t, e) (rw u (ap (λ ys. x ∷ ys) (filter_twice p q r h xs)))
    | inr v ↦ let e : r x ≡ false = h x ∙ ap (λ b. b && p x) t ∙ v in rw (t, e) (rw v (filter_twice p q r h xs))
  ]
  | inr f ↦ let e : r x ≡ false = h x ∙ ap (λ b. b && p x) f in rw (f, e) (filter_twice p q r h xs)
]

neither : (a b : Bool) → not (a || b) ≡ (not a && not b)
neither true b = refl
neither false b = refl

kept_one : (G : Mapped → Type 0) (F : Mapped → Bool) (m : Mapped) (xs : List Mapped) → (F m ≡ true → G m)
    → AllByRecursion G (filter F xs) → AllByRecursion G (filter F (m ∷ xs))
kept_one G F m xs h t = elim (cases_Bool (F m)) [
  | inl y ↦ rw y (h y, t)
  | inr n ↦ rw n t
]

pick : (A : Type 0) (b : Bool) → (A ⊎ (b ≡ true)) → not b ≡ true → A
pick A b (inl a) h = a
pick A b (inr e) h = absurd (false≢true (sym (ap not e) ∙ h))

-- among backed mappings, the first ones that are new are good
new_are_good : (G : Mapped → Type 0) (known ms : List Mapped) → Backed G known ms
    → AllByRecursion G (filter (λ m. not (has_same known m)) (firsts ms))
new_are_good G known [] h = tt
new_are_good G known (m ∷ ms) h =
    kept_one G (λ x. not (has_same known x)) m (filter (λ later. not (is_same m later)) (firsts ms))
    (λ y. pick (G m) (has_same known m) h.0 y)
    (subst (AllByRecursion G)
    (sym (filter_twice (λ x. not (has_same known x)) (λ later. not (is_same m later)) (λ x. not (has_same (m ∷ known) x))
    (λ x. neither (is_same m x) (has_same known x)) (firsts ms)))
    (new_are_good G (m ∷ known) ms h.1))

filter_all : {A : Type 0} (xs : List A) → filter (λ x. true) xs ≡ xs
filter_all [] = refl
filter_all (x ∷ xs) = ap (λ ys. x ∷ ys) (filter_all xs)

-- the first ones of backed mappings are good
pub firsts_are_good : (G : Mapped → Type 0) (ms : List Mapped) → Backed G [] ms → AllByRecursion G (firsts ms)
firsts_are_good G ms h = subst (AllByRecursion G) (filter_all (firsts ms)) (new_are_good G [] ms h)

-- backed mappings, followed by others that are backed by all earlier ones
pub backed_append : (G : Mapped → Type 0) (known xs ys : List Mapped) → Backed G known xs → ((k : List Mapped) → Backed G k ys)
    → Backed G known (xs ++ ys)
backed_append G known [] ys h t = t known
backed_append G known (m ∷ xs) ys h t = (h.0, backed_append G (m ∷ known) xs ys h.1 t)

-- a property of all mappings is a property of those that are kept
pub all_filter : (G : Mapped → Type 0) (F : Mapped → Bool) (xs : List Mapped) → AllByRecursion G xs → AllByRecursion G (filter F xs)
all_filter G F [] h = tt
all_filter G F (x ∷ xs) h = kept_one G F x xs (λ y. h.0) (all_filter G F xs h.1)
