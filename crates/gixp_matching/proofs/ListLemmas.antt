-- Steps of loops that append the results for each element.
use Rattle.std.proofs.Common.{◌≡◌, cond, ℕ, ◌+◌, ◌<◌, List, [], ◌∷◌, ◌++◌, length, take, map, get_or, Bool, true, false, inl, inr, Some, ap, sym, ◌∙◌, refl, append_assoc}
use Rattle.std.specs.Prelude.{◌||◌, filter}
use Rattle.std.specs.List.{list_any, fold, flat_map, slice_get}
use Rattle.std.proofs.lemmas.List.Sums.{fold_more}
use Rattle.std.proofs.lemmas.Bool.{cases_Bool}
use Rattle.std.proofs.lemmas.List.{take_more, get_or-map, length-map, map-append, append-nil}
use Rattle.std.proofs.lemmas.List.Elements.{filter-append}
use Rattle.std.proofs.lemmas.List.Folds.{list_any-append}
use Rattle.gixp_packetline.proofs.ListLemmas.{take-map_more}

-- a step of a loop that appends the result for each element that passes
pub filtered_step : {A B C : Type 0} (h : A → B) (p : B → Bool) (g : B → C) (now new : List C) (xs : List A) (i : ℕ) (d : A) → i < length xs
    → now ≡ map g (filter p (take i (map h xs))) → new ≡ now ++ map g (filter p (h (get_or xs i d) ∷ []))
    → new ≡ map g (filter p (take (i + 1) (map h xs)))
filtered_step h p g now new xs i d l kept step =
    let front = take i (map h xs) in
    let last = h (get_or xs i d) ∷ [] in
    step ∙ ap (λ z. z ++ map g (filter p last)) kept ∙ sym (map-append g (filter p front) (filter p last))
    ∙ ap (map g) (sym (filter-append p front last)) ∙ ap (λ z. map g (filter p z)) (sym (take-map_more h xs i d l))

-- a step of a loop that appends the result for each element that passes, where the element was read as x
pub filtered_more : {A B C : Type 0} (h : A → B) (p : B → Bool) (g : B → C) (now new : List C) (xs : List A) (i : ℕ) (x : A)
    → x ≡ get_or xs i x → i < length xs
    → now ≡ map g (filter p (take i (map h xs))) → new ≡ now ++ map g (filter p (h x ∷ []))
    → new ≡ map g (filter p (take (i + 1) (map h xs)))
filtered_more h p g now new xs i x e l kept step =
    filtered_step h p g now new xs i x l kept (step ∙ ap (λ y. now ++ map g (filter p (h y ∷ []))) e)

pub folded_more : {A B C : Type 0} (h : A → B) (f : C → B → C) (a now new : C) (xs : List A) (i : ℕ) (x : A) → x ≡ get_or xs i x
    → i < length xs
    → now ≡ fold f a (take i (map h xs)) → new ≡ f now (h x) → new ≡ fold f a (take (i + 1) (map h xs))
folded_more h f a now new xs i x e l kept step =
    let within : i < length (map h xs) = rw length-map l in
    step ∙ ap (λ y. f now (h y)) e ∙ ap (λ z. f z (h (get_or xs i x))) kept
    ∙ ap (f (fold f a (take i (map h xs)))) (sym (get_or-map h xs i x (h x) l)) ∙ sym (fold_more f a (map h xs) i (h x) within)

pub filter_of_map : {A B : Type 0} (p : B → Bool) (h : A → B) (xs : List A) → filter p (map h xs) ≡ map h (filter (λ x. p (h x)) xs)
filter_of_map p h [] = refl
filter_of_map p h (x ∷ xs) = elim (cases_Bool (p (h x))) [
  | inl t ↦ rw t (ap (λ r. h x ∷ r) (filter_of_map p h xs))
  | inr f ↦ rw f (filter_of_map p h xs)
]

pub any_same : {A : Type 0} (p q : A → Bool) → ((x : A) → p x ≡ q x) → (xs : List A) → list_any p xs ≡ list_any q xs
any_same p q h [] = refl
any_same p q h (x ∷ xs) = ap (λ b. b || list_any p xs) (h x) ∙ ap (λ r. q x || r) (any_same p q h xs)

pub map_same : {A B : Type 0} (f g : A → B) → ((x : A) → f x ≡ g x) → (xs : List A) → map f xs ≡ map g xs
map_same f g h [] = refl
map_same f g h (x ∷ xs) = ap (λ y. y ∷ map f xs) (h x) ∙ ap (λ r. g x ∷ r) (map_same f g h xs)

pub kept_same : {A : Type 0} (p q : A → Bool) → ((x : A) → p x ≡ q x) → (xs : List A) → filter p xs ≡ filter q xs
kept_same p q h [] = refl
kept_same p q h (x ∷ xs) = ap (λ b. cond b (x ∷ filter p xs) (filter p xs)) (h x) ∙ ap (λ r. cond (q x) (x ∷ r) r) (kept_same p q h xs)

pub map_of_map : {A B C : Type 0} (f : B → C) (h : A → B) (xs : List A) → map f (map h xs) ≡ map (λ x. f (h x)) xs
map_of_map f h [] = refl
map_of_map f h (x ∷ xs) = ap (λ r. f (h x) ∷ r) (map_of_map f h xs)

-- a step of a loop that appends the result for each element
pub mapped_more : {A B C : Type 0} (h : A → B) (g : B → C) (now new : List C) (xs : List A) (i : ℕ) (x : A) → x ≡ get_or xs i x
    → i < length xs
    → now ≡ map g (take i (map h xs)) → new ≡ now ++ g (h x) ∷ [] → new ≡ map g (take (i + 1) (map h xs))
mapped_more h g now new xs i x e l kept step =
    let front = take i (map h xs) in
    step ∙ ap (λ y. now ++ g (h y) ∷ []) e ∙ ap (λ z. z ++ g (h (get_or xs i x)) ∷ []) kept
    ∙ sym (map-append g front (h (get_or xs i x) ∷ []))
    ∙ ap (map g) (sym (take-map_more h xs i x l))

pub flat_map_of_map : {A B C : Type 0} (f : B → List C) (h : A → B) (xs : List A) → flat_map f (map h xs) ≡ flat_map (λ x. f (h x)) xs
flat_map_of_map f h [] = refl
flat_map_of_map f h (x ∷ xs) = ap (λ l. f (h x) ++ l) (flat_map_of_map f h xs)

pub map_of_flat_map : {A B C : Type 0} (g : B → C) (f : A → List B) (xs : List A) → flat_map (λ x. map g (f x)) xs ≡ map g (flat_map f xs)
map_of_flat_map g f [] = refl
map_of_flat_map g f (x ∷ xs) = ap (λ l. map g (f x) ++ l) (map_of_flat_map g f xs) ∙ sym (map-append g (f x) (flat_map f xs))

pub flat_map_same : {A B : Type 0} (f g : A → List B) → ((x : A) → f x ≡ g x) → (xs : List A) → flat_map f xs ≡ flat_map g xs
flat_map_same f g h [] = refl
flat_map_same f g h (x ∷ xs) = ap (λ l. l ++ flat_map f xs) (h x) ∙ ap (λ l. g x ++ l) (flat_map_same f g h xs)

at_front : {X : Type 0} (front rest : List X) (x : X) → slice_get (front ++ x ∷ rest) (length front) ≡ Some x
at_front [] rest x = refl
at_front (y ∷ ys) rest x = at_front ys rest x

pub stands_at : {X : Type 0} (all front rest : List X) (x : X) (k : ℕ) → all ≡ front ++ x ∷ rest → k ≡ length front
    → slice_get all k ≡ Some x
stands_at all front rest x k h e = ap (λ l. slice_get l k) h ∙ ap (slice_get (front ++ x ∷ rest)) e ∙ at_front front rest x

flat_map-append_one : {A B : Type 0} (f : A → List B) (xs : List A) (x : A) → flat_map f (xs ++ x ∷ []) ≡ flat_map f xs ++ f x
flat_map-append_one f [] x = append-nil (f x)
flat_map-append_one f (y ∷ ys) x = ap (λ z. f y ++ z) (flat_map-append_one f ys x) ∙ sym (append_assoc (f y) (flat_map f ys) (f x))

-- a step of a loop over items that were yielded one by one
pub made_more : {A B : Type 0} (f : A → List B) (now new : List B) (xs : List A) (x : A) → now ≡ flat_map f xs → new ≡ now ++ f x
    → new ≡ flat_map f (xs ++ x ∷ [])
made_more f now new xs x kept step = step ∙ ap (λ z. z ++ f x) kept ∙ sym (flat_map-append_one f xs x)

-- a step of a loop that appends the results for each element, where the element was read as x
pub gathered_more : {A B C : Type 0} (h : A → B) (f : B → List C) (now new : List C) (xs : List A) (i : ℕ) (x : A) → x ≡ get_or xs i x
    → i < length xs
    → now ≡ flat_map f (take i (map h xs)) → new ≡ now ++ f (h x) → new ≡ flat_map f (take (i + 1) (map h xs))
gathered_more h f now new xs i x e l kept step =
    made_more f now new (take i (map h xs)) (h (get_or xs i x)) kept (step ∙ ap (λ y. now ++ f (h y)) e)
    ∙ ap (flat_map f) (sym (take-map_more h xs i x l))

-- a step of a loop that appends the results for each element after an old list
pub gathered_after : {A B C : Type 0} (h : A → B) (f : B → List C) (old now new : List C) (xs : List A) (i : ℕ) (d : A) → i < length xs
    → now ≡ old ++ flat_map f (take i (map h xs)) → new ≡ now ++ f (h (get_or xs i d)) → new ≡ old ++ flat_map f (take (i + 1) (map h xs))
gathered_after h f old now new xs i d l kept step =
    step ∙ ap (λ z. z ++ f (h (get_or xs i d))) kept ∙ append_assoc old (flat_map f (take i (map h xs))) (f (h (get_or xs i d)))
    ∙ ap (λ z. old ++ z) (sym (flat_map-append_one f (take i (map h xs)) (h (get_or xs i d)))
    ∙ ap (flat_map f) (sym (take-map_more h xs i d l)))

-- a step of a loop that appends the results for each element after an old list, without a mapping of the elements
pub gathered_here : {B C : Type 0} (f : B → List C) (old now new : List C) (xs : List B) (i : ℕ) (d : B) → i < length xs → now ≡ old
    ++ flat_map f (take i xs) → new ≡ now ++ f (get_or xs i d)
    → new ≡ old ++ flat_map f (take (i + 1) xs)
gathered_here f old now new xs i d l kept step =
    step ∙ ap (λ z. z ++ f (get_or xs i d)) kept ∙ append_assoc old (flat_map f (take i xs)) (f (get_or xs i d))
    ∙ ap (λ z. old ++ z) (sym (flat_map-append_one f (take i xs) (get_or xs i d)) ∙ ap (flat_map f) (sym (take_more xs i d l)))

-- a step of a loop that appends the result for each element
pub numbered_more : {A B : Type 0} (f : A → B) (now new : List B) (xs : List A) (i : ℕ) (d : A) (made : B) → i < length xs
    → now ≡ take i (map f xs) → made ≡ f (get_or xs i d) → new ≡ now ++ made ∷ []
    → new ≡ take (i + 1) (map f xs)
numbered_more f now new xs i d made l kept is step =
    step ∙ ap (λ y. now ++ y ∷ []) is ∙ ap (λ z. z ++ f (get_or xs i d) ∷ []) kept ∙ sym (take-map_more f xs i d l)

neither : (a b : Bool) → a ≡ false → b ≡ false → (a || (b || false)) ≡ false
neither false false e f = refl
neither true b e f = cc
neither false true e f = cc

-- a step of a loop that finds no match, where the element was read as x
pub none_more : {A B : Type 0} (h : A → B) (p : B → Bool) (xs : List A) (i : ℕ) (x : A) → x ≡ get_or xs i x → i < length xs
    → list_any p (take i (map h xs)) ≡ false → p (h x) ≡ false → list_any p (take (i + 1) (map h xs)) ≡ false
none_more h p xs i x e l none one =
    ap (list_any p) (take-map_more h xs i x l) ∙ list_any-append p (take i (map h xs)) (h (get_or xs i x) ∷ [])
    ∙ neither (list_any p (take i (map h xs))) (p (h (get_or xs i x))) none (ap (λ y. p (h y)) (sym e) ∙ one)
