-- Loops that append the results of a function for each element.
use Rattle.std.proofs.Common.{◌≡◌, ℕ, ◌+◌, ◌<◌, Bool, true, false, cond, Option, Some, List, [], ◌∷◌, ◌++◌, length, take, map, get_or, ap, sym, ◌∙◌, refl, append_assoc}
use Rattle.std.specs.Prelude.{filter, find}
use Rattle.std.specs.Option.{option_map}
use Rattle.std.proofs.lemmas.List.{map-append}
use Rattle.std.proofs.lemmas.List.Elements.{filter-append}
use Rattle.gixp_packetline.proofs.ListLemmas.{take-map_more}

-- one step of a loop that appends the results of the elements that pass a test
pub filtered_more : {A B C : Type 0} (h : A → B) (p : B → Bool) (g : B → C) (now new : List C) (xs : List A) (i : ℕ) (d : A) → i < length xs
    → now ≡ map g (filter p (take i (map h xs))) → new ≡ now ++ map g (filter p (h (get_or xs i d) ∷ []))
    → new ≡ map g (filter p (take (i + 1) (map h xs)))
filtered_more h p g now new xs i d l kept step =
    let front = take i (map h xs) in
    let last = h (get_or xs i d) ∷ [] in
    step ∙ ap (λ z. z ++ map g (filter p last)) kept ∙ sym (map-append g (filter p front) (filter p last))
    ∙ ap (map g) (sym (filter-append p front last)) ∙ ap (λ z. map g (filter p z)) (sym (take-map_more h xs i d l))

-- one step of a loop that appends a list for each element
pub joined_more : {A B C : Type 0} (F : List B → List C) → ((xs ys : List B) → F (xs ++ ys) ≡ F xs ++ F ys)
    → (h : A → B) (old now new : List C) (xs : List A) (i : ℕ) (d : A) → i < length xs
    → now ≡ old ++ F (take i (map h xs)) → new ≡ now ++ F (h (get_or xs i d) ∷ []) → new ≡ old ++ F (take (i + 1) (map h xs))
joined_more F parts h old now new xs i d l kept step =
    let front = take i (map h xs) in
    let last = h (get_or xs i d) ∷ [] in
    step ∙ ap (λ z. z ++ F last) kept ∙ append_assoc old (F front) (F last) ∙ ap (λ z. old ++ z) (sym (parts front last))
    ∙ ap (λ z. old ++ F z) (sym (take-map_more h xs i d l))

-- the same, where the element was read as x
pub joined_read : {A B C : Type 0} (F : List B → List C) → ((xs ys : List B) → F (xs ++ ys) ≡ F xs ++ F ys)
    → (h : A → B) (old now new : List C) (xs : List A) (i : ℕ) (x : A) → x ≡ get_or xs i x → i < length xs
    → now ≡ old ++ F (take i (map h xs)) → new ≡ now ++ F (h x ∷ []) → new ≡ old ++ F (take (i + 1) (map h xs))
joined_read F parts h old now new xs i x e l kept step =
    joined_more F parts h old now new xs i x l kept (step ∙ ap (λ y. now ++ F (h y ∷ [])) e)

some_map : {A B : Type 0} (b : Bool) (h : A → B) (x : A) (r : Option A) → cond b (Some (h x)) (option_map h r)
    ≡ option_map h (cond b (Some x) r)
some_map true h x r = refl
some_map false h x r = refl

-- the first result of a function that passes a test
pub find-map : {A B : Type 0} (p : B → Bool) (h : A → B) (xs : List A) → find p (map h xs) ≡ option_map h (find (λ x. p (h x)) xs)
find-map p h [] = refl
find-map p h (x ∷ xs) = ap (λ r. cond (p (h x)) (Some (h x)) r) (find-map p h xs) ∙ some_map (p (h x)) h x (find (λ y. p (h y)) xs)
