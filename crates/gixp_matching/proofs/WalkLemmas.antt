-- Steps of loops that append the results for each index and element.
use Rattle.std.proofs.Common.{◌≡◌, ℕ, ◌+◌, ◌<◌, List, [], ◌∷◌, ◌++◌, length, drop, map, get_or, ap, sym, ◌∙◌, append_assoc, Bool}
use Rattle.std.specs.Prelude.{filter}
use Rattle.std.specs.List.{flat_map, enumerate_from}
use Rattle.std.proofs.lemmas.List.{get_or-map, length-map, append-nil, drop_more}
use Rattle.std.proofs.lemmas.List.Elements.{filter-append}
use Rattle.std.proofs.Math.Seq.{drop-length}

-- the next index and element
enumerate-drop : {A B : Type 0} (h : A → B) (xs : List A) (i : ℕ) (d : A) → i < length xs → enumerate_from i (drop i (map h xs))
    ≡ (i, h (get_or xs i d)) ∷ enumerate_from (i + 1) (drop (i + 1) (map h xs))
enumerate-drop h xs i d l =
    let within : i < length (map h xs) = rw length-map l in
    ap (enumerate_from i) (drop_more (map h xs) i (h d) within)
    ∙ ap (λ y. (i, y) ∷ enumerate_from (i + 1) (drop (i + 1) (map h xs))) (get_or-map h xs i d (h d) l)

-- one step: the results so far and those to come are all results
pub walked : {A B C : Type 0} (h : A → B) (f : ℕ × B → List C) (all now new : List C) (xs : List A) (i : ℕ) (d : A) → i < length xs
    → now ++ flat_map f (enumerate_from i (drop i (map h xs))) ≡ all → new ≡ now ++ f (i, h (get_or xs i d))
    → new ++ flat_map f (enumerate_from (i + 1) (drop (i + 1) (map h xs))) ≡ all
walked h f all now new xs i d l kept step =
    let rest = flat_map f (enumerate_from (i + 1) (drop (i + 1) (map h xs))) in
    ap (λ z. z ++ rest) step ∙ append_assoc now (f (i, h (get_or xs i d))) rest
    ∙ ap (λ e. now ++ flat_map f e) (sym (enumerate-drop h xs i d l)) ∙ kept

-- one step, where the element was read as x
pub walked_at : {A B C : Type 0} (h : A → B) (f : ℕ × B → List C) (all now new : List C) (xs : List A) (i : ℕ) (x : A)
    → x ≡ get_or xs i x → i < length xs
    → now ++ flat_map f (enumerate_from i (drop i (map h xs))) ≡ all → new ≡ now ++ f (i, h x)
    → new ++ flat_map f (enumerate_from (i + 1) (drop (i + 1) (map h xs))) ≡ all
walked_at h f all now new xs i x e l kept step = walked h f all now new xs i x l kept (step ∙ ap (λ y. now ++ f (i, h y)) e)

-- after the last step
pub walked_all : {A B C : Type 0} (h : A → B) (f : ℕ × B → List C) (all now : List C) (xs : List A) (i : ℕ) → i ≡ length xs
    → now ++ flat_map f (enumerate_from i (drop i (map h xs))) ≡ all → now ≡ all
walked_all h f all now xs i e kept =
    let same : i ≡ length (map h xs) = rw length-map e in
    let none : drop i (map h xs) ≡ [] = ap (λ n. drop n (map h xs)) same ∙ drop-length (map h xs) in
    sym (append-nil now) ∙ ap (λ ys. now ++ flat_map f (enumerate_from i ys)) (sym none) ∙ kept

-- a step of a loop that lists each index and element that passes
pub listed : {A B : Type 0} (h : A → B) (p : ℕ × B → Bool) (all now new : List (ℕ × B)) (xs : List A) (i : ℕ) (d : A) → i < length xs
    → now ++ filter p (enumerate_from i (drop i (map h xs))) ≡ all → new ≡ now ++ filter p ((i, h (get_or xs i d)) ∷ [])
    → new ++ filter p (enumerate_from (i + 1) (drop (i + 1) (map h xs))) ≡ all
listed h p all now new xs i d l kept step =
    let one = (i, h (get_or xs i d)) ∷ [] in
    let rest = enumerate_from (i + 1) (drop (i + 1) (map h xs)) in
    ap (λ z. z ++ filter p rest) step ∙ append_assoc now (filter p one) (filter p rest)
    ∙ ap (λ z. now ++ z) (sym (filter-append p one rest)) ∙ ap (λ e. now ++ filter p e) (sym (enumerate-drop h xs i d l)) ∙ kept
