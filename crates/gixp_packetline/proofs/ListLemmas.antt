-- Lists that are built from a function of each element.
use Rattle.std.proofs.Common.{◌≡◌, ℕ, ◌+◌, ◌<◌, Bool, List, [], ◌∷◌, ◌++◌, length, take, map, get_or, ap, sym, ◌∙◌, refl, append_assoc}
use Rattle.std.specs.Prelude.{◌||◌}
use Rattle.std.specs.List.{list_any}
use Rattle.std.proofs.lemmas.List.{take_more, get_or-map, length-map}

-- the function of one more element
pub take-map_more : {A B : Type 0} (f : A → B) (xs : List A) (i : ℕ) (d : A) → i < length xs
    → take (i + 1) (map f xs) ≡ take i (map f xs) ++ f (get_or xs i d) ∷ []
take-map_more f xs i d l =
    let within : i < length (map f xs) = rw length-map l in
    take_more (map f xs) i (f d) within ∙ ap (λ y. take i (map f xs) ++ y ∷ []) (get_or-map f xs i d (f d) l)

-- one step of a loop that appends the function of each element
pub appended_more : {A B : Type 0} (f : A → B) (old now new : List B) (xs : List A) (i : ℕ) (d : A) → i < length xs → now ≡ old
    ++ take i (map f xs) → new ≡ now ++ f (get_or xs i d) ∷ [] → new ≡ old ++ take (i + 1) (map f xs)
appended_more f old now new xs i d l kept step =
    step ∙ ap (λ z. z ++ f (get_or xs i d) ∷ []) kept ∙ append_assoc old (take i (map f xs)) _
    ∙ ap (λ z. old ++ z) (sym (take-map_more f xs i d l))

-- a test of the function's results
pub any_of_map : {A B : Type 0} (p : B → Bool) (h : A → B) (xs : List A) → list_any p (map h xs) ≡ list_any (λ x. p (h x)) xs
any_of_map p h [] = refl
any_of_map p h (x ∷ xs) = ap (λ r. p (h x) || r) (any_of_map p h xs)
