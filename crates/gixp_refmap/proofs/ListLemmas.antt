use Rattle.std.proofs.Common.{◌≡◌, ℕ, ◌+◌, ◌<◌, List, [], ◌∷◌, ◌++◌, length, take, drop, map, set, get_or, ap, sym, ◌∙◌, refl, arith}
use Rattle.std.proofs.lemmas.List.{append_assoc, drop_more, get_or_at, length-map, length-take-le, map-append, set_at, take_more}
use Rattle.gixp_packetline.proofs.ListLemmas.{take-map_more}

-- a step of a loop that appends the result for each element
pub mapped_more : {A B C : Type 0} (h : A → B) (g : B → C) (now new : List C) (xs : List A) (i : ℕ) (x : A) → x ≡ get_or xs i x
    → i < length xs
    → now ≡ map g (take i (map h xs)) → new ≡ now ++ g (h x) ∷ [] → new ≡ map g (take (i + 1) (map h xs))
mapped_more h g now new xs i x e l kept step =
    let front = take i (map h xs) in
    step ∙ ap (λ y. now ++ g (h y) ∷ []) e ∙ ap (λ z. z ++ g (h (get_or xs i x)) ∷ []) kept
    ∙ sym (map-append g front (h (get_or xs i x) ∷ []))
    ∙ ap (map g) (sym (take-map_more h xs i x l))

-- a step of a loop that appends the result for each element, without a mapping of the elements
pub mapped_one : {A B : Type 0} (g : A → B) (now new : List B) (xs : List A) (i : ℕ) (x : A) → x ≡ get_or xs i x → i < length xs
    → now ≡ map g (take i xs) → new ≡ now ++ g x ∷ [] → new ≡ map g (take (i + 1) xs)
mapped_one g now new xs i x e l kept step =
    step ∙ ap (λ y. now ++ g y ∷ []) e ∙ ap (λ z. z ++ g (get_or xs i x) ∷ []) kept
    ∙ sym (map-append g (take i xs) (get_or xs i x ∷ [])) ∙ ap (map g) (sym (take_more xs i x l))

pub map_of_map : {A B C : Type 0} (g : B → C) (h : A → B) (xs : List A) → map g (map h xs) ≡ map (λ x. g (h x)) xs
map_of_map g h [] = refl
map_of_map g h (x ∷ xs) = ap (λ ys. g (h x) ∷ ys) (map_of_map g h xs)

-- a step of a loop that replaces each element
pub replaced_more : {A : Type 0} (f : A → A) (xs now new : List A) (i : ℕ) (d : A) → i < length xs
    → now ≡ map f (take i xs) ++ drop i xs → new ≡ set now i (f (get_or now i d)) → new ≡ map f (take (i + 1) xs) ++ drop (i + 1) xs
replaced_more f xs now new i d l kept step =
    let y = get_or xs i d in
    let front = map f (take i xs) in
    let long : length front ≡ i = length-map (take i xs) f ∙ length-take-le i xs (omega arith) in
    let split : now ≡ front ++ y ∷ drop (i + 1) xs = kept ∙ ap (λ z. front ++ z) (drop_more xs i d l) in
    let here : get_or now i d ≡ y = ap (λ z. get_or z i d) split ∙ get_or_at front y (drop (i + 1) xs) d i long in
    step ∙ ap (λ z. set now i (f z)) here ∙ ap (λ z. set z i (f y)) split ∙ set_at front y (drop (i + 1) xs) (f y) i long
    ∙ sym (append_assoc front (f y ∷ []) (drop (i + 1) xs))
    ∙ ap (λ z. z ++ drop (i + 1) xs) (sym (map-append f (take i xs) (y ∷ [])) ∙ ap (map f) (sym (take_more xs i d l)))
