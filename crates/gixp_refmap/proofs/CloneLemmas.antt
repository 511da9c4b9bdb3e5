-- Clones of the items of a list are equal to its items as plain data.
use Rattle.std.proofs.Common.{◌≡◌, ℕ, ◌+◌, ◌<◌, List, [], ◌∷◌, ◌++◌, length, take, map, get_or, refl, ap, sym, ◌∙◌}
use Rattle.std.specs.List.{AllZip}
use Rattle.gixp_packetline.proofs.ListLemmas.{appended_more}

pub same_values : {A B : Type 0} (f : A → B) (xs ys : List A) → AllZip (λ s t. f t ≡ f s) xs ys → map f ys ≡ map f xs
same_values f [] [] h = refl
same_values f [] (y ∷ ys) h = absurd h
same_values f (x ∷ xs) [] h = absurd h
same_values f (x ∷ xs) (y ∷ ys) h = rw (h.0, same_values f xs ys h.1) refl

-- one more clone
pub copied_more : {A B : Type 0} (f : A → B) (now new : List B) (xs zs : List A) (i : ℕ) (x : A) (y : B) → zs ≡ xs → x ≡ get_or zs i x
    → i < length zs
    → now ≡ take i (map f xs) → new ≡ now ++ y ∷ [] → y ≡ f x → new ≡ take (i + 1) (map f xs)
copied_more f now new xs zs i x y e is l kept step made =
    let more = appended_more f [] now new zs i x l (kept ∙ ap (λ ys. take i (map f ys)) (sym e))
    (step ∙ ap (λ z. now ++ z ∷ []) (made ∙ ap f is)) in
    more ∙ ap (λ ys. take (i + 1) (map f ys)) e
