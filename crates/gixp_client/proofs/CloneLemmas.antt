-- Clones of the items of a list are its items, as plain data.
use Rattle.std.proofs.Common.{◌≡◌, List, [], ◌∷◌, map, refl}
use Rattle.std.specs.List.{AllZip}

pub same_values : {A B : Type 0} (f : A → B) (xs ys : List A) → AllZip (λ s t. f t ≡ f s) xs ys → map f ys ≡ map f xs
same_values f [] [] h = refl
same_values f [] (y ∷ ys) h = absurd h
same_values f (x ∷ xs) [] h = absurd h
same_values f (x ∷ xs) (y ∷ ys) h = rw (h.0, same_values f xs ys h.1) refl
