-- Steps of loops that filter.
use Rattle.std.proofs.Common.{◌≡◌, ℕ, ◌+◌, ◌<◌, List, [], ◌∷◌, ◌++◌, length, take, get_or, Bool, ap, sym, ◌∙◌}
use Rattle.std.specs.Prelude.{filter}
use Rattle.std.proofs.lemmas.List.{take_more}
use Rattle.std.proofs.lemmas.List.Elements.{filter-append}

pub chosen_more : {A : Type 0} (p : A → Bool) (now new xs : List A) (i : ℕ) (x : A) → x ≡ get_or xs i x → i < length xs
    → now ≡ filter p (take i xs) → new ≡ now ++ filter p (x ∷ []) → new ≡ filter p (take (i + 1) xs)
chosen_more p now new xs i x e l kept step =
    step ∙ ap (λ y. now ++ filter p (y ∷ [])) e ∙ ap (λ z. z ++ filter p (get_or xs i x ∷ [])) kept
    ∙ sym (filter-append p (take i xs) (get_or xs i x ∷ [])) ∙ ap (filter p) (sym (take_more xs i x l))
