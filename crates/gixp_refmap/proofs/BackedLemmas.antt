-- A property of all mappings is a property of those that stay.
use Rattle.std.proofs.Common.{◌≡◌, Bool, true, List, [], ◌∷◌, inl, inr}
use Rattle.std.specs.Prelude.{filter}
use Rattle.std.specs.List.{AllByRecursion}
use Rattle.std.proofs.lemmas.Bool.{cases_Bool}
use Rattle.gixp_matching.specs.Mappings.{Mapped}

kept_one : (G : Mapped → Type 0) (F : Mapped → Bool) (m : Mapped) (xs : List Mapped) → (F m ≡ true → G m)
    → AllByRecursion G (filter F xs) → AllByRecursion G (filter F (m ∷ xs))
kept_one G F m xs h t = elim (cases_Bool (F m)) [
  | inl y ↦ rw y (h y, t)
  | inr n ↦ rw n t
]

pub all_filter : (G : Mapped → Type 0) (F : Mapped → Bool) (xs : List Mapped) → AllByRecursion G xs → AllByRecursion G (filter F xs)
all_filter G F [] h = tt
all_filter G F (x ∷ xs) h = kept_one G F x xs (λ y. h.0) (all_filter G F xs h.1)
