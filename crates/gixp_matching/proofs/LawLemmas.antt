-- Laws of the definitions: each id has a mapping, and the local names in order are the mappings' local names.
use Rattle.std.proofs.Common.{◌≡◌, ℕ, Bool, true, false, List, [], ◌∷◌, Option, Some, None, ap, sym, ◌∙◌, refl, inl, inr}
use Rattle.std.specs.Prelude.{◌||◌}
use Rattle.std.specs.List.{list_any, fold}
use Rattle.std.specs.Str.{bytes_eq}
use Rattle.std.proofs.lemmas.Bool.{cases_Bool, cond-true, cond-false}
use Rattle.std.proofs.lemmas.Slice.Eq.{bytes_eq-Decides}
use Rattle.gixp_matching.specs.Mappings.{Mapped, local_eq}
use Rattle.gixp_matching.specs.Validation.{has_local, is_below, insert_name, insert_local, local_names}

or_again : (a b c : Bool) → ((a || b) || c) ≡ (a || (b || c))
or_again true b c = refl
or_again false b c = refl

or_turned : (a b : Bool) → (a || b) ≡ (b || a)
or_turned true true = refl
or_turned true false = refl
or_turned false true = refl
or_turned false false = refl

or_once : (a b : Bool) → ((a || b) || a) ≡ (a || b)
or_once true b = refl
or_once false true = refl
or_once false false = refl

-- the names contain the name
abbrev pub has : List ℕ → List (List ℕ) → Bool
has name names = list_any (λ other. bytes_eq other name) names

-- an insertion adds this name and no other
has-insert_name : (name new : List ℕ) (names : List (List ℕ)) → has name (insert_name new names) ≡ (has name names || bytes_eq new name)
has-insert_name name new [] = or_turned (bytes_eq new name) false
has-insert_name name new (first ∷ rest) = elim (cases_Bool (is_below first new)) [
  | inl below ↦ (
      ap (has name) (cond-true _ _ _ below) ∙ ap (λ b. bytes_eq first name || b) (has-insert_name name new rest)
      ∙ sym (or_again (bytes_eq first name) (has name rest) (bytes_eq new name)))
  | inr above ↦ elim (cases_Bool (bytes_eq first new)) [
    | inl same ↦ (
        let e : first ≡ new = (bytes_eq-Decides first new).0 same in
        ap (has name) (cond-false _ _ _ above ∙ cond-true _ _ _ same)
        ∙ sym (or_once (bytes_eq first name) (has name rest)) ∙ ap (λ t. has name (first ∷ rest) || bytes_eq t name) e)
    | inr other ↦ (
        ap (has name) (cond-false _ _ _ above ∙ cond-false _ _ _ other) ∙ or_turned (bytes_eq new name) (has name (first ∷ rest)))
  ]
]

-- inserting a local name adds this name, if there is one
has-insert_local : (name : List ℕ) (local : Option (List ℕ)) (names : List (List ℕ)) → has name (insert_local local names)
    ≡ (has name names || local_eq local (Some name))
has-insert_local name None names = sym (or_turned (has name names) false)
has-insert_local name (Some new) names = has-insert_name name new names

-- after several insertions the names are the old ones and the local names
has-fold : (name : List ℕ) (ms : List Mapped) (names : List (List ℕ)) → has name (fold (λ ns m. insert_local m.local ns) names ms)
    ≡ (has name names || list_any (has_local name) ms)
has-fold name [] names = sym (or_turned (has name names) false)
has-fold name (m ∷ ms) names =
    has-fold name ms (insert_local m.local names) ∙ ap (λ b. b || list_any (has_local name) ms) (has-insert_local name m.local names)
    ∙ or_again (has name names) (has_local name m) (list_any (has_local name) ms)

-- the names in order are the local names
pub has-local_names : (name : List ℕ) (ms : List Mapped) → has name (local_names ms) ≡ list_any (has_local name) ms
has-local_names name ms = has-fold name ms []
