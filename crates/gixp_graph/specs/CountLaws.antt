-- Laws of how many ids pass a test.
use Rattle.std.proofs.Common.{◌≡◌, ℕ, ◌+◌, ◌≤◌, ⊎_elim, Bool, true, false, cond, List, [], ◌∷◌, refl, ap, subst, arith}
use Rattle.std.specs.List.{list_any}
use Rattle.std.specs.Ordering.{eq_by_cmp}
use Rattle.std.proofs.lemmas.Bool.{or_cases}
use Rattle.gixp_hash.specs.declared.object_id.ObjectId.{ObjectId}
use Rattle.gixp_hash.specs.ObjectId.{id_cmp}
use Rattle.gixp_graph.specs.Walk.{count}
use Rattle.gixp_graph.specs.GraphLaws.{same_from}

-- one id counts for a stronger test no more than for a weaker one
one_at : (a b : Bool) → (b ≡ true → a ≡ true) → cond b 1 0 ≤ cond a 1 0
one_at true true h = omega arith
one_at true false h = omega arith
one_at false true h = absurd (let e : false ≡ true = h refl in cc)
one_at false false h = omega arith

-- a stronger test passes no more ids
pub count_le : (p q : ObjectId → Bool) → ((x : ObjectId) → q x ≡ true → p x ≡ true) → (xs : List ObjectId) → count q xs ≤ count p xs
count_le p q h [] = omega arith
count_le p q h (x ∷ xs) = omega (arith, count_le p q h xs, one_at (p x) (q x) (h x))

-- a stronger test that rejects an id of the list passes fewer
pub count_lt : (p q : ObjectId → Bool) → ((x : ObjectId) → q x ≡ true → p x ≡ true) → (id : ObjectId) → p id ≡ true → q id ≡ false
    → (xs : List ObjectId) → list_any (eq_by_cmp id_cmp id) xs ≡ true → count q xs + 1 ≤ count p xs
count_lt p q h id a b [] w = cc
count_lt p q h id a b (x ∷ xs) w = ⊎_elim
    (λ e.
    let s : id ≡ x = same_from id x e in
    let one : ◌≡◌ {A = ℕ} (cond (p x) 1 0) 1 = ap (λ v. cond {A = ℕ} v 1 0) (subst (λ y. p y ≡ true) s a) in
    let none : ◌≡◌ {A = ℕ} (cond (q x) 1 0) 0 = ap (λ v. cond {A = ℕ} v 1 0) (subst (λ y. q y ≡ false) s b) in
    omega (arith, count_le p q h xs))
    (λ e. omega (arith, count_lt p q h id a b xs e, one_at (p x) (q x) (h x)))
    (or_cases (eq_by_cmp id_cmp id x) (list_any (eq_by_cmp id_cmp id) xs) w)
