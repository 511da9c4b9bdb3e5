-- The number that decimal digits write, digit by digit.
use Rattle.std.proofs.Common.{◌≡◌, ℕ, ◌+◌, ◌-◌, ◌*◌, List, [], ◌∷◌, ◌++◌, length, ap, sym, ◌∙◌, refl, arith, add-mul, mul_assoc, mul_comm, pow-suc}
use Rattle.std.specs.Prelude.{◌^◌}
use Rattle.gixp_progress.specs.Numbers.{number_after}
use Rattle.gixp_progress.specs.Laws.{NumberByPlaces}

-- digits that follow other digits
after_append : (front back : List ℕ) (n : ℕ) → number_after n (front ++ back) ≡ number_after (number_after n front) back
after_append [] back n = refl
after_append (d ∷ front) back n = after_append front back (n * 10 + (d - 48))

-- one more digit
one_place : (n p : ℕ) → n * 10 * p ≡ n * (p * 10)
one_place n p = mul_assoc n 10 p ∙ ap (λ k. n * k) (mul_comm 10 p)

sums : (a b c x y z : ℕ) → x ≡ a + b → y ≡ b + c → z ≡ x + c → z ≡ a + y
sums a b c x y z e f g = omega arith

by_places : (ds : List ℕ) (n : ℕ) → number_after n ds ≡ n * 10 ^ length ds + number_after 0 ds
by_places [] n = omega arith
by_places (d ∷ ds) n =
    let p = 10 ^ length ds in
    let e = d - 48 in
    let grown = by_places ds (n * 10 + e) in
    let alone : number_after (0 * 10 + e) ds ≡ e * p + number_after 0 ds = ap (λ k. number_after k ds) (omega arith) ∙ by_places ds e in
    let split : (n * 10 + e) * p ≡ n * 10 ^ length (d ∷ ds) + e * p = add-mul (n * 10) e p
    ∙ ap (λ k. k + e * p) (one_place n p ∙ ap (λ k. n * k) (sym (pow-suc 10 (length ds)))) in
    sums (n * 10 ^ length (d ∷ ds)) (e * p) (number_after 0 ds) ((n * 10 + e) * p) (number_after (0 * 10 + e) ds)
    (number_after (n * 10 + e) ds) split alone grown

pub number_by_places : NumberByPlaces
number_by_places front back = after_append front back 0 ∙ by_places back (number_after 0 front)
