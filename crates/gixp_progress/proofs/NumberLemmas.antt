-- Numbers that grow with each digit.
use Rattle.std.proofs.Common.{◌≡◌, ℕ, ◌+◌, ◌-◌, ◌*◌, ◌<◌, ◌≤◌, Bool, true, false, List, [], ◌∷◌, length, drop, get_or, nat_lt, Some, None, ap, refl, sym, ◌∙◌, arith}
use Rattle.std.specs.Bool.{if◌then◌else◌}
use Rattle.std.proofs.lemmas.Bool.{ltb-true, ltb-false, le-ltb, lt-ltb}
use Rattle.std.proofs.lemmas.List.{drop_more, drop_all}
use Rattle.gixp_progress.specs.Numbers.{number_after, with_digit, fit_number}

some_at : (b : Bool) (k m : ℕ) → (if b then Some k else None) ≡ Some m → m ≡ k
some_at true k m h = cc
some_at false k m h = cc

none_at : (b : Bool) (lim k : ℕ) → nat_lt k lim ≡ b → (if b then Some k else None) ≡ None → lim ≤ k
none_at true lim k e h = cc
none_at false lim k e h = ltb-false k lim e

small_at : (b : Bool) (lim k m : ℕ) → nat_lt k lim ≡ b → (if b then Some k else None) ≡ Some m → m < lim
small_at true lim k m e h = let same : m ≡ k = some_at true k m h in rw same (ltb-true k lim e)
small_at false lim k m e h = cc

-- a number with one more digit fits
pub still_fits : (n d m : ℕ) → Some m ≡ with_digit n d → m < 18446744073709551616
still_fits n d m step =
    let grown = n * 10 + (d - 48) in
    small_at (nat_lt grown 18446744073709551616) 18446744073709551616 grown m refl (sym step)

pub digit_more : (run : List ℕ) (n m i total : ℕ) → i < length run → Some m ≡ with_digit n (get_or run i 0)
    → total ≡ number_after n (drop i run) → total ≡ number_after m (drop (i + 1) run)
digit_more run n m i total l step kept =
    let grown = n * 10 + (get_or run i 0 - 48) in
    let same : m ≡ grown = some_at (nat_lt grown 18446744073709551616) grown m (sym step) in
    let split : number_after n (drop i run) ≡ number_after grown (drop (i + 1) run) = ap (number_after n) (drop_more run i 0 l) in
    kept ∙ split ∙ ap (λ k. number_after k (drop (i + 1) run)) (sym same)

below : (k grown n d : ℕ) → grown ≡ n * 10 + d → grown ≤ k → n ≤ k
below k grown n d e h = omega arith

grows : (ds : List ℕ) (n : ℕ) → n ≤ number_after n ds
grows [] n = omega arith
grows (d ∷ ds) n = below (number_after (n * 10 + (d - 48)) ds) (n * 10 + (d - 48)) n (d - 48) refl (grows ds (n * 10 + (d - 48)))

over : (lim k m : ℕ) → lim ≤ k → k ≤ m → lim ≤ m
over lim k m h g = omega arith

exceeds : (lim k : ℕ) → lim ≤ k → (if nat_lt k lim then Some k else None) ≡ None
exceeds lim k h = rw (le-ltb k lim h) refl

-- a number that exceeds 64 bits with one more digit exceeds them with all digits
pub too_large : (run : List ℕ) (n i : ℕ) → i < length run → None ≡ with_digit n (get_or run i 0)
    → number_after 0 run ≡ number_after n (drop i run) → None ≡ fit_number run
unfolding fit_number
too_large run n i l step kept =
    let grown = n * 10 + (get_or run i 0 - 48) in
    let lim : ℕ = 18446744073709551616 in
    let at = none_at (nat_lt grown lim) lim grown refl (sym step) in
    let split : number_after n (drop i run) ≡ number_after grown (drop (i + 1) run) = ap (number_after n) (drop_more run i 0 l) in
    let all = over lim grown (number_after grown (drop (i + 1) run)) at (grows (drop (i + 1) run) grown) in
    rw (kept ∙ split) (sym (exceeds lim (number_after grown (drop (i + 1) run)) all))

-- a number whose digits were all read fits
pub all_read : (run : List ℕ) (n i : ℕ) → length run ≤ i → n < 18446744073709551616 → number_after 0 run ≡ number_after n (drop i run)
    → Some n ≡ fit_number run
unfolding fit_number
all_read run n i l small kept =
    let value : number_after 0 run ≡ n = kept ∙ ap (number_after n) (drop_all i run l) in
    rw (value, lt-ltb n 18446744073709551616 small) refl
