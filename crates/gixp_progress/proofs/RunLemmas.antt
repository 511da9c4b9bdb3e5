-- Runs of digits.
use Rattle.std.proofs.Common.{◌≡◌, ℕ, ◌+◌, Bool, true, false, cond, List, [], ◌∷◌, ◌++◌, length, take, drop, ap, sym, ◌∙◌, refl, arith, take-append-drop}
use Rattle.std.specs.Prelude.{not, suc}
use Rattle.std.specs.List.{list_all, prefix_len, position_or_len}
use Rattle.std.proofs.lemmas.Bool.{and_parts, false≢true}
use Rattle.gixp_progress.specs.Numbers.{is_digit, is_other, from_digit, first_run, after_run}
use Rattle.gixp_progress.specs.Laws.{begins_with, is_found, RunIsFirst, RunIsOnly}

not_not : (b : Bool) → not (not b) ≡ b
not_not true = refl
not_not false = refl

not_false : (b : Bool) → not b ≡ false → b ≡ true
not_false true h = refl
not_false false h = sym h

-- a byte is a digit, or it is another byte
same_test : (λ (b : ℕ). not (is_other b)) ≡ is_digit
same_test = λ i b. not_not (is_digit b) i

-- all bytes before the first failing one pass
module _ (p : ℕ → Bool) where
  front_passes : (xs : List ℕ) → list_all p (take (prefix_len p xs) xs) ≡ true
  front_passes [] = refl
  front_passes (x ∷ xs) = by (p x) refl (front_passes xs)
    where
      by : (b : Bool) → p x ≡ b → list_all p (take (prefix_len p xs) xs) ≡ true
          → list_all p (take (cond b (1 + prefix_len p xs) 0) (x ∷ xs)) ≡ true
      by true e h = let on : 1 + prefix_len p xs ≡ suc (prefix_len p xs) = omega arith in rw on (rw e h)
      by false e h = refl

  back_fails : (xs : List ℕ) → begins_with p (drop (prefix_len p xs) xs) ≡ false
  back_fails [] = refl
  back_fails (x ∷ xs) = by (p x) refl (back_fails xs)
    where
      by : (b : Bool) → p x ≡ b → begins_with p (drop (prefix_len p xs) xs) ≡ false
          → begins_with p (drop (cond b (1 + prefix_len p xs) 0) (x ∷ xs)) ≡ false
      by true e h = let on : 1 + prefix_len p xs ≡ suc (prefix_len p xs) = omega arith in rw on h
      by false e h = e

  -- and there are no more than these
  front_is : (xs ys : List ℕ) → list_all p xs ≡ true → begins_with p ys ≡ false → prefix_len p (xs ++ ys) ≡ length xs
  front_is [] [] a b = refl
  front_is [] (y ∷ ys) a b = rw b refl
  front_is (x ∷ xs) ys a b =
      let parts = and_parts (p x) (list_all p xs) a in
      let rest = front_is xs ys parts.1 b in
      rw (parts.0, rest) (omega arith)

take_front : (xs ys : List ℕ) → take (length xs) (xs ++ ys) ≡ xs
take_front [] ys = refl
take_front (x ∷ xs) ys = ap (λ l. x ∷ l) (take_front xs ys)

drop_front : (xs ys : List ℕ) → drop (length xs) (xs ++ ys) ≡ ys
drop_front [] ys = refl
drop_front (x ∷ xs) ys = drop_front xs ys

-- a text that begins with no other byte is empty or begins with a run
found_at : (text : List ℕ) → begins_with is_other text ≡ false
    → is_found (take (prefix_len is_digit text) text) (drop (prefix_len is_digit text) text) ≡ true
found_at [] h = refl
found_at (d ∷ text) h =
    let digit : is_digit d ≡ true = not_false (is_digit d) h in
    let on : 1 + prefix_len is_digit text ≡ suc (prefix_len is_digit text) = omega arith in
    rw (digit, on) refl

-- the first run of a text, and the rest
run_at : (rest : List ℕ) → take (position_or_len is_other rest) rest ≡ take (prefix_len is_digit rest) rest
run_at rest = ap (λ test. take (prefix_len test rest) rest) same_test

following_at : (rest : List ℕ) → drop (position_or_len is_other rest) rest ≡ drop (prefix_len is_digit rest) rest
following_at rest = ap (λ test. drop (prefix_len test rest) rest) same_test

pub run_is_first : RunIsFirst
run_is_first text =
    let rest = from_digit text in
    let n = position_or_len is_other rest in
    let run = run_at rest in
    let following = following_at rest in (
      take (position_or_len is_digit text) text,
      record {
        parts = sym (take-append-drop (position_or_len is_digit text) text)
            ∙ ap (λ l. take (position_or_len is_digit text) text ++ l) (sym (take-append-drop n rest));
        without = front_passes is_other text;
        digits = ap (list_all is_digit) run ∙ front_passes is_digit rest;
        longest = ap (begins_with is_digit) following ∙ back_fails is_digit rest;
        found = ap (λ l. is_found l (drop n rest)) run ∙ ap (is_found (take (prefix_len is_digit rest) rest)) following
            ∙ found_at rest (back_fails is_other text);
      },
    )

-- a run and the rest don't begin with another byte
run_begins : (run rest : List ℕ) → list_all is_digit run ≡ true → is_found run rest ≡ true → begins_with is_other (run ++ rest) ≡ false
run_begins [] [] a f = refl
run_begins [] (b ∷ rest) a f = absurd (false≢true f)
run_begins (d ∷ run) rest a f = ap not (and_parts (is_digit d) (list_all is_digit run) a).0

pub run_is_only : RunIsOnly
run_is_only text before run rest h =
    let begins = run_begins run rest h.digits h.found in
    let at : position_or_len is_digit text ≡ length before = ap (position_or_len is_digit) h.parts
    ∙ front_is is_other before (run ++ rest) h.without begins in
    let from : from_digit text ≡ run ++ rest = ap (λ n. drop n text) at ∙ ap (drop (length before)) h.parts
    ∙ drop_front before (run ++ rest) in
    let count : position_or_len is_other (run ++ rest) ≡ length run = ap (λ test. prefix_len test (run ++ rest)) same_test
    ∙ front_is is_digit run rest h.digits h.longest in
    let here : first_run text ≡ run = ap (λ l. take (position_or_len is_other l) l) from ∙ ap (λ n. take n (run ++ rest)) count
    ∙ take_front run rest in
    let there : after_run text ≡ rest = ap (λ l. drop (position_or_len is_other l) l) from ∙ ap (λ n. drop n (run ++ rest)) count
    ∙ drop_front run rest in
    (sym here, sym there)
