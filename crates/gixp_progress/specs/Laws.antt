-- Theorems about the numbers of a progress line.
use Rattle.std.specs.Prelude.{ℕ, ◌≡◌, ◌+◌, ◌*◌, ◌^◌, Bool, true, false, List, [], ◌∷◌, ◌++◌, length}
use Rattle.std.specs.List.{list_all}
use Rattle.gixp_progress.specs.Numbers.{is_digit, is_other, first_run, after_run, number_after}

-- whether the first byte of a text passes the test
abbrev pub begins_with : (ℕ → Bool) → List ℕ → Bool
begins_with test [] = false
begins_with test (b ∷ text) = test b

-- without a run, the rest is empty
abbrev pub is_found : List ℕ → List ℕ → Bool
is_found [] [] = true
is_found [] (b ∷ rest) = false
is_found (d ∷ run) rest = true

-- the first run of digits of a text, in full: no digit precedes it, and no digit follows it
pub record IsFirstRun (text before run rest : List ℕ) : Type 0 where
  pub parts : text ≡ before ++ (run ++ rest)
  pub without : list_all is_other before ≡ true
  pub digits : list_all is_digit run ≡ true
  pub longest : begins_with is_digit rest ≡ false
  pub found : is_found run rest ≡ true

-- each text has a first run
abbrev pub RunIsFirst : Type 0
RunIsFirst = (text : List ℕ) → (before : List ℕ) × IsFirstRun text before (first_run text) (after_run text)

-- each text has only one first run
abbrev pub RunIsOnly : Type 0
RunIsOnly = (text before run rest : List ℕ) → IsFirstRun text before run rest → (run ≡ first_run text) × (rest ≡ after_run text)

-- digits write a decimal number
abbrev pub NumberByPlaces : Type 0
NumberByPlaces = (front back : List ℕ) → number_after 0 (front ++ back) ≡ number_after 0 front * 10 ^ length back + number_after 0 back
