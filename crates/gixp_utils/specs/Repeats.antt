-- Which keys of a list repeat an earlier key.
use Rattle.std.specs.Prelude.{ℕ, ◌+◌, ◌==◌, nat_lt, Bool, not, false, ◌&&◌, if◌then◌else◌, List, [], ◌∷◌}
use Rattle.std.specs.List.{list_any, slice_set}
use Rattle.std.specs.Ordering.{eq_by_cmp}
use Rattle.std.specs.declared.cmp.Ordering.{Ordering}

-- a row is a key and its position in the list
module _ {K : Type 0} (R : K → K → Ordering) where
  -- whether the key occurs at a position before this one
  abbrev pub is_before : List (K × ℕ) → K → ℕ → Bool
  is_before rows key place = list_any (λ row. eq_by_cmp R row.0 key && nat_lt row.1 place) rows

  -- whether the key at this position occurs before it
  abbrev pub is_repeat : List (K × ℕ) → ℕ → Bool
  is_repeat rows place = list_any (λ row. (row.1 == place) && is_before rows row.0 place) rows

  -- whether the key at this position occurs here first
  abbrev pub is_first : List (K × ℕ) → ℕ → Bool
  is_first rows place = not (is_repeat rows place)

  -- the flags, with the flag cleared of each row whose key equals the key of the row before it
  abbrev pub marked_after : List Bool → K × ℕ → List (K × ℕ) → List Bool
  marked_after flags last [] = flags
  marked_after flags last (row ∷ rows) =
      marked_after (if eq_by_cmp R last.0 row.0 then slice_set flags row.1 false else flags) row rows

  abbrev pub marked : List Bool → List (K × ℕ) → List Bool
  marked flags [] = flags
  marked flags (row ∷ rows) = marked_after flags row rows

-- the results of a test for each position of a list, counted from n
abbrev pub tested_from : {A : Type 0} → (ℕ → Bool) → ℕ → List A → List Bool
tested_from test n [] = []
tested_from test n (x ∷ xs) = test n ∷ tested_from test (n + 1) xs
