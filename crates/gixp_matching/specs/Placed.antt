-- Elements with their indices.
use Rattle.std.specs.Prelude.{ℕ, ◌+◌, List, [], ◌∷◌}

-- each element with its index, counted from n
abbrev pub placed_from : {P : Type 0} → ℕ → List P → List (P × ℕ)
placed_from n [] = []
placed_from n (x ∷ xs) = (x, n) ∷ placed_from (n + 1) xs

-- a row with its key replaced by the value of the key
abbrev pub placed : {K P : Type 0} → (K → P) → K × ℕ → P × ℕ
placed s row = (s row.0, row.1)
