-- A priority queue as plain data.
use Rattle.std.specs.Prelude.{⊤, ℕ, ℤ, ◌≤ℤ◌, List, [], ◌∷◌, Option, Some, None, All}
use Rattle.gixp_graph.specs.declared.queue.Entry.{Entry}

abbrev pub entry_at : ℤ → ℕ → Entry
entry_at t n = record { time = t; number = n }

-- the entry that is stored apart from the map, where there is one
abbrev pub first_of : Option Entry → List Entry
first_of None = []
first_of (Some e) = e ∷ []

-- no other entry is newer
abbrev pub IsNewest : Option Entry → List Entry → Type 0
IsNewest None others = ⊤
IsNewest (Some e) others = All (λ (w : Entry). w.time ≤ℤ e.time) others
