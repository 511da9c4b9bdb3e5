-- A text made of pieces.
use Rattle.std.specs.Prelude.{ℕ, List, flat_map}

-- texts joined one after the other, with nothing between them
abbrev pub joined : List (List ℕ) → List ℕ
joined texts = flat_map (λ (text : List ℕ). text) texts
