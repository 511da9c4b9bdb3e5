-- The lines that a sink takes.
use Rattle.std.specs.Prelude.{◌≡◌, ℕ, ⊤, Bool, false, List, [], ◌∷◌, ◌++◌, Option, Some, None}

-- these lines were taken after the others; known lines stay known
abbrev pub TakesLines : Option (List (List ℕ)) → Option (List (List ℕ)) → List (List ℕ) → Type 0
TakesLines None new lines = ⊤
TakesLines (Some old) None lines = ⊥
TakesLines (Some old) (Some new) lines = new ≡ old ++ lines

-- the lines taken and the lines still to be taken, where both are known
abbrev pub all_lines : Option (List (List ℕ)) → Option (List (List ℕ)) → Option (List (List ℕ))
all_lines None coming = None
all_lines (Some taken) None = None
all_lines (Some taken) (Some coming) = Some (taken ++ coming)

-- a known value is unchanged
abbrev pub SameKnown : {A : Type 0} → Option A → Option A → Type 0
SameKnown None new = ⊤
SameKnown (Some old) None = ⊥
SameKnown (Some old) (Some new) = new ≡ old

-- the flag is false, if it is known
abbrev pub IsKnownFalse : Option Bool → Type 0
IsKnownFalse None = ⊤
IsKnownFalse (Some b) = b ≡ false
