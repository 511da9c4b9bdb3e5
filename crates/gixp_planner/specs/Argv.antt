-- The command line.
use Rattle.std.specs.Prelude.{ℕ, if◌then◌else◌, nat_eq, List, [], ◌∷◌, codes, Option, Some, None}
use Rattle.std.specs.Cmp.Lexicographic.{pointwise}

-- the file of `refs FILE`
abbrev pub refs_file : List (List ℕ) → Option (List ℕ)
refs_file (program ∷ command ∷ file ∷ []) = if pointwise nat_eq command (codes "refs") then Some file else None
refs_file _ = None

-- the folder and the refspecs of `plan DIR SPEC..`, with at least one refspec
abbrev pub plan_args : List (List ℕ) → Option (List ℕ × List (List ℕ))
plan_args (program ∷ command ∷ folder ∷ spec ∷ specs) = if pointwise nat_eq command (codes "plan") then Some (folder, spec ∷ specs)
    else None
plan_args _ = None
