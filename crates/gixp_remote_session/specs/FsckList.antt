-- The list of messages and severities for git index-pack (git-index-pack, "--strict").
use Rattle.std.specs.Prelude.{ℕ, ◌==◌, if◌then◌else◌, List, ◌∷◌, ◌++◌, length}

-- a word and its value (61), after a comma (44) unless it is the first
abbrev pub with_pair : List ℕ → List ℕ → List ℕ → List ℕ
with_pair list name value = list ++ ((if length list == 0 then 61 else 44) ∷ (name ++ (61 ∷ value)))
