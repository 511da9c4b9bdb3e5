-- The names of a mapping as programs print them.
use Rattle.std.specs.Prelude.{ℕ, List, codes, Option, Some, None}

-- a name, or a dash where there is none
abbrev pub name_or_dash : Option (List ℕ) → List ℕ
name_or_dash (Some name) = name
name_or_dash None = codes "-"
