-- The caller's filter and the names of excluded refs as values (git-rev-list, "--filter"; gitprotocol-v2, "fetch", `deepen-not`).
use Rattle.std.specs.Prelude.{◌≡◌, ◌<◌, ⊤, ℕ, false, List, [], ◌∷◌, ◌++◌, length, map, Option, Some, None, String, string_bytes, Vec, Result, Ok, Err}
use Rattle.std.specs.List.{list_all}
use Rattle.std.specs.Str.{IsUtf8}
use Rattle.std.specs.declared.alloc.Global.{Global}
use Rattle.gixp_refspec.specs.Name.{is_partial_name}
use Rattle.gixp_refspec.specs.PartialName.{name_bytes}
use Rattle.gixp_refspec.specs.declared.name.PartialName.{PartialName}
use Rattle.gixp_engine.specs.declared.error.EngineError.{EngineError}
use Rattle.gixp_engine.specs.declared.error.EngineError.TheVariants.{Filter, Name, Memory}

-- the filter, none for an empty text; or the text isn't UTF-8, or an allocation failed
abbrev pub HandsFilter : List ℕ → Result (Option (String Global)) EngineError → Type 0
HandsFilter text (Ok None) = text ≡ []
HandsFilter text (Ok (Some filter)) = (0 < length text) × (string_bytes filter ≡ text)
HandsFilter text (Err Filter) = ¬ (IsUtf8 text)
HandsFilter text (Err Memory) = ⊤
HandsFilter text (Err _) = ⊥

-- the name of a line is added; or it is invalid, or an allocation failed
abbrev pub AddsName : List ℕ → List PartialName → List PartialName → Result (Unit {0}) EngineError → Type 0
AddsName line old new (Ok x) = map name_bytes new ≡ map name_bytes old ++ line ∷ []
AddsName line old new (Err Name) = is_partial_name line ≡ false
AddsName line old new (Err Memory) = ⊤
AddsName line old new (Err _) = ⊥

-- the names of all lines; or one of them is invalid, or an allocation failed
abbrev pub HandsNames : List (List ℕ) → Result (Vec PartialName Global) EngineError → Type 0
HandsNames lines (Ok names) = map name_bytes names.items ≡ lines
HandsNames lines (Err Name) = list_all is_partial_name lines ≡ false
HandsNames lines (Err Memory) = ⊤
HandsNames lines (Err _) = ⊥
