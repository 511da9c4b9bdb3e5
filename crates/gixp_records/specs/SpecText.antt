-- The refspecs of a text, one per line (git-fetch, "<refspec>"), and their prefixes (gitprotocol-v2, `ref-prefix`).
use Rattle.std.specs.Prelude.{ℕ, ◌≡◌, ◌==◌, ⊤, if◌then◌else◌, List, [], ◌∷◌, ◌++◌, length, map, Vec, Result, Ok, Err}
use Rattle.std.specs.List.{flat_map}
use Rattle.std.specs.declared.alloc.Global.{Global}
use Rattle.gixp_refspec.specs.declared.parse.Error.{Error as SpecError}
use Rattle.gixp_refspec.specs.declared.spec.RefSpecRef.{RefSpecRef}
use Rattle.gixp_refspec.specs.Matching.{prefixes_of}
use Rattle.gixp_refspec.specs.RefSpec.{value_of}
use Rattle.gixp_refspec.specs.Spec.{Spec, spec_of}
use Rattle.gixp_records.specs.declared.spec_text.SpecsRefused.{SpecsRefused}
use Rattle.gixp_records.specs.declared.spec_text.SpecsRefused.TheVariants.{Spec as RefusedSpec, Memory}

-- a refspec before those of the other lines, or the first error
abbrev pub then_specs : Result Spec SpecError → Result (List Spec) SpecError → Result (List Spec) SpecError
then_specs (Err e) rest = Err e
then_specs (Ok s) (Ok specs) = Ok (s ∷ specs)
then_specs (Ok s) (Err e) = Err e

-- the refspecs of lines, or the error of the first invalid line; empty lines are skipped
abbrev pub specs_of_lines : List (List ℕ) → Result (List Spec) SpecError
specs_of_lines [] = Ok []
specs_of_lines (line ∷ lines) =
    if length line == 0 then specs_of_lines lines else then_specs (spec_of line) (specs_of_lines lines)

-- the refspec of a line is added, or is invalid, or an allocation failed
abbrev pub AddsLineSpec : List ℕ → List RefSpecRef → List RefSpecRef → Result (Unit {0}) SpecsRefused → Type 0
AddsLineSpec line old new (Ok x) = (more : List Spec) × (specs_of_lines (line ∷ []) ≡ Ok more)
    × (map value_of new ≡ map value_of old ++ more)
AddsLineSpec line old new (Err (RefusedSpec e)) = specs_of_lines (line ∷ []) ≡ Err e
AddsLineSpec line old new (Err Memory) = ⊤

-- the refspecs of lines, or the first error, or an allocation failed
abbrev pub ReadsSpecLines : List (List ℕ) → Result (Vec RefSpecRef Global) SpecsRefused → Type 0
ReadsSpecLines lines (Ok specs) = specs_of_lines lines ≡ Ok (map value_of specs.items)
ReadsSpecLines lines (Err (RefusedSpec e)) = specs_of_lines lines ≡ Err e
ReadsSpecLines lines (Err Memory) = ⊤

-- a line and its LF
abbrev pub ended_line : List ℕ → List ℕ
ended_line line = line ++ 10 ∷ []

-- the prefixes of refspecs, each followed by an LF
abbrev pub prefix_lines : List Spec → List ℕ
prefix_lines specs = flat_map ended_line (flat_map prefixes_of specs)

-- the prefixes of the refspecs of lines, or the first error, or an allocation failed
abbrev pub WritesPrefixes : List (List ℕ) → Result (Vec ℕ Global) SpecsRefused → Type 0
WritesPrefixes lines (Ok text) = (specs : List Spec) × (specs_of_lines lines ≡ Ok specs) × (text.items ≡ prefix_lines specs)
WritesPrefixes lines (Err (RefusedSpec e)) = specs_of_lines lines ≡ Err e
WritesPrefixes lines (Err Memory) = ⊤
