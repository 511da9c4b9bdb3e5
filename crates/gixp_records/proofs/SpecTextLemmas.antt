-- Refspecs read line by line: those so far precede those of the rest.
use Rattle.std.proofs.Common.{◌≡◌, ◌==◌, ◌+◌, ◌<◌, ℕ, get_or, Bool, true, false, if◌then◌else◌, List, [], ◌∷◌, ◌++◌, length, map, drop, Result, Ok, Err, refl, sym, ap, ◌∙◌, append_assoc, append-nil}
use Rattle.std.proofs.lemmas.List.{drop_more}
use Rattle.gixp_refspec.specs.declared.parse.Error.{Error as SpecError}
use Rattle.gixp_refspec.specs.Spec.{Spec, spec_of}
use Rattle.bstr.specs.Owned.{bstring_bytes}
use Rattle.bstr.specs.declared.bstring.BString.{BString}
use Rattle.gixp_refspec.specs.declared.spec.RefSpecRef.{RefSpecRef}
use Rattle.gixp_refspec.specs.RefSpec.{value_of}
use Rattle.gixp_records.specs.declared.spec_text.SpecsRefused.{SpecsRefused}
use Rattle.gixp_records.specs.declared.spec_text.SpecsRefused.TheVariants.{Spec as RefusedSpec, Memory}
use Rattle.gixp_records.specs.SpecText.{then_specs, specs_of_lines, AddsLineSpec, ReadsSpecLines}

-- these refspecs before those of the rest
abbrev pub before_specs : List Spec → Result (List Spec) SpecError → Result (List Spec) SpecError
before_specs vs (Ok ws) = Ok (vs ++ ws)
before_specs vs (Err e) = Err e

none-before : (r : Result (List Spec) SpecError) → r ≡ before_specs [] r
none-before (Ok ws) = refl
none-before (Err e) = refl

two-before : (vs ws : List Spec) (r : Result (List Spec) SpecError) → before_specs vs (before_specs ws r) ≡ before_specs (vs ++ ws) r
two-before vs ws (Ok us) = ap Ok (sym (append_assoc vs ws us))
two-before vs ws (Err e) = refl

by-line : (b : Bool) (v : Result Spec SpecError) (more : List Spec) (r : Result (List Spec) SpecError)
    → (if b then Ok [] else then_specs v (Ok [])) ≡ Ok more → (if b then r else then_specs v r) ≡ before_specs more r
by-line true v more r e = let same : [] ≡ more = cc in none-before r ∙ ap (λ m. before_specs m r) same
by-line false (Ok s) more (Ok ws) e = let same : s ∷ [] ≡ more = cc in ap (λ m. Ok (m ++ ws)) same
by-line false (Ok s) more (Err x) e = refl
by-line false (Err x) more r e = cc

by-refused : (b : Bool) (v : Result Spec SpecError) (x : SpecError) (r : Result (List Spec) SpecError)
    → (if b then Ok [] else then_specs v (Ok [])) ≡ Err x → (if b then r else then_specs v r) ≡ Err x
by-refused true v x r e = cc
by-refused false (Ok s) x r e = cc
by-refused false (Err y) x r e = e

-- the refspecs of all lines are those so far, then those of the rest
pub record SpecLinesSoFar (all left : List (List ℕ)) (specs : List Spec) : Type 0 where
  pub split : specs_of_lines all ≡ before_specs specs (specs_of_lines left)

pub spec-lines-start : (all : List (List ℕ)) → SpecLinesSoFar all all []
spec-lines-start all = record { split = none-before (specs_of_lines all) }

pub spec-lines-more : (all left rest : List (List ℕ)) (line : List ℕ) (specs now more : List Spec) → SpecLinesSoFar all left specs
    → left ≡ line ∷ rest → specs_of_lines (line ∷ []) ≡ Ok more → now ≡ specs ++ more → SpecLinesSoFar all rest now
spec-lines-more all left rest line specs now more h e f g = record {
  split = h.split ∙ ap (λ l. before_specs specs (specs_of_lines l)) e
      ∙ ap (before_specs specs) (by-line (length line == 0) (spec_of line) more (specs_of_lines rest) f)
      ∙ two-before specs more (specs_of_lines rest) ∙ ap (λ l. before_specs l (specs_of_lines rest)) (sym g);
}

pub spec-lines-all : (all left : List (List ℕ)) (specs : List Spec) → SpecLinesSoFar all left specs → left ≡ []
    → specs_of_lines all ≡ Ok specs
spec-lines-all all left specs h e = h.split ∙ ap (λ l. before_specs specs (specs_of_lines l)) e ∙ ap Ok (append-nil specs)

pub spec-lines-refused : (all left rest : List (List ℕ)) (line : List ℕ) (specs : List Spec) (x : SpecError)
    → SpecLinesSoFar all left specs → left ≡ line ∷ rest → specs_of_lines (line ∷ []) ≡ Err x → specs_of_lines all ≡ Err x
spec-lines-refused all left rest line specs x h e f = h.split ∙ ap (λ l. before_specs specs (specs_of_lines l)) e
    ∙ ap (before_specs specs) (by-refused (length line == 0) (spec_of line) x (specs_of_lines rest) f)

by-spec : (b : Bool) (v : Result Spec SpecError) (s : Spec) → b ≡ false → v ≡ Ok s
    → (if b then Ok [] else then_specs v (Ok [])) ≡ Ok (s ∷ [])
by-spec true v s e f = cc
by-spec false (Ok t) s e f = let same : t ≡ s = cc in ap (λ x. Ok (x ∷ [])) same
by-spec false (Err x) s e f = cc

pub spec-line : (line : List ℕ) (s : Spec) → (length line == 0) ≡ false → spec_of line ≡ Ok s → specs_of_lines (line ∷ []) ≡ Ok (s ∷ [])
spec-line line s e f = by-spec (length line == 0) (spec_of line) s e f

left-of : (lines : List BString) (i : ℕ) (d : BString) → i < length lines
    → map bstring_bytes (drop i lines) ≡ bstring_bytes (get_or lines i d) ∷ map bstring_bytes (drop (i + 1) lines)
left-of lines i d h = ap (map bstring_bytes) (drop_more lines i d h)

-- the line at this index is read
pub spec-lines-next : (lines : List BString) (i : ℕ) (d : BString) (old new : List RefSpecRef) (x : Unit {0})
    → SpecLinesSoFar (map bstring_bytes lines) (map bstring_bytes (drop i lines)) (map value_of old) → i < length lines
    → AddsLineSpec (bstring_bytes (get_or lines i d)) old new (Ok x)
    → SpecLinesSoFar (map bstring_bytes lines) (map bstring_bytes (drop (i + 1) lines)) (map value_of new)
spec-lines-next lines i d old new x so h adds =
    spec-lines-more _ _ _ _ _ _ adds.0 so (left-of lines i d h) adds.1 adds.2

-- the line at this index has an error
pub spec-lines-refused-at : (lines : List BString) (i : ℕ) (d : BString) (specs : List Spec) (old new : List RefSpecRef) (e : SpecsRefused)
    → SpecLinesSoFar (map bstring_bytes lines) (map bstring_bytes (drop i lines)) specs → i < length lines
    → AddsLineSpec (bstring_bytes (get_or lines i d)) old new (Err e) → ReadsSpecLines (map bstring_bytes lines) (Err e)
spec-lines-refused-at lines i d specs old new (RefusedSpec e) so h adds =
    spec-lines-refused _ _ _ _ specs e so (left-of lines i d h) adds
spec-lines-refused-at lines i d specs old new Memory so h adds = tt
