-- The refspecs of some texts, or the first error (git-fetch, "<refspec>").
use Rattle.std.specs.Prelude.{ℕ, ◌≡◌, ◌⊎◌, List, [], ◌∷◌, map, codes, Result, Ok, Err}
use Rattle.gixp_refspec.specs.declared.parse.Error.{Error as SpecError}
use Rattle.gixp_refspec.specs.declared.spec.RefSpec.{RefSpec}
use Rattle.gixp_refspec.specs.Spec.{Spec, spec_of}
use Rattle.gixp_refspec.specs.RefSpec.{owned_value_of}
use Rattle.gixp_refmap.specs.declared.refmap.init.Context.{Context}
use Rattle.gixp_planner.specs.declared.error.PlanError.{PlanError}
use Rattle.gixp_planner.specs.Refusal.{refusal, refusal_of, spec_name, IsPlanMemory}

abbrev pub with_spec : Result Spec SpecError → Result (List Spec) SpecError → Result (List Spec) SpecError
with_spec (Err e) rest = Err e
with_spec (Ok s) (Ok specs) = Ok (s ∷ specs)
with_spec (Ok s) (Err e) = Err e

-- the values of the texts, or the error of the first one that is no refspec
abbrev pub specs_of : List (List ℕ) → Result (List Spec) SpecError
specs_of [] = Ok []
specs_of (text ∷ texts) = with_spec (spec_of text) (specs_of texts)

-- an error of the texts, or an allocation failure
abbrev pub RefusesSpecs : List (List ℕ) → PlanError → Type 0
RefusesSpecs texts e = ((error : SpecError) × (specs_of texts ≡ Err error) × (refusal_of e ≡ refusal (codes "spec") (spec_name error)))
    ⊎ IsPlanMemory (codes "spec") e

-- the refspecs of the texts, and no others
pub record IsContext (texts : List (List ℕ)) (context : Context) : Type 0 where
  pub specs : specs_of texts ≡ Ok (map owned_value_of context.fetch_refspecs.items)
  pub extra : context.extra_refspecs.items ≡ []

abbrev pub ReadsSpecs : List (List ℕ) → Result Context PlanError → Type 0
ReadsSpecs texts (Ok context) = IsContext texts context
ReadsSpecs texts (Err e) = RefusesSpecs texts e

-- the same of one text
abbrev pub ReadsSpec : List ℕ → Result RefSpec PlanError → Type 0
ReadsSpec text (Ok s) = spec_of text ≡ Ok (owned_value_of s)
ReadsSpec text (Err e) = ((error : SpecError) × (spec_of text ≡ Err error) × (refusal_of e ≡ refusal (codes "spec") (spec_name error)))
    ⊎ IsPlanMemory (codes "spec") e
