-- Issues and fixes in contracts.
use Rattle.std.specs.Prelude.{◌≡◌, ◌≢◌, not, List, [], filter, map, Some, Vec, Result, Ok, Err}
use Rattle.std.specs.declared.alloc.Global.{Global}
use Rattle.bstr.specs.Owned.{bstring_bytes}
use Rattle.gixp_matching.specs.declared.match_group.SourceRef.{SourceRef}
use Rattle.gixp_matching.specs.declared.match_group.Outcome.{Outcome}
use Rattle.gixp_matching.specs.declared.match_group.validate.Issue.{Issue}
use Rattle.gixp_matching.specs.declared.match_group.validate.Issue.TheVariants.{Conflict as the_conflict}
use Rattle.gixp_matching.specs.declared.match_group.validate.Fix.{Fix}
use Rattle.gixp_matching.specs.declared.match_group.validate.Fix.TheVariants.{MappingWithPartialDestinationRemoved}
use Rattle.gixp_matching.specs.declared.match_group.validate.Error.{Error}
use Rattle.gixp_refspec.specs.Spec.{Spec}
use Rattle.gixp_matching.specs.Mappings.{Source, Mapped}
use Rattle.gixp_matching.specs.MatchGroup.{source_of, mapped_in, outcome_specs}
use Rattle.gixp_refspec.specs.Texts.{texts}
use Rattle.gixp_matching.specs.Validation.{Conflict, Removed, is_partial, conflicts, fixes, kept}

abbrev pub sources_in : Vec SourceRef Global → List Source
sources_in v = map source_of v.items

-- an issue as plain data
abbrev pub conflict_of : Issue → Conflict
conflict_of (the_conflict destination specs sources) =
    record { destination = bstring_bytes destination; specs = texts specs; sources = sources_in sources }

abbrev pub conflicts_in : Vec Issue Global → List Conflict
conflicts_in v = map conflict_of v.items

-- a fix as plain data
abbrev pub removed_of : Fix → Removed
removed_of (MappingWithPartialDestinationRemoved name spec) = record { name = Some (bstring_bytes name); spec = bstring_bytes spec }

abbrev pub fixes_in : Vec Fix Global → List Removed
fixes_in v = map removed_of v.items

-- with conflicts these are the error; without any the mappings with partial local names are removed
abbrev pub Validates : List Spec → List Mapped → Result (Outcome × Vec Fix Global) Error → Type 0
Validates specs ms (Ok answer) =
    (conflicts specs ms ≡ []) × (mapped_in answer.0.mappings ≡ kept ms) × (fixes_in answer.1 ≡ fixes specs ms)
    × (outcome_specs answer.0 ≡ specs)
Validates specs ms (Err e) = (conflicts specs ms ≢ []) × (conflicts_in e.issues ≡ conflicts specs ms)

-- the same for all values with the parts of a mapping; those that stay keep their order
abbrev pub ValidatesAs : {M : Type 0} → (M → Mapped) → List Spec → List M → Result (Vec M Global × Vec Fix Global) Error → Type 0
ValidatesAs f specs ms (Ok answer) =
    (conflicts specs (map f ms) ≡ []) × (answer.0.items ≡ filter (λ m. not (is_partial (f m))) ms)
    × (fixes_in answer.1 ≡ fixes specs (map f ms))
ValidatesAs f specs ms (Err e) = (conflicts specs (map f ms) ≢ []) × (conflicts_in e.issues ≡ conflicts specs (map f ms))
