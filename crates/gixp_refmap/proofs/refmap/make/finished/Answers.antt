-- From the mappings that were made to the mappings of a ref map.
use Rattle.std.proofs.Common.{Result, Vec, List, [], map, refl, subst, arith}
use Rattle.std.specs.declared.alloc.Global.{Global}
use Rattle.std.proofs.lemmas.List.{length-map}
use Rattle.std.proofs.lemmas.Result.{err_from_is_err_and}
use Rattle.gixp_refspec.specs.RefSpec.{value_of}
use Rattle.gixp_matching.specs.declared.match_group.validate.Error.{Error as ValidationError}
use Rattle.gixp_matching.specs.declared.match_group.validate.Fix.{Fix}
use Rattle.gixp_matching.specs.Firsts.{first_flags, flagged}
use Rattle.gixp_matching.specs.MatchGroup.{values}
use Rattle.gixp_matching.specs.Validate.{ValidatesAs}
use Rattle.gixp_refmap.specs.declared.refmap.mapping.Mapping.{Mapping}
use Rattle.gixp_refmap.specs.Made.{matched}
use Rattle.gixp_refmap.proofs.UnplacedLemmas.{maps_of_kept, maps_of_explicit, maps_of_conflicts}
use Rattle.gixp_refmap.proofs.refmap.make.finished.Goals as goal

abbrev Validated : Type 0
Validated = Result (Vec Mapping Global × Vec Fix Global) ValidationError

-- the first of equal mappings
abbrev first_ones : List Mapping → List Mapping
first_ones made = flagged made (first_flags [] (map matched made))

pub returns-in_err-mappings : goal.returns-in_err-mappings
returns-in_err-mappings c refs h =
    let specs = values c.args.specs.now in
    let P : Validated → Type 0 = λ r. ValidatesAs matched specs (first_ones c.args.made.items) r in
    let p = err_from_is_err_and c.from_residual-in_err-mappings.result c.from_residual-in_err-mappings.ensures.1 in
    rw (p.1, p.2) (maps_of_conflicts specs c.args.explicit refs c.args.made.items (first_ones c.args.made.items) c.in_err-mappings.field-0.0
    refl (subst P c.in_err-mappings.was c.in_ok-checked.ensures) h)

pub returns-then-specs-explicit : goal.returns-then-specs-explicit
returns-then-specs-explicit c refs h =
    let specs = values c.args.specs.now in
    let P : Validated → Type 0 = λ r. ValidatesAs matched specs (first_ones c.args.made.items) r in
    maps_of_explicit c.mappings_have_origins.ensures specs c.args.explicit refs c.args.made.items (first_ones c.args.made.items)
    c.in_ok-mappings.mappings c.in_ok-mappings.fixes refl (subst P c.in_ok-mappings.was c.in_ok-checked.ensures)
    (omega (arith, length-map c.args.specs.now value_of)) h

pub returns : goal.returns
returns c refs h =
    let specs = values c.args.specs.now in
    let P : Validated → Type 0 = λ r. ValidatesAs matched specs (first_ones c.args.made.items) r in
    maps_of_kept specs c.args.explicit refs c.args.made.items
    (first_ones c.args.made.items) c.in_ok-mappings.mappings c.put_in_lists.new.mappings
    c.in_ok-mappings.fixes refl (subst P c.in_ok-mappings.was c.in_ok-checked.ensures) c.put_in_lists.ensures h
