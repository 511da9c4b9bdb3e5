-- Plain mappings stay; others are compared and validated.
use Rattle.std.proofs.Common.{◌≡◌, ◌∙◌, false, ap, sym, subst, map, refl, List, Ok}
use Rattle.std.specs.List.{list_any}
use Rattle.std.specs.Prelude.{IfOk}
use Rattle.gixp_packetline.proofs.ListLemmas.{any_of_map}
use Rattle.gixp_matching.specs.MatchGroup.{values}
use Rattle.gixp_matching.specs.Validate.{removed_of, ValidatesAs}
use Rattle.gixp_matching.specs.Validation.{is_partial}
use Rattle.gixp_matching.proofs.DistinctLemmas.{no_conflicts}
use Rattle.gixp_matching.proofs.FirstLemmas.{firsts_flagged}
use Rattle.gixp_matching.proofs.KeptLemmas.{no_fixes, all_kept}
use Rattle.gixp_matching.proofs.match_group.plain.checked.Goals as goal

pub returns-then-are_plain : goal.returns-then-are_plain
returns-then-are_plain g c =
    let f = g.M.AsMapping.mapped in
    let xs = c.args.mappings.items in
    let ys = c.deref.result.now in
    let specs = values c.args.specs.now in
    let same = c.deref.ensures.value in
    let plain = c.are_plain.ensures in
    let t = c.if-are_plain.true in
    let none : list_any (λ x. is_partial (f x)) ys ≡ false = sym (any_of_map is_partial f ys) ∙ plain.whole t in
    let P : List g.row.M.Denot → Type 0 = λ zs. ValidatesAs f specs zs (Ok (c.args.mappings, c.new.result)) in
    subst P (firsts_flagged f xs ys same (plain.firsts t)) (subst P same (
      sym (no_conflicts specs (map f ys) (plain.apart t)),
      sym same ∙ all_kept (λ x. is_partial (f x)) ys none,
      ap (map removed_of) c.new.ensures.items ∙ no_fixes specs f ys (list_any (λ x. is_partial (f x)) ys) refl none,
    ))

pub returns : goal.returns
returns g c =
    subst (λ zs. IfOk c.validated.result (ValidatesAs g.M.AsMapping.mapped (values c.args.specs.now) zs)) c.in_ok-mappings.ensures.flags
    c.validated.ensures
