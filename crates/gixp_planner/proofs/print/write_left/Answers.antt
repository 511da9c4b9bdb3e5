use Rattle.std.proofs.Common.{◌++◌, ◌∙◌, sym, ap, flat_map}
use Rattle.std.proofs.lemmas.Grind.{flat_map-append}
use Rattle.std.proofs.lemmas.Result.{err_from_is_err_and}
use Rattle.gixp_planner.specs.Text.{mapping_shown}
use Rattle.gixp_planner.proofs.PrintLemmas.{then-fails, then-rest}
use Rattle.gixp_planner.proofs.print.write_left.Goals as goal

pub returns-in_err-write_mappings : goal.returns-in_err-write_mappings
returns-in_err-write_mappings g c = let p = err_from_is_err_and c.from_residual.result c.from_residual.ensures.1 in
    let printed = c.args.printed.now in
    rw (p.1, p.2) (
      then-fails _ _ _ _ (flat_map mapping_shown printed.later.items) _ c.in_err-write_mappings.ensures.0
          (flat_map-append mapping_shown printed.map.mappings.items printed.later.items
          ∙ ap (λ ms. flat_map mapping_shown ms ++ flat_map mapping_shown printed.later.items) (sym c.deref.ensures.value)),
      c.in_err-write_mappings.ensures.1,
    )

pub returns : goal.returns
returns g c =
    let printed = c.args.printed.now in
    then-rest _ _ _ _ _ _ (flat_map mapping_shown c.deref.result.now) _ _ _ c.in_ok-write_mappings.ensures c.write_mappings-2.ensures
    (flat_map-append mapping_shown printed.map.mappings.items printed.later.items ∙ cc)
