use Rattle.std.proofs.Common.{◌++◌, ap, sym, refl, flat_map}
use Rattle.std.proofs.lemmas.Result.{err_from_is_err_and}
use Rattle.gixp_planner.specs.Text.{mapping_shown, fix_shown}
use Rattle.gixp_planner.proofs.PrintLemmas.{then-fails, then-rest}
use Rattle.gixp_planner.proofs.print.write_rest.Goals as goal

pub returns-in_err-write_left : goal.returns-in_err-write_left
returns-in_err-write_left g c = let p = err_from_is_err_and c.from_residual.result c.from_residual.ensures.1 in
    rw (p.1, p.2) (
      then-fails _ _ _ _ (flat_map fix_shown c.args.printed.now.map.fixes.items) _ c.in_err-write_left.ensures.0 refl,
      c.in_err-write_left.ensures.1,
    )

pub returns : goal.returns
returns g c =
    let printed = c.args.printed.now in
    let shown = flat_map mapping_shown (printed.map.mappings.items ++ printed.later.items) in
    then-rest _ _ _ _ _ _ shown (flat_map fix_shown c.deref.result.now) _ _ c.in_ok-write_left.ensures c.write_fixes.ensures
    (ap (λ fs. shown ++ flat_map fix_shown fs) (sym c.deref.ensures.value))
