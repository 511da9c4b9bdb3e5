use Rattle.std.proofs.Common.{◌++◌, ap, sym, flat_map, vec_items, []}
use Rattle.std.proofs.lemmas.Result.{err_from_is_err_and}
use Rattle.gixp_planner.specs.Printed.{text_then}
use Rattle.gixp_planner.proofs.PrintLemmas.{then-fails, then-rest}
use Rattle.gixp_planner.proofs.print.write_map.Goals as goal

pub returns-in_err-write_texts : goal.returns-in_err-write_texts
returns-in_err-write_texts g c = let p = err_from_is_err_and c.from_residual.result c.from_residual.ensures.1 in
    let printed = c.args.printed.now in
    let rest = text_then [] (printed.map.mappings.items ++ printed.later.items) printed.map.fixes.items in
    rw (p.1, p.2) (
      then-fails _ _ _ _ rest _ c.in_err-write_texts.ensures.0 (ap (λ ts. flat_map vec_items ts ++ rest) (sym c.deref.ensures.value)),
      c.in_err-write_texts.ensures.1,
    )

pub returns : goal.returns
returns g c =
    let printed = c.args.printed.now in
    let rest = text_then [] (printed.map.mappings.items ++ printed.later.items) printed.map.fixes.items in
    then-rest _ _ _ _ _ _ (flat_map vec_items c.deref.result.now) rest _ _ c.in_ok-write_texts.ensures c.write_rest.ensures
    (ap (λ ts. flat_map vec_items ts ++ rest) (sym c.deref.ensures.value))
