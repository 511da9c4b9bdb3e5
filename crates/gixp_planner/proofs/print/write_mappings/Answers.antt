use Rattle.std.proofs.lemmas.Result.{err_from_is_err_and}
use Rattle.gixp_planner.specs.Text.{mapping_shown}
use Rattle.gixp_planner.proofs.PrintLemmas.{each-next, next-part, next-fails}
use Rattle.gixp_planner.proofs.print.write_mappings.Goals as goal

pub returns-in_err-write_mapping : goal.returns-in_err-write_mapping
returns-in_err-write_mapping g c = let p = err_from_is_err_and c.from_residual.result c.from_residual.ensures.1 in
    rw (p.1, p.2) (
      next-fails _ _ _ _ _ _ _ _ c.loop-mapping.invariant
          (each-next mapping_shown c.args.mappings.now c.loop-mapping.mapping-index c.mapping-item.result c.loop-mapping-test.true
          c.mapping-item.is)
          c.in_err-write_mapping.ensures.0,
      c.in_err-write_mapping.ensures.1,
    )

pub loop-mapping-preserved : goal.loop-mapping-preserved
loop-mapping-preserved g c = next-part _ _ _ _ _ _ _ _ _ c.loop-mapping.invariant
    (each-next mapping_shown c.args.mappings.now c.loop-mapping.mapping-index c.mapping-item.result c.loop-mapping-test.true
    c.mapping-item.is)
    c.in_ok-write_mapping.ensures
