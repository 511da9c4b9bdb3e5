use Rattle.std.proofs.lemmas.Result.{err_from_is_err_and}
use Rattle.gixp_planner.specs.Text.{fix_shown}
use Rattle.gixp_planner.proofs.PrintLemmas.{each-next, next-part, next-fails}
use Rattle.gixp_planner.proofs.print.write_fixes.Goals as goal

pub returns-in_err-write_fix : goal.returns-in_err-write_fix
returns-in_err-write_fix g c = let p = err_from_is_err_and c.from_residual.result c.from_residual.ensures.1 in
    rw (p.1, p.2) (
      next-fails _ _ _ _ _ _ _ _ c.loop-fix.invariant
          (each-next fix_shown c.args.fixes.now c.loop-fix.fix-index c.fix-item.result c.loop-fix-test.true c.fix-item.is)
          c.in_err-write_fix.ensures.0,
      c.in_err-write_fix.ensures.1,
    )

pub loop-fix-preserved : goal.loop-fix-preserved
loop-fix-preserved g c = next-part _ _ _ _ _ _ _ _ _ c.loop-fix.invariant
    (each-next fix_shown c.args.fixes.now c.loop-fix.fix-index c.fix-item.result c.loop-fix-test.true c.fix-item.is)
    c.in_ok-write_fix.ensures
