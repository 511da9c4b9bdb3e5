use Rattle.gixp_fetch_cli.specs.Report.{fix_line}
use Rattle.gixp_utils.proofs.AppendedLemmas.{left-at, each-more}
use Rattle.gixp_fetch_cli.proofs.report.append_fixes.Goals as goal

pub loop-fix-preserved : goal.loop-fix-preserved
loop-fix-preserved c =
    each-more fix_line _ _ _ _ _ c.fix-item.result _ c.loop-fix.invariant
    (left-at c.args.fixes.now c.loop-fix.fix-index c.fix-item.result c.loop-fix-test.true c.fix-item.is) c.in_ok-append_fix.ensures
