use Rattle.std.proofs.Common.{flat_map, drop}
use Rattle.gixp_fetch_cli.specs.Report.{fix_line}
use Rattle.gixp_utils.proofs.AppendedLemmas.{Partly}
use Rattle.gixp_fetch_cli.proofs.report.append_fixes.Given as goal

abbrev pub invariant-loop-fix : goal.invariant-loop-fix
invariant-loop-fix l = Partly l.fn.text.items l.text.items (flat_map fix_line (drop l.fix-index l.fixes)) (flat_map fix_line l.fn.fixes)
