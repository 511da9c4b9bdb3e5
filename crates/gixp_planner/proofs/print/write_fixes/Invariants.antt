use Rattle.std.proofs.Common.{◌++◌, flat_map, drop}
use Rattle.gixp_planner.specs.Text.{fix_shown}
use Rattle.gixp_planner.specs.Written.{WritesPart}
use Rattle.gixp_planner.proofs.print.write_fixes.Given as goal

abbrev pub invariant-loop-fix : goal.invariant-loop-fix
invariant-loop-fix g l = WritesPart (g.W.Write.contents l.fn.writer) (g.W.Write.contents l.writer)
    (l.pending.items ++ flat_map fix_shown (drop l.fix-index l.fixes)) (l.fn.pending.items ++ flat_map fix_shown l.fn.fixes)
