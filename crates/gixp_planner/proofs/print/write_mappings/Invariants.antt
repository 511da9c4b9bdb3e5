use Rattle.std.proofs.Common.{◌++◌, flat_map, drop}
use Rattle.gixp_planner.specs.Text.{mapping_shown}
use Rattle.gixp_planner.specs.Written.{WritesPart}
use Rattle.gixp_planner.proofs.print.write_mappings.Given as goal

abbrev pub invariant-loop-mapping : goal.invariant-loop-mapping
invariant-loop-mapping g l = WritesPart (g.W.Write.contents l.fn.writer) (g.W.Write.contents l.writer)
    (l.pending.items ++ flat_map mapping_shown (drop l.mapping-index l.mappings))
    (l.fn.pending.items ++ flat_map mapping_shown l.fn.mappings)
