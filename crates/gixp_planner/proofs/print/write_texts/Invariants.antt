use Rattle.std.proofs.Common.{◌++◌, flat_map, drop, vec_items}
use Rattle.gixp_planner.specs.Written.{WritesPart}
use Rattle.gixp_planner.proofs.print.write_texts.Given as goal

abbrev pub invariant-loop-text : goal.invariant-loop-text
invariant-loop-text g l = WritesPart (g.W.Write.contents l.fn.writer) (g.W.Write.contents l.writer)
    (l.pending.items ++ flat_map vec_items (drop l.text-index l.texts)) (l.fn.pending.items ++ flat_map vec_items l.fn.texts)
