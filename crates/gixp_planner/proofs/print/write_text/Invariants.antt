use Rattle.gixp_planner.specs.Written.{WritesPart}
use Rattle.gixp_planner.proofs.print.write_text.Given as goal

abbrev pub invariant-loop : goal.invariant-loop
invariant-loop g l = WritesPart (g.W.Write.contents l.fn.writer) (g.W.Write.contents l.writer) l.rest l.fn.text
