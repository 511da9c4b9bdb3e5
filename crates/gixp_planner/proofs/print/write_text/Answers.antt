use Rattle.std.proofs.Common.{subst, sym}
use Rattle.gixp_planner.specs.Written.{WritesPart}
use Rattle.gixp_planner.proofs.PrintLemmas.{written-more}
use Rattle.gixp_planner.proofs.print.write_text.Goals as goal

pub loop-preserved : goal.loop-preserved
loop-preserved g c =
    subst (λ rest. WritesPart (g.W.Write.contents c.args.writer.now) (g.W.Write.contents c.write_some.new.writer) rest c.args.text.now)
    (sym c.text_after-rest.ensures)
    (written-more _ _ _ c.loop.rest.now c.args.text.now c.in_ok-amount.amount c.loop.invariant c.in_ok-amount.ensures.1)
