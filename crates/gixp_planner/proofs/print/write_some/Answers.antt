use Rattle.gixp_planner.proofs.PrintLemmas.{some-written}
use Rattle.gixp_planner.proofs.print.write_some.Goals as goal

pub returns : goal.returns
returns g c =
    some-written _ _ c.args.text.now c.write.result c.amount_of.result c.write.ensures.bound c.write.ensures.bytes
    c.amount_of.ensures.amount c.amount_of.ensures.unwritten
