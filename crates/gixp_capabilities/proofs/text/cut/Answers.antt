use Rattle.gixp_capabilities.proofs.CutLemmas.{cut_at_place, cut_nowhere}
use Rattle.gixp_capabilities.proofs.text.cut.Goals as goal

pub returns-in-Some : goal.returns-in-Some
returns-in-Some c =
    cut_at_place c.args.byte c.args.text.now c.split_at.result.0.now c.split_at.result.1.now c.in-Some.i c.split_at.ensures.front
    c.split_at.ensures.back c.in-Some.ensures

pub returns-in-None : goal.returns-in-None
returns-in-None c = cut_nowhere c.args.byte c.args.text.now c.in-None.ensures
