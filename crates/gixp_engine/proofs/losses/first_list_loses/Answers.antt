use Rattle.gixp_engine.proofs.LossesLemmas.{first-list, no-first-list}
use Rattle.gixp_engine.proofs.losses.first_list_loses.Goals as goal

pub returns-in-Some : goal.returns-in-Some
returns-in-Some c =
    first-list c.args.answers.now c.in-Some.field-0-1.now c.in-Some.answer.now c.list_loses.result c.in-Some.ensures.cases.0 c.list_loses.ensures

pub returns-in-None : goal.returns-in-None
returns-in-None c = no-first-list c.args.answers.now c.in-None.ensures.cases
