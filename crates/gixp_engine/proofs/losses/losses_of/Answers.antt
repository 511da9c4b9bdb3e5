use Rattle.gixp_engine.proofs.LossesLemmas.{losses-by, no-losses}
use Rattle.gixp_engine.proofs.losses.losses_of.Goals as goal

pub returns-in-Some : goal.returns-in-Some
returns-in-Some c =
    losses-by c.args.answers.now c.in-Some.rest.now c.in-Some.first.now c.advertisement_loses.result c.first_list_loses.result
    c.in-Some.ensures.cases.0 c.advertisement_loses.ensures c.first_list_loses.ensures

pub returns-in-None : goal.returns-in-None
returns-in-None c = no-losses c.args.answers.now c.in-None.ensures.cases
