use Rattle.std.proofs.Common.{◌∙◌, subst}
use Rattle.gixp_negotiators.specs.Spread.{was_seen}
use Rattle.gixp_negotiators.specs.NewlyCommon.{MarksCommonAmong}
use Rattle.gixp_negotiators.proofs.GrowLemmas.{grows_none}
use Rattle.gixp_negotiators.proofs.SpreadLemmas.{stays_seen, parents_common, from_parents}
use Rattle.gixp_negotiators.proofs.LookedLemmas.{looked_none, looked_ok, looked_from, looked_failed}
use Rattle.gixp_negotiators.proofs.skipping.Skipping.spread.Goals as goal

pub returns-clause-spreads : goal.returns-clause-spreads
returns-clause-spreads g c = from_parents was_seen stays_seen c.args.id.now _ _ c.args.graph.now.graph _ _ (grows_none _) (λ q s. s)
    (λ seen. parents_common was_seen stays_seen _ _ c.args.id.now c.deref.result.now c.reach_all.ensures.looks.grows seen
    (c.deref.ensures.value ∙ c.in_ok-parents.ensures.parents) c.in_ok-reach_all.ensures.common)
    c.in_ok-reach_all.ensures.spreads

pub returns-clause-among : goal.returns-clause-among
returns-clause-among g c =
    subst (λ ids. MarksCommonAmong ids c.args.graph.now.graph c.reach_all.new.graph.graph)
    (c.deref.ensures.value ∙ c.in_ok-parents.ensures.parents) c.in_ok-reach_all.ensures.among

pub returns-clause-looks : goal.returns-clause-looks
returns-clause-looks g c = looked_ok c.in_ok-reach_all.ensures.looks

pub returns-in_err-parents-clause-looks : goal.returns-in_err-parents-clause-looks
returns-in_err-parents-clause-looks g c = looked_failed _ _ c.from_residual.ensures.1 c.in_err-parents.ensures.failed
    (looked_none c.args.graph.now)

pub returns-in_err-reach_all-clause-looks : goal.returns-in_err-reach_all-clause-looks
returns-in_err-reach_all-clause-looks g c = looked_from _ c.from_residual-in_err-reach_all.ensures.1 c.in_err-reach_all.ensures.looks
