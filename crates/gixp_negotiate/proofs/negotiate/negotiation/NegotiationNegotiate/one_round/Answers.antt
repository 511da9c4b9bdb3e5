use Rattle.std.proofs.Common.{refl}
use Rattle.std.proofs.lemmas.Result.{IfErr-weaker}
use Rattle.gixp_negotiate.proofs.RefusalLemmas.{own_round, beside}
use Rattle.gixp_negotiate.proofs.negotiate.negotiation.NegotiationNegotiate.one_round.Goals as goal

pub returns-clause-refused : goal.returns-clause-refused
returns-clause-refused g c =
    let round = c.one_round in
    IfErr-weaker round.result _ _
    (λ e h. (own_round _ _ _ _ e h.0, (h.0, h.1, round.ensures.keeps.0, refl, refl, refl, (refl, refl, refl))))
    (beside _ _ round.result round.ensures.failed round.ensures.refused)
