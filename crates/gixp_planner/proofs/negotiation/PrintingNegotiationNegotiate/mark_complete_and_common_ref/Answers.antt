-- A refusal, with the alternates handed over.
use Rattle.std.proofs.Common.{false, refl, rules, ◌∙◌}
use Rattle.std.proofs.lemmas.Result.{IfErr-weaker}
use Rattle.gixp_negotiate.proofs.LookLemmas.{stops_when}
use Rattle.gixp_negotiate.proofs.RefusalLemmas.{own, beside}
use Rattle.gixp_planner.proofs.negotiation.PrintingNegotiationNegotiate.mark_complete_and_common_ref.Goals as goal

pub returns-clause-refused : goal.returns-clause-refused
returns-clause-refused g c =
    let marked = c.mark_complete_and_common_ref-marked in
    let handed = c.replace-before.ensures.after ∙ c.replace-handed.ensures.value in
    rw handed (IfErr-weaker marked.result _ _
    (λ e h. (
      own _ _ _ _ _ _ _ _ _ e h.0,
      (
        (
          h.0,
          stops_when _ _ _ _ _ _ _ e _ (λ p. p (λ _. false) (λ m b r. search rules)) h.1,
          marked.ensures.keeps.1.0,
          marked.ensures.keeps.0,
          refl,
          refl,
          refl,
          search rules,
          marked.ensures.keeps.2,
          marked.ensures.keeps.3,
        ),
        refl,
      ),
    ))
    (beside _ _ marked.result marked.ensures.failed marked.ensures.stops))
