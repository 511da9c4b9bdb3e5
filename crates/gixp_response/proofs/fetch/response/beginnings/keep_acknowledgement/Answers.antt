-- The acknowledgement is recorded and added, and counts once.
use Rattle.std.proofs.Common.{ap, ◌∙◌, subst, sym}
use Rattle.gixp_response.specs.Answer.{AnswerValue}
use Rattle.gixp_response.specs.RepeatedCommons.{AreNoted, without_repeats}
use Rattle.gixp_response.proofs.CommonLemmas.{on_ok, answer_more}
use Rattle.gixp_response.proofs.fetch.response.beginnings.keep_acknowledgement.Goals as goal

pub returns-clause-ok : goal.returns-clause-ok
returns-clause-ok c =
    on_ok c.push_acknowledgement.result c.push_acknowledgement.ensures.ok
    (λ e. ap without_repeats e ∙ answer_more c.args.answer.now c.args.found)

pub returns-clause-noted : goal.returns-clause-noted
returns-clause-noted c =
    on_ok c.push_acknowledgement.result c.push_acknowledgement.ensures.ok
    (λ e. subst (λ (x : AnswerValue). AreNoted x.acknowledgements c.note.new.self) (sym e)
    (c.in_ok-note.ensures c.args.answer.now.acknowledgements c.requires))
