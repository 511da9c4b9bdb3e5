-- The answer to one question.
use Rattle.std.proofs.Common.{◌∙◌, sym}
use Rattle.gixp_fetch_common.proofs.BatchCheckLemmas.{answered_one, first_unanswered}
use Rattle.gixp_fetch_common.proofs.batch_check.BatchCheck.read_answer.Goals as goal

pub returns-then-branch-clause-reported : goal.returns-then-branch-clause-reported
returns-then-branch-clause-reported g c =
    answered_one c.args.id.now c.deref.result.now c.args.objects.now c.add_answer.new.self _ _
    (rw c.deref.ensures.value c.in_ok-read_line.ensures.read) (c.in_ok-add_answer.ensures.read c.if-branch.true)
    (sym c.in_ok-add_answer.ensures.answer ∙ c.if-branch.true)

pub returns-clause-fails : goal.returns-clause-fails
returns-clause-fails g c =
    first_unanswered c.args.self.now.lines _ c.args.id.now c.deref.result.now c.args.objects.now c.add_answer.new.self _ _
    (rw c.deref.ensures.value c.in_ok-read_line.ensures.read) (sym c.in_ok-add_answer.ensures.answer ∙ c.if-branch.false)
    (c.in_ok-add_answer.ensures.unread c.if-branch.false) c.read_line.ensures.lines
