-- One answer more, or none.
use Rattle.std.proofs.Common.{◌∙◌, ap, subst, sym, take, drop, take-append-drop}
use Rattle.std.proofs.lemmas.List.{take_more}
use Rattle.gixp_fetch_common.specs.AnswersIds.{AnswersIds, AnswersSome}
use Rattle.gixp_fetch_common.specs.Unanswered.{line_number}
use Rattle.gixp_fetch_common.proofs.BatchCheckLemmas.{answered_more, some_answered, answers_fail_at, number_more, passed_on}
use Rattle.gixp_fetch_common.proofs.batch_check.BatchCheck.read_answers.Goals as goal

pub ids-preserved : goal.ids-preserved
ids-preserved g c = (
  subst (λ l. AnswersIds l c.args.objects.now c.read_answer.new.objects (g.R.Read.remaining c.args.self.now.answers)
      (g.R.Read.remaining c.read_answer.new.self.answers)) (sym (take_more c.args.ids.now c.ids.id-index _ c.ids-test.true))
      (answered_more (take c.ids.id-index c.args.ids.now) _ c.args.objects.now c.ids.objects c.read_answer.new.objects _ _ _
      c.ids.invariant.0 c.in_ok-read_answer.ensures.reported),
  c.read_answer.ensures.asks ∙ c.ids.invariant.1,
  c.read_answer.ensures.lines ∙ ap (λ n. line_number n 1) c.ids.invariant.2 ∙ number_more c.args.self.now.lines c.ids.id-index 1,
)

pub returns-in_err-read_answer-clause-some : goal.returns-in_err-read_answer-clause-some
returns-in_err-read_answer-clause-some g c =
    subst (AnswersSome c.args.ids.now c.args.objects.now) (sym c.in_err-read_answer.ensures.kept)
    (some_answered c.args.ids.now (take c.ids.id-index c.args.ids.now) (drop c.ids.id-index c.args.ids.now) c.args.objects.now
    c.ids.objects _ _ c.ids.invariant.0 (sym (take-append-drop c.ids.id-index c.args.ids.now)))

pub returns-in_err-read_answer-clause-fails : goal.returns-in_err-read_answer-clause-fails
returns-in_err-read_answer-clause-fails g c =
    passed_on c.from_residual.result c.in_err-read_answer.field-0.0 _ c.from_residual.ensures.1
    (answers_fail_at c.args.self.now.lines _ c.ids.id-index c.args.ids.now _ c.args.objects.now c.ids.objects c.read_answer.new.objects _ _ _ _
    c.ids-test.true c.ids.invariant.0 c.ids.invariant.2 c.in_err-read_answer.ensures.fails)

pub returns-clause-some : goal.returns-clause-some
returns-clause-some g c =
    some_answered c.args.ids.now (take c.ids.id-index c.args.ids.now) (drop c.ids.id-index c.args.ids.now) c.args.objects.now
    c.ids.objects _ _ c.ids.invariant.0 (sym (take-append-drop c.ids.id-index c.args.ids.now))
