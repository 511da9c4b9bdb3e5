-- A few questions more.
use Rattle.std.proofs.Common.{sym, take-append-drop}
use Rattle.gixp_fetch_common.proofs.BatchCheckLemmas.{asked_none, asked_more, some_more, fails_more, passed_on}
use Rattle.gixp_fetch_common.proofs.batch_check.BatchCheck.ask.Goals as goal

pub few-init : goal.few-init
few-init g c = (asked_none c.args.ids.now c.args.objects.now _ _ c.args.self.now.lines, λ h. h)

pub few-preserved : goal.few-preserved
few-preserved g c = (
  asked_more c.args.ids.now c.few.rest.now c.split_at.result.0.now c.split_at.result.1.now c.args.objects.now c.few.objects
      c.ask_batch.new.objects _ _ _ _ _ _ _ _ _ c.few.invariant.0
      (rw (c.split_at.ensures.front, c.split_at.ensures.back) (sym (take-append-drop _ c.few.rest.now))) c.in_ok-ask_batch.ensures.asked
      c.in_ok-ask_batch.ensures.reported c.in_ok-ask_batch.ensures.lines,
  λ _. c.in_ok-ask_batch.ensures.flushed,
)

pub returns-in_err-ask_batch-clause-some : goal.returns-in_err-ask_batch-clause-some
returns-in_err-ask_batch-clause-some g c =
    some_more c.args.ids.now c.few.rest.now c.split_at.result.0.now c.split_at.result.1.now c.args.objects.now c.few.objects
    c.ask_batch.new.objects _ _ _ _ _ _ c.few.invariant.0
    (rw (c.split_at.ensures.front, c.split_at.ensures.back) (sym (take-append-drop _ c.few.rest.now))) c.in_err-ask_batch.ensures.some

pub returns-in_err-ask_batch-clause-fails : goal.returns-in_err-ask_batch-clause-fails
returns-in_err-ask_batch-clause-fails g c =
    passed_on c.from_residual.result c.in_err-ask_batch.field-0.0 _ c.from_residual.ensures.1
    (fails_more c.args.ids.now c.few.rest.now c.split_at.result.0.now c.split_at.result.1.now c.args.objects.now c.few.objects
    c.ask_batch.new.objects _ _ _ _ _ _ _ _ c.few.invariant.0
    (rw (c.split_at.ensures.front, c.split_at.ensures.back) (sym (take-append-drop _ c.few.rest.now))) c.in_err-ask_batch.ensures.fails)
