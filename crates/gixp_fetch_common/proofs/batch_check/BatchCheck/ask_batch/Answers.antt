-- Nothing is answered where the questions can't be sent.
use Rattle.gixp_fetch_common.proofs.BatchCheckLemmas.{none_answered}
use Rattle.gixp_fetch_common.proofs.batch_check.BatchCheck.ask_batch.Goals as goal

pub returns-in_err-send_questions-clause-some : goal.returns-in_err-send_questions-clause-some
returns-in_err-send_questions-clause-some g c = none_answered c.args.ids.now c.args.objects.now
