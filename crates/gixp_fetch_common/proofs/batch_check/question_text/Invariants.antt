-- The questions so far.
use Rattle.std.proofs.Common.{◌≡◌, take}
use Rattle.gixp_fetch_common.specs.AnswersIds.{questions}
use Rattle.gixp_fetch_common.proofs.batch_check.question_text.Given as goal

abbrev pub invariant-ids : goal.invariant-ids
invariant-ids l = l.text.items ≡ questions (take l.id-index l.ids)
