-- The answers so far.
use Rattle.std.proofs.Common.{◌≡◌, take}
use Rattle.gixp_fetch_common.specs.AnswersIds.{AnswersIds}
use Rattle.gixp_fetch_common.specs.Unanswered.{line_number}
use Rattle.gixp_fetch_common.proofs.batch_check.BatchCheck.read_answers.Given as goal

abbrev pub invariant-ids : goal.invariant-ids
invariant-ids g l =
    AnswersIds (take l.id-index l.ids) l.fn.objects l.objects (g.R.Read.remaining l.fn.self.answers) (g.R.Read.remaining l.self.answers)
    × (l.self.asks ≡ l.fn.self.asks) × (l.self.lines ≡ line_number l.fn.self.lines l.id-index)
