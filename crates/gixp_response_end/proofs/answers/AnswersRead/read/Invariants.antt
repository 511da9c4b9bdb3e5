use Rattle.std.specs.Io.KnownBytes.{Keeps}
use Rattle.gixp_response_end.specs.Answers.{to_come, steps_of}
use Rattle.gixp_response_end.proofs.answers.AnswersRead.read.Given as goal

abbrev pub invariant-loop-count : goal.invariant-loop-count
invariant-loop-count g l = Keeps (to_come g.R.Read.remaining l.fn.self) (to_come g.R.Read.remaining l.self)

abbrev pub decreases-loop-count : goal.decreases-loop-count
decreases-loop-count g l = steps_of l.self
