-- The failure of a file of the command line that can't be read to its end.
use Rattle.std.specs.Prelude.{◌≡◌, ℕ, List}
use Rattle.gix_protocol.specs.TextErrorType.{TextError}
use Rattle.gix_protocol.specs.TextErrorType.TheVariants as text
use Rattle.gixp_fetch_common.specs.declared.batch_check.BatchCheckError.{BatchCheckError}
use Rattle.gixp_fetch_common.specs.declared.batch_check.BatchCheckError.TheVariants as ask
use Rattle.gixp_fetch_common.specs.declared.failure.Failure.{Failure}
use Rattle.gixp_fetch_common.specs.declared.failure.Failure.TheVariants.{Memory}
use Rattle.gixp_fetch_common.specs.Failures.{FailureIsFile, FailureIsLine}

-- a line of a text can't be read
abbrev pub FailureIsTextError : List ℕ → TextError → Failure → Type 0
FailureIsTextError path (text.Line line) f = FailureIsLine path line f
FailureIsTextError path text.Memory f = f ≡ Memory

-- the failure of a batch check: of the file of the questions, of the file of the answers, or of a line of the latter
abbrev pub FailureIsUnanswered : (questions answers : List ℕ) → BatchCheckError → Failure → Type 0
FailureIsUnanswered questions answers (ask.Ask kind) f = FailureIsFile questions kind f
FailureIsUnanswered questions answers (ask.Answer kind) f = FailureIsFile answers kind f
FailureIsUnanswered questions answers (ask.Line line) f = FailureIsLine answers line f
FailureIsUnanswered questions answers ask.Memory f = f ≡ Memory
