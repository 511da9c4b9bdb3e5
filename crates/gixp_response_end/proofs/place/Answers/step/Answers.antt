use Rattle.std.proofs.Common.{◌≤◌, length, arith}
use Rattle.gixp_response_end.proofs.AnswersLemmas.{over_payload, over_steps, reads_rest, no_range}
use Rattle.gixp_response_end.proofs.place.Answers.step.Goals as goal

pub returns-else-left-gt0 : goal.returns-else-left-gt0
returns-else-left-gt0 g c = let s = c.args.self.now in (
  over_payload (g.R.Read.remaining s.reader) s.advertised s.next _ c.in-Payload.left c.in-Payload.is (omega arith)
      (no_range s.digits s.start s.end (omega arith)),
  over_steps s.start s.end c.in-Payload.left s.next c.in-Payload.is (omega arith),
)

pub returns-in_ok-read-in-Rest : goal.returns-in_ok-read-in-Rest
returns-in_ok-read-in-Rest g c =
    let s = c.args.self.now in
    let n = c.in_ok-read-in-Rest.field-0 in
    let fits : n ≤ length c.read.new.buf = c.in_ok-read-in-Rest.ensures.bound.0 in
    reads_rest (g.R.Read.remaining s.reader) (g.R.Read.remaining c.read.new.self) s.advertised s.next _ c.read.new.buf n
    c.in-Rest.is (no_range s.digits s.start s.end (omega arith)) fits (omega arith)
    c.in_ok-read-in-Rest.ensures.bytes.0 c.in_ok-read-in-Rest.ensures.bytes.1
