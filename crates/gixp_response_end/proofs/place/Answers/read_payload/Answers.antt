use Rattle.std.proofs.Common.{◌≤◌, arith, length, length-take}
use Rattle.gixp_response_end.proofs.AnswersLemmas.{reads_payload, no_range}
use Rattle.gixp_response_end.proofs.place.Answers.read_payload.Goals as goal

pub returns-clause-bytes : goal.returns-clause-bytes
returns-clause-bytes g c =
    let s = c.args.self.now in
    let n = c.in_ok-count.count in
    let fits : n ≤ length c.read.new.buf = c.in_ok-count.ensures.bound.0 in
    let len = length-take c.min-most.result c.args.buf.now in
    reads_payload (g.R.Read.remaining s.reader) (g.R.Read.remaining c.read.new.self) s.advertised s.next _ c.read.new.buf _ c.args.left n
    c.requires.next (no_range s.digits s.start s.end (omega arith)) fits (omega (arith, len)) (omega (arith, len))
    c.in_ok-count.ensures.bytes.0 c.in_ok-count.ensures.bytes.1
