use Rattle.std.proofs.Common.{arith}
use Rattle.gixp_response_end.proofs.AnswersLemmas.{took_part}
use Rattle.gixp_response_end.proofs.place.Answers.take_digits.Goals as goal

pub returns-then-end-lt4-clause-bytes : goal.returns-then-end-lt4-clause-bytes
returns-then-end-lt4-clause-bytes g c =
    let s = c.args.self.now in
    took_part (g.R.Read.remaining s.reader) s.advertised s.next c.args.digits s.start c.args.end (omega arith)
    (s.in_order.2 c.requires.next).0
