use Rattle.std.proofs.Common.{◌≡◌, arith, ap, rules}
use Rattle.gixp_response_end.specs.Order.{needs_digits}
use Rattle.gixp_response_end.proofs.AnswersLemmas.{took_end}
use Rattle.gixp_response_end.proofs.place.Answers.end_answer.Goals as goal

pub returns-then-is_response_end-clause-bytes : goal.returns-then-is_response_end-clause-bytes
returns-then-is_response_end-clause-bytes g c =
    let s = c.args.self.now in
    took_end (g.R.Read.remaining s.reader) s.advertised c.is_response_end.result c.size_of.result c.args.digits s.start (omega arith)
    (s.in_order.2 (ap needs_digits c.requires)).0 c.size_of.ensures c.is_response_end.ensures (search rules)
