use Rattle.std.proofs.Common.{◌≡◌, arith, ap}
use Rattle.gixp_response_end.specs.Order.{needs_digits}
use Rattle.gixp_response_end.proofs.AnswersLemmas.{took_line}
use Rattle.gixp_response_end.proofs.place.Answers.begin_line.Goals as goal

pub returns-clause-bytes : goal.returns-clause-bytes
returns-clause-bytes g c =
    let s = c.args.self.now in
    took_line (g.R.Read.remaining s.reader) s.advertised _ _ c.size_of-size.result c.args.digits s.start _ (omega arith) (s.in_order.2 (ap needs_digits c.requires)).0
    c.size_of-size.ensures c.next_of-self.ensures c.advertised_after-self.ensures c.given_count-self.ensures
