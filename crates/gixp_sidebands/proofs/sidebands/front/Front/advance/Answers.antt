use Rattle.std.proofs.Common.{ap, length}
use Rattle.gixp_sidebands.proofs.ContentLemmas.{hands_part_at}
use Rattle.gixp_sidebands.proofs.sidebands.front.Front.advance.Goals as goal

pub returns-then-amount-left-clause-hands_out : goal.returns-then-amount-left-clause-hands_out
returns-then-amount-left-clause-hands_out g c =
    let s = c.args.self.now in
    hands_part_at s.place c.in-Some.handed c.args.amount _ (g.T.ExtendedBufRead.reading s.at.now) c.in-Some.is s.held
    (ap length c.line.ensures) c.if-amount-left.true
