use Rattle.gixp_packetline.proofs.AdvanceLemmas.{peeks_line, peeks_again}
use Rattle.std.proofs.Common.{ap, Ok, ◌∙◌}
use Rattle.gixp_packetline.proofs.packets.PacketsExtendedBufRead.peek_line.Goals as goal

pub returns-in-Peeked-clause-peeks : goal.returns-in-Peeked-clause-peeks
returns-in-Peeked-clause-peeks g c = peeks_again g.R.Read.remaining c.args.self.now c.in-Peeked.is

pub returns-in-Ok-true-clause-peeks : goal.returns-in-Ok-true-clause-peeks
returns-in-Ok-true-clause-peeks g c =
    let h = rw c.in-Ok-true.field-0-test at c.in-Ok-true.ensures.reads in
    peeks_line g.R.Read.remaining c.args.self.now c.advance.new.self h
    (c.advance.ensures.open (c.in-Ok-true.is ∙ ap Ok c.in-Ok-true.field-0-test))
