use Rattle.gixp_sidebands.specs.Sidebands.{side, sidebands_reading, listener}
use Rattle.gixp_sidebands.proofs.sidebands.WithSidebandsExtendedBufRead.readline.Goals as goal

pub returns-in-Ok-true-clause-answers : goal.returns-in-Ok-true-clause-answers
returns-in-Ok-true-clause-answers g c =
    let h = rw c.in-Ok-true.field-0-test at c.in-Ok-true.ensures.reads in
    (sidebands_reading g.T.ExtendedBufRead.reading c.next_line.new.self, (h, c.line.ensures), tt)

pub returns-in-Ok-true-clause-reported : goal.returns-in-Ok-true-clause-reported
returns-in-Ok-true-clause-reported g c =
    let h = rw c.in-Ok-true.field-0-test at c.in-Ok-true.ensures.reads in
    (side g.T.ExtendedBufRead.reading c.next_line.new.self, listener c.next_line.new.self, (h, c.line.ensures), c.in-Ok-true.ensures.reported)

pub returns-in-Ok-false-clause-reported : goal.returns-in-Ok-false-clause-reported
returns-in-Ok-false-clause-reported g c =
    let h = rw c.in-Ok-false.field-0-test at c.in-Ok-false.ensures.reads in
    (side g.T.ExtendedBufRead.reading c.next_line.new.self, listener c.next_line.new.self, h, c.in-Ok-false.ensures.reported)
