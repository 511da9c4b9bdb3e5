use Rattle.gixp_sidebands.specs.Sidebands.{side, sidebands_reading, listener}
use Rattle.gixp_sidebands.proofs.sidebands.WithSidebandsExtendedBufRead.peek_data_line.Goals as goal

pub returns-in-Ok-true-clause-answers : goal.returns-in-Ok-true-clause-answers
returns-in-Ok-true-clause-answers g c =
    let h = rw c.in-Ok-true.field-0-test at c.in-Ok-true.ensures.peeks in
    (sidebands_reading g.T.ExtendedBufRead.reading c.peek_line.new.self, (h, c.line.ensures), tt)

pub returns-in-Ok-true-clause-reported : goal.returns-in-Ok-true-clause-reported
returns-in-Ok-true-clause-reported g c =
    let h = rw c.in-Ok-true.field-0-test at c.in-Ok-true.ensures.peeks in
    (side g.T.ExtendedBufRead.reading c.peek_line.new.self, listener c.peek_line.new.self, (h, c.line.ensures), c.in-Ok-true.ensures.reported)

pub returns-in-Ok-false-clause-reported : goal.returns-in-Ok-false-clause-reported
returns-in-Ok-false-clause-reported g c =
    let h = rw c.in-Ok-false.field-0-test at c.in-Ok-false.ensures.peeks in
    (side g.T.ExtendedBufRead.reading c.peek_line.new.self, listener c.peek_line.new.self, h, c.in-Ok-false.ensures.reported)
