use Rattle.std.proofs.Common.{List, ℕ}
use Rattle.gixp_sidebands.specs.Bands.{content_bound}
use Rattle.gixp_sidebands.specs.Sidebands.{side}
use Rattle.gixp_fetch.specs.Consume.{Copied}
use Rattle.gixp_fetch.proofs.consume.copy.CopyPack.copy.Given as goal

abbrev pub invariant-pieces : goal.invariant-pieces
invariant-pieces g l = (read : List ℕ) × Copied (g.W.Write.contents l.fn.self.writer)
    (side g.T.ExtendedBufRead.reading l.fn.reader) read (g.W.Write.contents l.self.writer) (side g.T.ExtendedBufRead.reading l.reader)

abbrev pub decreases-pieces : goal.decreases-pieces
decreases-pieces g l = content_bound (side g.T.ExtendedBufRead.reading l.reader)
