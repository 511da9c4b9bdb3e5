use Rattle.std.proofs.Common.{List, ℕ}
use Rattle.gixp_sidebands.specs.Bands.{content_bound}
use Rattle.gixp_sidebands.specs.Sidebands.{side}
use Rattle.gixp_pack.specs.Taken.{HasTaken}
use Rattle.gixp_fetch_common.specs.PackCopied.{CopiedNext}
use Rattle.gixp_fetch_common.proofs.copy.copy_pack.Given as goal

abbrev pub invariant-pieces : goal.invariant-pieces
invariant-pieces g l = (read : List ℕ) × CopiedNext (g.W.Write.contents l.fn.writer) (side g.T.ExtendedBufRead.reading l.fn.reader) read
    (g.W.Write.contents l.writer) (side g.T.ExtendedBufRead.reading l.reader)
    × HasTaken l.check read

abbrev pub decreases-pieces : goal.decreases-pieces
decreases-pieces g l = content_bound (side g.T.ExtendedBufRead.reading l.reader)
