-- The questions and answers so far.
use Rattle.std.proofs.Common.{◌≡◌, [], length}
use Rattle.std.specs.Io.Buffered.{writer_buffer, writer_contents}
use Rattle.gixp_fetch_common.proofs.BatchCheckLemmas.{AskedSoFar}
use Rattle.gixp_fetch_common.proofs.batch_check.BatchCheck.ask.Given as goal

abbrev pub invariant-few : goal.invariant-few
invariant-few g l =
    AskedSoFar l.ids l.rest l.fn.objects l.objects (writer_contents g.W.Write.contents l.fn.self.asks)
    (writer_contents g.W.Write.contents l.self.asks) (g.R.Read.remaining l.fn.self.answers) (g.R.Read.remaining l.self.answers)
    l.fn.self.lines l.self.lines
    × (writer_buffer l.fn.self.asks ≡ [] → writer_buffer l.self.asks ≡ [])

abbrev pub decreases-few : goal.decreases-few
decreases-few g l = length l.rest
