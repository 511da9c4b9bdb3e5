-- No more lines may be read than before, no refusal is stored yet, and the lines that were read were passed over, and are spent.
use Rattle.std.proofs.Common.{◌≡◌, ◌≤◌}
use Rattle.gixp_fetch_common.proofs.ListedLemmas.{PassedSoFar}
use Rattle.gixp_fetch_common.proofs.listed_commits.CommitText.next.Given as goal

abbrev pub invariant-lines : goal.invariant-lines
invariant-lines g l = record {
  left : l.self.left ≤ l.fn.self.left;
  refusal : l.self.refusal ≡ l.fn.self.refusal;
  passed : PassedSoFar g.R.Read.remaining l.fn.self l.self;
}

abbrev pub decreases-lines : goal.decreases-lines
decreases-lines g l = l.self.left
