-- What waited spread to what waits now.
use Rattle.std.proofs.Common.{◌≡◌}
use Rattle.gixp_fetch_common.specs.KnownCommits.{KeepsIds, LosesNone, AwaitsUnknown}
use Rattle.gixp_fetch_common.specs.SharedCommits.{SpreadsOn}
use Rattle.gixp_fetch_common.proofs.known_commits.KnownCommits.share_waiting.Given as goal

abbrev pub invariant-waiting : goal.invariant-waiting
invariant-waiting l = record {
  read : l.self.read ≡ l.fn.self.read;
  keeps : KeepsIds l.fn.self.common l.self.common;
  tracked : LosesNone l.fn.self l.self;
  unknown : AwaitsUnknown l.fn.self → AwaitsUnknown l.self;
  spreads : SpreadsOn l.fn.self.read l.fn.self.common l.fn.waiting.items l.self.common l.waiting.items;
}
