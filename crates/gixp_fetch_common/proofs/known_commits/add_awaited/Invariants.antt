-- The commits so far.
use Rattle.std.proofs.Common.{take}
use Rattle.std.specs.Prelude.{All}
use Rattle.gixp_fetch_common.specs.KnownCommits.{KeepsIds, IsAwaitedOrKnown, AddsUnknown}
use Rattle.gixp_fetch_common.proofs.known_commits.add_awaited.Given as goal

abbrev pub invariant-commits : goal.invariant-commits
invariant-commits l = record {
  keeps : KeepsIds l.fn.awaited l.awaited;
  all : All (IsAwaitedOrKnown l.read l.common l.awaited) (take l.id-index l.commits);
  adds : AddsUnknown l.read l.common l.fn.awaited l.awaited;
}
