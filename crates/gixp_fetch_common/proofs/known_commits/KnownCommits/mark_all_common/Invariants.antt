-- The ids so far.
use Rattle.std.proofs.Common.{take}
use Rattle.gixp_fetch_common.specs.SharedCommits.{MarksSome, MarksCommon}
use Rattle.gixp_fetch_common.proofs.known_commits.KnownCommits.mark_all_common.Given as goal

abbrev pub invariant-ids : goal.invariant-ids
invariant-ids l = record {
  some : MarksSome l.fn.self (take l.id-index l.ids) l.self;
  all : MarksCommon l.fn.self l.fn.waiting.items (take l.id-index l.ids) l.self l.waiting.items;
}
