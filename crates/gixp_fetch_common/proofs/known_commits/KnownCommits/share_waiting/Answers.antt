-- The parents of one more.
use Rattle.std.proofs.Common.{◌∙◌}
use Rattle.gixp_fetch_common.proofs.KnownLemmas.{keeps_trans}
use Rattle.gixp_fetch_common.proofs.SpreadLemmas.{loses_none_trans, shared_more, shared_part}
use Rattle.gixp_fetch_common.proofs.known_commits.KnownCommits.share_waiting.Goals as goal

pub waiting-preserved : goal.waiting-preserved
waiting-preserved c = record {
  read = c.share_parents.ensures.some.read ∙ c.waiting.invariant.read;
  keeps = keeps_trans _ _ _ c.waiting.invariant.keeps c.share_parents.ensures.some.keeps;
  tracked = loses_none_trans _ _ _ c.waiting.invariant.tracked c.share_parents.ensures.some.tracked;
  unknown = λ w. c.share_parents.ensures.some.unknown (c.waiting.invariant.unknown w);
  spreads = shared_more c.args.self.now.read c.args.self.now.common c.args.waiting.now.items c.waiting.self c.share_parents.new.self
      c.waiting.waiting.items c.pop.new.self.items c.share_parents.new.waiting.items c.in-Some.next c.waiting.invariant.read
      c.waiting.invariant.spreads c.in-Some.ensures.items c.share_parents.ensures.some c.in-Ok.ensures.all;
}

pub returns-in-Err-clause-adds : goal.returns-in-Err-clause-adds
returns-in-Err-clause-adds c =
    shared_part c.args.self.now.read c.args.self.now.common c.args.waiting.now.items c.waiting.self c.share_parents.new.self
    c.waiting.waiting.items c.pop.new.self.items c.in-Some.next c.waiting.invariant.read c.waiting.invariant.spreads
    c.in-Some.ensures.items c.share_parents.ensures.some
