-- The parents, and what they lead to.
use Rattle.gixp_fetch_common.proofs.SpreadLemmas.{shares_parents, shares_some, shares_all}
use Rattle.gixp_fetch_common.proofs.known_commits.KnownCommits.share.Goals as goal

pub returns-in-Err-clause-some : goal.returns-in-Err-clause-some
returns-in-Err-clause-some c = shares_parents c.args.self.now c.share_parents.new.self c.args.id c.share_parents.ensures.some

pub returns-in-Ok-share_waiting-clause-some : goal.returns-in-Ok-share_waiting-clause-some
returns-in-Ok-share_waiting-clause-some c =
    shares_some c.args.self.now c.share_parents.new.self c.share_waiting.new.self c.args.id c.new-waiting.result.items
    c.share_parents.new.waiting.items c.new-waiting.ensures.items c.share_parents.ensures.some c.in-Ok.ensures.all
    c.share_waiting.ensures.read c.share_waiting.ensures.keeps c.share_waiting.ensures.tracked c.share_waiting.ensures.unknown
    c.share_waiting.ensures.adds

pub returns-in-Ok-share_waiting-clause-all : goal.returns-in-Ok-share_waiting-clause-all
returns-in-Ok-share_waiting-clause-all c =
    shares_all c.args.self.now c.share_parents.new.self c.share_waiting.new.self c.args.id c.new-waiting.result.items
    c.share_parents.new.waiting.items c.new-waiting.ensures.items c.share_parents.ensures.some c.in-Ok.ensures.all
    c.share_waiting.ensures.keeps c.in-Ok-share_waiting.ensures.whole

pub returns-clause-some : goal.returns-clause-some
returns-clause-some c =
    shares_some c.args.self.now c.share_parents.new.self c.share_waiting.new.self c.args.id c.new-waiting.result.items
    c.share_parents.new.waiting.items c.new-waiting.ensures.items c.share_parents.ensures.some c.in-Ok.ensures.all
    c.share_waiting.ensures.read c.share_waiting.ensures.keeps c.share_waiting.ensures.tracked c.share_waiting.ensures.unknown
    c.share_waiting.ensures.adds
