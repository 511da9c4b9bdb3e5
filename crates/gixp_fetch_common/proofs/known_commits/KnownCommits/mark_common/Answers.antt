-- One id that was common, and one that wasn't.
use Rattle.std.proofs.Common.{◌≡◌, false, rules}
use Rattle.gixp_fetch_common.proofs.SpreadLemmas.{marks_old, marks_new}
use Rattle.gixp_fetch_common.proofs.known_commits.KnownCommits.mark_common.Goals as goal

pub returns-in-Ok-false-clause-all : goal.returns-in-Ok-false-clause-all
returns-in-Ok-false-clause-all c =
    let is_old : c.in-Ok-false.field-0 ≡ false = search rules in
    marks_old _ _ c.args.waiting.now.items c.args.id.now c.in-Ok-false.ensures.has (c.in-Ok-false.ensures.known is_old)

pub returns-in-Ok-clause-all : goal.returns-in-Ok-clause-all
returns-in-Ok-clause-all c =
    marks_new c.args.self.now c.forget.new.self c.insert_id.new.set c.args.waiting.now.items c.push.new.self.items c.args.id.now
    c.forget.ensures.common c.in-Ok-true.ensures.has c.insert_id.ensures.adds c.in-Ok.ensures.items
