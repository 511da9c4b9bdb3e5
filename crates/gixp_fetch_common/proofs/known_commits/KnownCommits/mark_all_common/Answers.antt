-- One id more, or none.
use Rattle.gixp_fetch_common.proofs.SpreadLemmas.{marks_none, marks_none_yet, marked_more, marked_part}
use Rattle.gixp_fetch_common.proofs.known_commits.KnownCommits.mark_all_common.Goals as goal

pub ids-init : goal.ids-init
ids-init c = record { some = marks_none c.args.self.now; all = marks_none_yet c.args.self.now c.args.waiting.now.items }

pub ids-preserved : goal.ids-preserved
ids-preserved c =
    let more = marked_more c.args.self.now c.ids.self c.mark_common.new.self c.args.ids.now c.ids.id-index _ c.args.waiting.now.items
    c.ids.waiting.items c.mark_common.new.waiting.items c.ids-test.true c.ids.invariant.some c.ids.invariant.all c.mark_common.ensures.some
    c.in-Ok.ensures.all in
    record { some = more.0; all = more.1 }

pub returns-in-Err-clause-some : goal.returns-in-Err-clause-some
returns-in-Err-clause-some c =
    marked_part c.args.self.now c.ids.self c.mark_common.new.self c.args.ids.now c.ids.id-index _ c.ids-test.true c.ids.invariant.some
    c.mark_common.ensures.some
