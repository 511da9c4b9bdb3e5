use Rattle.std.proofs.Common.{length, arith, sym, refl, ltb-false}
use Rattle.gixp_matching.proofs.GroupLemmas.{all_left, run_fewer, less_left, none_left}
use Rattle.gixp_matching.proofs.match_group.validate.groups.several_of.Goals as goal

pub loop-first-init : goal.loop-first-init
loop-first-init g c = (omega arith, all_left c.args.rows.now c.new-groups.result.items c.requires c.new-groups.ensures.items)

pub loop-first-smaller : goal.loop-first-smaller
loop-first-smaller g c =
    run_fewer c.args.rows.now c.loop-first.start (length c.run_of-run.result.now) c.in-Some.first.now c.in-Some.ensures.lookup.3.0
    c.in-Some.ensures.lookup.1 c.run_of-run.ensures.rest

pub loop-first-preserved : goal.loop-first-preserved
loop-first-preserved g c =
    less_left c.args.rows.now c.loop-first.start c.in-Some.first.now c.loop-first.groups.items c.push_several.new.groups.items
    record { number = c.in-Some.first.now.number; place = c.in-Some.first.now.place; rows = c.run_of-run.result }
    c.in-Some.ensures.lookup.3.0 c.in-Some.ensures.lookup.1 c.loop-first.invariant.1 refl c.run_of-run.ensures.run
    c.run_of-run.ensures.rest
    c.run_of-run.ensures.within c.in_ok-push_several.ensures

pub returns : goal.returns
returns g c =
    none_left c.args.rows.now c.loop-first.start c.loop-first.groups.items
    (ltb-false c.loop-first.start (length c.args.rows.now) (sym c.in_default.ensures.lookup.0)) c.loop-first.invariant.1
