use Rattle.std.proofs.Common.{◌∙◌, ap}
use Rattle.gixp_engine.specs.Handed.{answer_in}
use Rattle.gixp_engine.proofs.HandedLemmas.{answers-more, bodies-more}
use Rattle.gixp_engine.proofs.read.answers_of.Goals as goal

pub loop-end-preserved : goal.loop-end-preserved
loop-end-preserved c =
    let so = c.loop-end.invariant in let cut = c.in-Some.ensures.lookup.0 in (
      _,
      answers-more c.args.bytes.now c.args.ends.now c.loop-end.end-index c.loop-end.start 0 so.0 so.1 c.loop-end-test.true cut.0 cut.1,
      bodies-more _ _ _ so.0 _ c.in_ok-push.ensures.items so.2 (ap answer_in (c.in_ok-from_slice.ensures.items ∙ cut.2)),
    )
