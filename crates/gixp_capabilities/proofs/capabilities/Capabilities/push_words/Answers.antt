-- A piece is appended unless it is empty.
use Rattle.std.proofs.Common.{rules, tests}
use Rattle.gixp_capabilities.proofs.CapabilityLemmas.{word_more, word_none}
use Rattle.gixp_capabilities.proofs.capabilities.Capabilities.push_words.Goals as goal

pub loop-rest-preserved-in_ok-push : goal.loop-rest-preserved-in_ok-push
loop-rest-preserved-in_ok-push c =
    rw c.in_ok-push.ensures.ok
    (word_more _ _ c.in-Some.text.now c.cut.result.0.now c.cut.result.1 c.cut.ensures (search (rules, tests))
    (rw c.in-Some.is at c.loop-rest.invariant))

pub loop-rest-preserved : goal.loop-rest-preserved
loop-rest-preserved c =
    word_none _ _ c.in-Some.text.now c.cut.result.0.now c.cut.result.1 c.cut.ensures (search (rules, tests))
    (rw c.in-Some.is at c.loop-rest.invariant)
