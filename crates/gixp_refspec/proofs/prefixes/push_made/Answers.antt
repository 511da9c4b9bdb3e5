use Rattle.gixp_refspec.specs.Matching.{joined, rule_of}
use Rattle.gixp_refspec.specs.Texts.{texts}
use Rattle.gixp_packetline.proofs.ListLemmas.{appended_more}
use Rattle.gixp_refspec.proofs.prefixes.push_made.Goals as goal

pub rules-preserved : goal.rules-preserved
rules-preserved c =
    appended_more (λ rule. joined c.args.short.now (rule_of rule)) (texts c.args.out.now) (texts c.rules.out) (texts c.push_joined.new.out)
    c.args.rules.now c.rules.front-index _ c.rules-test.true c.rules.invariant c.in_ok-push_joined.ensures.ok
