use Rattle.gixp_requests.specs.Feature.{feature_value}
use Rattle.gixp_requests.proofs.AppendLemmas.{joined_read}
use Rattle.gixp_requests.proofs.ArgumentLemmas.{spaced_on, spaced_on-append}
use Rattle.gixp_requests.proofs.fetch.arguments.text.push_on.Goals as goal

pub loop-feature-preserved : goal.loop-feature-preserved
loop-feature-preserved c =
    joined_read (spaced_on c.args.include_tag c.args.deepen_relative)
    (spaced_on-append c.args.include_tag c.args.deepen_relative) feature_value
    c.args.line.now.items c.loop-feature.line.items c.push_if_on.new.line.items c.args.features.now c.loop-feature.feature-index
    c.feature-item.result c.feature-item.is
    c.loop-feature-test.true c.loop-feature.invariant c.in_ok-push_if_on.ensures
