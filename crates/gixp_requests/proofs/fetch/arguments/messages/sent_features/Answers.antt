use Rattle.std.proofs.Common.{[]}
use Rattle.gixp_requests.specs.Feature.{feature_value}
use Rattle.gixp_requests.specs.Command.{texts}
use Rattle.gixp_requests.specs.Request.{sent_features}
use Rattle.gixp_requests.proofs.AppendLemmas.{joined_read}
use Rattle.gixp_requests.proofs.RequestLemmas.{sent_features-append}
use Rattle.gixp_requests.proofs.fetch.arguments.messages.sent_features.Goals as goal

pub loop-feature-preserved : goal.loop-feature-preserved
loop-feature-preserved c =
    joined_read sent_features sent_features-append feature_value [] (texts c.loop-feature.lines)
    (texts c.push_sent.new.lines) c.args.features.now c.loop-feature.feature-index
    c.feature-item.result c.feature-item.is c.loop-feature-test.true c.loop-feature.invariant c.in_ok-push_sent.ensures
