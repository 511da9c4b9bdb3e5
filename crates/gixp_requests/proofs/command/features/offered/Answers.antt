use Rattle.std.proofs.Common.{[]}
use Rattle.gixp_requests.specs.Feature.{feature_values}
use Rattle.gixp_requests.specs.Command.{entry_of}
use Rattle.gixp_requests.proofs.AppendLemmas.{joined_more}
use Rattle.gixp_requests.proofs.OfferLemmas.{offered_features, offered_features-append}
use Rattle.gixp_requests.proofs.command.features.offered.Goals as goal

pub loop-entry-preserved : goal.loop-entry-preserved
loop-entry-preserved c =
    joined_more (offered_features c.args.capabilities.now) (offered_features-append c.args.capabilities.now) entry_of
    [] (feature_values c.loop-entry.features.items)
    (feature_values c.push_offered.new.features.items) c.args.entries.now c.loop-entry.entry-index _ c.loop-entry-test.true
    c.loop-entry.invariant c.in_ok-push_offered.ensures
