-- The features so far were appended.
use Rattle.std.proofs.Common.{◌≡◌, take}
use Rattle.gixp_requests.specs.Feature.{feature_values}
use Rattle.gixp_requests.specs.Command.{texts}
use Rattle.gixp_requests.specs.Request.{sent_features}
use Rattle.gixp_requests.proofs.fetch.arguments.messages.sent_features.Given as goal

abbrev pub invariant-loop-feature : goal.invariant-loop-feature
invariant-loop-feature l = texts l.lines ≡ sent_features (take l.feature-index (feature_values l.features))
