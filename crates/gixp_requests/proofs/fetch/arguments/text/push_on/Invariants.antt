-- The features so far were appended.
use Rattle.std.proofs.Common.{◌≡◌, ◌++◌, take}
use Rattle.gixp_requests.specs.Feature.{feature_values}
use Rattle.gixp_requests.specs.Arguments.{spaced, texts_on}
use Rattle.gixp_requests.proofs.fetch.arguments.text.push_on.Given as goal

abbrev pub invariant-loop-feature : goal.invariant-loop-feature
invariant-loop-feature l =
    l.line.items ≡ l.initial.line.items ++ spaced
    (texts_on l.include_tag l.deepen_relative (take l.feature-index (feature_values l.features)))
