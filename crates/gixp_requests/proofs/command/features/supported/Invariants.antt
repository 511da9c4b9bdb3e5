-- The words so far were appended.
use Rattle.std.proofs.Common.{◌≡◌, take, map}
use Rattle.std.specs.Prelude.{filter}
use Rattle.gixp_requests.specs.Feature.{feature_values}
use Rattle.gixp_requests.specs.Command.{words_of}
use Rattle.gixp_requests.specs.Offers.{supports, plain_feature}
use Rattle.gixp_requests.proofs.command.features.supported.Given as goal

abbrev pub invariant-loop-word : goal.invariant-loop-word
invariant-loop-word l =
    feature_values l.features.items ≡ map plain_feature (filter (supports l.capabilities l.command) (take l.word-index (words_of l.words)))
