-- The entries so far were appended.
use Rattle.std.proofs.Common.{◌≡◌, take, map}
use Rattle.std.specs.Prelude.{filter}
use Rattle.gixp_requests.specs.Feature.{feature_values}
use Rattle.gixp_requests.specs.Command.{WordEntry, entries_of}
use Rattle.gixp_requests.specs.Offers.{is_offered, plain_feature}
use Rattle.gixp_requests.proofs.command.features.offered.Given as goal

abbrev pub invariant-loop-entry : goal.invariant-loop-entry
invariant-loop-entry l =
    feature_values l.features.items ≡ map plain_feature
    (map (λ (e : WordEntry). e.word) (filter (is_offered l.capabilities) (take l.entry-index (entries_of l.entries))))
