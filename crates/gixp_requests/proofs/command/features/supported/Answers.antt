use Rattle.std.proofs.Common.{ℕ, List, Bor}
use Rattle.gixp_requests.specs.Feature.{feature_values}
use Rattle.gixp_requests.specs.Offers.{supports, plain_feature}
use Rattle.gixp_requests.proofs.AppendLemmas.{filtered_more}
use Rattle.gixp_requests.proofs.command.features.supported.Goals as goal

pub loop-word-preserved : goal.loop-word-preserved
loop-word-preserved c =
    filtered_more (λ (w : Bor (List ℕ)). w.now) (supports c.args.capabilities.now c.args.command) plain_feature
    (feature_values c.loop-word.features.items)
    (feature_values c.push_supported.new.features.items) c.args.words.now c.loop-word.word-index _ c.loop-word-test.true
    c.loop-word.invariant c.in_ok-push_supported.ensures
