use Rattle.std.proofs.Common.{◌++◌, map, sym, ap, ◌∙◌}
use Rattle.bstr.specs.Owned.{bstring_bytes}
use Rattle.gixp_requests.specs.Feature.{feature_values}
use Rattle.gixp_requests.specs.Arguments.{spaced, texts_on}
use Rattle.gixp_requests.proofs.ArgumentLemmas.{spaced-append}
use Rattle.gixp_requests.proofs.fetch.arguments.text.spaced_features.Goals as goal

pub returns : goal.returns
returns c =
    let added = map bstring_bytes c.args.added.now in
    let on = texts_on c.args.include_tag c.args.deepen_relative (feature_values c.args.features.now) in
    c.in_ok-push_added.ensures ∙ ap (λ t. t ++ spaced added)
    (c.in_ok-push_on.ensures ∙ ap (λ t. t ++ spaced on) c.new-text.ensures.items) ∙ sym (spaced-append on added)
