use Rattle.std.proofs.Common.{sym, ◌∙◌}
use Rattle.std.specs.Str.{bytes_eq}
use Rattle.gixp_requests.specs.Feature.{FeatureValue, feature_value}
use Rattle.gixp_packetline.proofs.ListLemmas.{any_of_map}
use Rattle.gixp_requests.proofs.command.table.has_feature.Goals as goal

pub returns : goal.returns
returns c = c.is_named.ensures ∙ sym (any_of_map (λ (f : FeatureValue). bytes_eq f.name c.args.name.now) feature_value c.args.features.now)
