use Rattle.std.proofs.Common.{sym, ap, ◌∙◌}
use Rattle.std.specs.Option.{option_map}
use Rattle.gixp_requests.specs.Feature.{feature_value}
use Rattle.gixp_requests.specs.Offers.{bad_feature}
use Rattle.gixp_requests.proofs.AppendLemmas.{find-map}
use Rattle.gixp_requests.proofs.command.validate_argument_prefixes.unsupported_feature.Goals as goal

pub returns : goal.returns
returns c =
    ap (option_map feature_value) c.bad_feature.ensures
    ∙ sym (find-map (bad_feature c.args.command c.args.version c.args.capabilities.now) feature_value c.args.features.now)
