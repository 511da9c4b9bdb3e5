use Rattle.std.proofs.Common.{rules}
use Rattle.std.specs.Prelude.{not}
use Rattle.std.proofs.lemmas.List.Elements.{filter_from_retain}
use Rattle.gixp_matching.specs.Validation.{is_partial}
use Rattle.gixp_matching.proofs.match_group.validate.fixes.keep_whole.Goals as goal

pub returns : goal.returns
returns g c =
    filter_from_retain _ (λ m. not (is_partial (g.M.AsMapping.mapped m))) (λ p x b q k. search rules) _ _ _ c.retain.ensures.filtered
