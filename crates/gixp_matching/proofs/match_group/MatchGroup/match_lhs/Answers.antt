-- Fewer refs give the same mappings.
use Rattle.gixp_matching.specs.MatchGroup.{group_specs, names}
use Rattle.gixp_matching.proofs.SameValidationLemmas.{answers_all}
use Rattle.gixp_matching.proofs.match_group.MatchGroup.match_lhs.Goals as goal

pub returns-clause-filtered : goal.returns-clause-filtered
returns-clause-filtered c = answers_all (group_specs c.args.self.now) (names c.args.items.now) _ c.in_ok-mappings.ensures
