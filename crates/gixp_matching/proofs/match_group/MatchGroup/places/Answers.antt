use Rattle.gixp_matching.specs.MatchGroup.{group_specs, names}
use Rattle.gixp_matching.proofs.FollowLemmas.{repeated_follow}
use Rattle.gixp_matching.proofs.match_group.MatchGroup.places.Goals as goal

pub returns-clause-reported : goal.returns-clause-reported
returns-clause-reported c = repeated_follow (group_specs c.args.self.now) (names c.args.items.now)
