-- Where all local names differ, there is no conflict.
use Rattle.std.proofs.Common.{◌∙◌, ap, map}
use Rattle.gixp_matching.specs.MatchGroup.{values}
use Rattle.gixp_matching.specs.Validate.{conflict_of}
use Rattle.gixp_matching.proofs.DistinctLemmas.{no_conflicts}
use Rattle.gixp_matching.proofs.match_group.validate.conflicts.conflicts_of.Goals as goal

pub returns-then-branch : goal.returns-then-branch
returns-then-branch g c =
    ap (map conflict_of) c.new.ensures.items
    ∙ no_conflicts (values c.args.specs.now) (map g.M.AsMapping.mapped c.args.mappings.now) (c.in_ok-are_apart.ensures c.if-branch.true)
