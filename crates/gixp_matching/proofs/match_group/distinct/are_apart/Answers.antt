-- Mappings with different hashes are all first ones.
use Rattle.std.proofs.Common.{map, subst}
use Rattle.std.specs.List.{IsDistinct}
use Rattle.gixp_matching.proofs.DigestLemmas.{firsts_by_number}
use Rattle.gixp_matching.proofs.match_group.distinct.are_apart.Goals as goal

pub returns : goal.returns
returns g c = λ t. firsts_by_number (map g.M.AsMapping.mapped c.args.mappings.now)
    (subst (IsDistinct _) c.in_ok-digests.ensures (c.are_distinct.ensures t))
