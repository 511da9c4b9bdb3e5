-- Local names with different hashes are different.
use Rattle.std.proofs.Common.{map, subst}
use Rattle.std.specs.List.{IsDistinct}
use Rattle.gixp_matching.specs.Apart.{locals}
use Rattle.gixp_matching.proofs.DigestLemmas.{names_apart}
use Rattle.gixp_matching.proofs.match_group.validate.apart.are_apart.Goals as goal

pub returns : goal.returns
returns g c = λ t. names_apart (locals (map g.M.AsMapping.mapped c.args.mappings.now))
    (subst (IsDistinct _) c.in_ok-digests.ensures (c.are_distinct.ensures t))
