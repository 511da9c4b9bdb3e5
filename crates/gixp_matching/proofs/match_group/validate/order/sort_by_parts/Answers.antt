-- Both sorts permute.
use Rattle.std.proofs.lemmas.List.Sorted.{IsPermutation-trans}
use Rattle.gixp_matching.proofs.match_group.validate.order.sort_by_parts.Goals as goal

pub returns : goal.returns
returns c =
    IsPermutation-trans c.args.issues.now.items c.sort_by_cached_key.new.self.items c.sort_by_cached_key-2.new.self.items
    c.in_ok-sort_by_cached_key.ensures.permutation c.sort_by_cached_key-2.ensures.permutation
