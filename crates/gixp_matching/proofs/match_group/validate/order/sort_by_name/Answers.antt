-- The last sort decides.
use Rattle.std.proofs.Common.{nat_cmp, rules}
use Rattle.std.specs.Cmp.Lexicographic.{slice_cmp}
use Rattle.std.specs.Ordering.{is_lt}
use Rattle.std.proofs.lemmas.Cmp.{nat_list_cmp_total}
use Rattle.std.proofs.lemmas.Fn.{always_returns_same}
use Rattle.std.proofs.lemmas.List.Sorted.{IsPermutation-trans, ranks_by}
use Rattle.gixp_matching.specs.Found.{destination_of}
use Rattle.gixp_matching.proofs.match_group.validate.order.sort_by_name.Goals as goal

pub returns-clause-permutation : goal.returns-clause-permutation
returns-clause-permutation c =
    IsPermutation-trans c.args.issues.now.items c.sort_by_parts.new.issues.items c.sort_unstable_by.new.self.items
    c.in_ok-sort_by_parts.ensures c.sort_unstable_by.ensures.permutation

pub returns-clause-order : goal.returns-clause-order
returns-clause-order c =
    c.sort_unstable_by.ensures.sorted (λ x y. is_lt (slice_cmp nat_cmp (destination_of x) (destination_of y)))
    (ranks_by nat_list_cmp_total destination_of) (always_returns_same _ _ _ (λ a r q k. search rules))
