use Rattle.std.proofs.Common.{◌≡◌, Less}
use Rattle.std.specs.List.{AllAdjacentBelow}
use Rattle.gixp_matching.proofs.match_group.sorted.is_rising.Given as goal

abbrev pub invariant-keys : goal.invariant-keys
invariant-keys g l = AllAdjacentBelow (λ x y. g.K.Ord.cmp x y ≡ Less) l.keys l.next
