use Rattle.std.proofs.Common.{◌≡◌, Less, length, subst}
use Rattle.std.specs.List.{AllAdjacentBelow}
use Rattle.gixp_matching.proofs.DistinctLemmas.{distinct_sorted}
use Rattle.gixp_matching.proofs.match_group.sorted.are_distinct.Goals as goal

pub returns : goal.returns
returns g c = λ t.
    distinct_sorted g.met.K.Ord.total c.args.keys.items c.sort_unstable.new.self.items c.sort_unstable.ensures.permutation
    (subst (λ l. AllAdjacentBelow (λ x y. g.K.Ord.cmp x y ≡ Less) l (length l)) c.deref.ensures.value (c.is_rising.ensures t))
