-- Once the remaining places are valid, all are.
use Rattle.std.proofs.Common.{◌≤◌, length, take, map, reverse}
use Rattle.gixp_refmap.specs.Made.{Falls}
use Rattle.gixp_refmap.proofs.refmap.made.are_in_order.Given as goal

abbrev pub invariant-places : goal.invariant-places
invariant-places l = record {
  within : l.index ≤ length l.places;
  falls : Falls l.left (map (λ p. p.item_index) (reverse (take l.index l.places)))
      → Falls l.fn.count (map (λ p. p.item_index) (reverse l.places));
}

abbrev pub decreases-places : goal.decreases-places
decreases-places l = l.index
