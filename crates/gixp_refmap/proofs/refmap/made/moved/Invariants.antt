-- The mappings of the places that were taken, the last one first, and the places and refs that are left.
use Rattle.std.proofs.Common.{◌≡◌, ◌++◌, List, length, map, reverse}
use Rattle.std.specs.List.{AllByRecursion, AllZip}
use Rattle.gixp_refs.specs.declared.handshake.Ref.{Ref}
use Rattle.gixp_refs.specs.Ref.{ref_value}
use Rattle.gixp_matching.specs.declared.match_group.Place.{Place}
use Rattle.gixp_matching.specs.MatchGroup.{group_specs}
use Rattle.gixp_refmap.specs.Made.{IsThere, IsMade, Falls}
use Rattle.gixp_refmap.proofs.refmap.made.moved.Given as goal

abbrev pub invariant-places : goal.invariant-places
invariant-places l = record {
  done : List Place;
  gone : List Ref;
  made : AllZip (IsMade (map ref_value l.fn.refs.items) (group_specs l.group)) done (reverse l.made.items);
  there : AllByRecursion (IsThere (length l.fn.refs.items) (group_specs l.group)) l.places.items;
  falls : Falls (length l.refs.items) (map (λ p. p.item_index) (reverse l.places.items));
  places : l.fn.places.items ≡ l.places.items ++ done;
  refs : l.fn.refs.items ≡ l.refs.items ++ gone;
}

abbrev pub decreases-places : goal.decreases-places
decreases-places l = length l.places.items
