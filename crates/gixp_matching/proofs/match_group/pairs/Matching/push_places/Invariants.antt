use Rattle.std.proofs.Common.{◌≡◌, ◌++◌, take}
use Rattle.std.specs.List.{flat_map}
use Rattle.gixp_matching.specs.Places.{places_in, pair_places}
use Rattle.gixp_matching.specs.MatchGroup.{values, names}
use Rattle.gixp_matching.specs.Rows.{numbered_value, ref_at}
use Rattle.gixp_matching.proofs.match_group.pairs.Matching.push_places.Given as goal

abbrev pub invariant-places : goal.invariant-places
invariant-places l =
    places_in l.out ≡ places_in l.initial.out
    ++ flat_map (λ place. flat_map (pair_places (values l.self.prepared.now.specs.now) (numbered_value l.numbered))
    (ref_at (names l.self.items.now) place)) (take l.place-index l.places)
