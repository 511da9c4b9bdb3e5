use Rattle.std.proofs.Common.{◌≡◌, ◌++◌, drop}
use Rattle.std.specs.List.{flat_map, enumerate_from}
use Rattle.gixp_matching.specs.Places.{places_in, pair_places, places_with}
use Rattle.gixp_matching.specs.Rows.{numbered_value}
use Rattle.gixp_matching.specs.MatchGroup.{values, names}
use Rattle.gixp_matching.proofs.match_group.pairs.Matching.push_compared.Given as goal

abbrev pub invariant-items : goal.invariant-items
invariant-items l =
    places_in l.out ++ (flat_map (pair_places (values l.self.prepared.now.specs.now) (numbered_value l.numbered))
    (enumerate_from l.place (drop l.place (names l.self.items.now))))
    ≡ places_in l.initial.out ++ (places_with (values l.self.prepared.now.specs.now) (names l.self.items.now) (numbered_value l.numbered))
