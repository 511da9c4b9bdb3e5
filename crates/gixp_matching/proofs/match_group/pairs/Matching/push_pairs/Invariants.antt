use Rattle.std.proofs.Common.{◌≡◌, ◌++◌, drop, map}
use Rattle.std.specs.List.{flat_map, enumerate_from}
use Rattle.gixp_matching.specs.Mappings.{pairs}
use Rattle.gixp_matching.specs.Places.{place_of, places_in, places_with}
use Rattle.gixp_matching.specs.MatchGroup.{values, names}
use Rattle.gixp_matching.proofs.match_group.pairs.Matching.push_pairs.Given as goal

abbrev pub invariant-specs : goal.invariant-specs
invariant-specs l =
    places_in l.out ++ (flat_map (places_with (values l.self.prepared.now.specs.now) (names l.self.items.now))
    (enumerate_from l.index (drop l.index (values l.self.prepared.now.specs.now))))
    ≡ places_in l.initial.out ++ map place_of (pairs (values l.self.prepared.now.specs.now) (names l.self.items.now))
