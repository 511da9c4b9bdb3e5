use Rattle.std.proofs.Common.{◌≡◌, ◌++◌, drop, map}
use Rattle.std.specs.List.{flat_map, enumerate_from}
use Rattle.gixp_matching.specs.Mappings.{id_mappings}
use Rattle.gixp_matching.specs.Places.{place_of, places_in, id_places}
use Rattle.gixp_matching.specs.MatchGroup.{values}
use Rattle.gixp_matching.proofs.match_group.pairs.push_ids.Given as goal

abbrev pub invariant-specs : goal.invariant-specs
invariant-specs l =
    places_in l.out ++ (flat_map id_places (enumerate_from l.index (drop l.index (values l.specs))))
    ≡ places_in l.initial.out ++ map place_of (id_mappings (values l.specs))
