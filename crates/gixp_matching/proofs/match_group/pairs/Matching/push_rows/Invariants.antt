use Rattle.std.proofs.Common.{◌≡◌, ◌++◌, take, map}
use Rattle.std.specs.List.{flat_map}
use Rattle.gixp_matching.specs.Places.{places_in, pair_places}
use Rattle.gixp_matching.specs.MatchGroup.{values}
use Rattle.gixp_matching.specs.Rows.{numbered_value, shown}
use Rattle.gixp_matching.proofs.match_group.pairs.Matching.push_rows.Given as goal

abbrev pub invariant-rows : goal.invariant-rows
invariant-rows l = places_in l.out ≡ places_in l.initial.out
    ++ flat_map (pair_places (values l.self.prepared.now.specs.now) (numbered_value l.numbered)) (take l.row-index (map shown l.rows))
