use Rattle.std.proofs.Common.{take, map}
use Rattle.gixp_matching.specs.Rows.{shown, AddsPlaces}
use Rattle.gixp_matching.proofs.match_group.rows.add_places.Given as goal

abbrev pub invariant-rows : goal.invariant-rows
invariant-rows l = AddsPlaces (take l.row-index (map shown l.run)) l.initial.places l.places
