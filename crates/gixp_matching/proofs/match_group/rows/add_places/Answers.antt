use Rattle.std.proofs.Common.{take, map, subst, sym}
use Rattle.gixp_matching.specs.Rows.{shown, AddsPlaces}
use Rattle.gixp_packetline.proofs.ListLemmas.{take-map_more}
use Rattle.gixp_matching.proofs.PlaceLemmas.{none_added, places_added}
use Rattle.gixp_matching.proofs.match_group.rows.add_places.Goals as goal

pub rows-init : goal.rows-init
rows-init c = none_added c.args.places.now

pub rows-preserved : goal.rows-preserved
rows-preserved c =
    subst (λ l. AddsPlaces l c.args.places.now c.add_place.new.places)
    (sym (take-map_more shown c.args.run.now c.rows.row-index _ c.rows-test.true))
    (places_added (take c.rows.row-index
    (map shown c.args.run.now)) _ c.args.places.now c.rows.places c.add_place.new.places c.rows.invariant c.in_ok-add_place.ensures)
