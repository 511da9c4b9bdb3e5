use Rattle.gixp_matching.specs.Rows.{shown}
use Rattle.gixp_matching.proofs.PlaceLemmas.{place_added}
use Rattle.gixp_matching.proofs.match_group.rows.add_place.Goals as goal

pub returns : goal.returns
returns c = place_added (shown c.args.row.now) c.args.places.now c.insert.new.self c.in_ok-insert.ensures.updates.0
