use Rattle.std.specs.List.{flat_map}
use Rattle.gixp_matching.specs.Places.{places_in, pair_places}
use Rattle.gixp_matching.specs.MatchGroup.{values, names}
use Rattle.gixp_matching.specs.Rows.{numbered_value, ref_at}
use Rattle.gixp_matching.proofs.ListLemmas.{gathered_here}
use Rattle.gixp_matching.proofs.match_group.pairs.Matching.push_places.Goals as goal

pub places-preserved : goal.places-preserved
places-preserved c =
    gathered_here (λ place. flat_map (pair_places (values c.args.self.now.prepared.now.specs.now) (numbered_value c.args.numbered.now))
    (ref_at (names c.args.self.now.items.now) place))
    (places_in c.args.out.now) (places_in c.places.out) (places_in c.push_at.new.out)
    c.args.places.now c.places.place-index _ c.places-test.true c.places.invariant c.in_ok-push_at.ensures
