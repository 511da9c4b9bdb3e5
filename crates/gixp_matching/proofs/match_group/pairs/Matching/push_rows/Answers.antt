use Rattle.gixp_matching.specs.Places.{places_in, pair_places}
use Rattle.gixp_matching.specs.MatchGroup.{values}
use Rattle.gixp_matching.specs.Rows.{numbered_value, shown}
use Rattle.gixp_matching.proofs.ListLemmas.{gathered_after}
use Rattle.gixp_matching.proofs.match_group.pairs.Matching.push_rows.Goals as goal

pub rows-preserved : goal.rows-preserved
rows-preserved c =
    gathered_after shown (pair_places (values c.args.self.now.prepared.now.specs.now) (numbered_value c.args.numbered.now))
    (places_in c.args.out.now) (places_in c.rows.out) (places_in c.push_pair.new.out)
    c.args.rows.now c.rows.row-index _ c.rows-test.true c.rows.invariant c.in_ok-push_pair.ensures
