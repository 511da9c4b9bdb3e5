use Rattle.std.proofs.Common.{◌++◌, ap}
use Rattle.gixp_refspec.specs.RefSpec.{value_of}
use Rattle.gixp_matching.specs.MatchGroup.{values}
use Rattle.gixp_matching.specs.Places.{places_in, id_places}
use Rattle.gixp_matching.proofs.FollowLemmas.{ids_placed}
use Rattle.gixp_matching.proofs.WalkLemmas.{walked_at}
use Rattle.gixp_matching.proofs.match_group.pairs.push_ids.Goals as goal

pub specs-init : goal.specs-init
specs-init c = ap (λ l. places_in c.args.out.now ++ l) (ids_placed (values c.args.specs.now))

pub specs-preserved : goal.specs-preserved
specs-preserved c =
    walked_at value_of id_places _ (places_in c.specs.out) (places_in c.push_id.new.out) c.args.specs.now c.specs.index
    c.index-specs-index.result c.index-specs-index.is c.specs-test.true c.specs.invariant c.in_ok-push_id.ensures
