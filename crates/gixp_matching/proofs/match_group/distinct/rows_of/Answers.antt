use Rattle.std.proofs.Common.{map}
use Rattle.gixp_matching.specs.Apart.{key_parts}
use Rattle.gixp_matching.specs.Digest.{with_digest, number_parts}
use Rattle.gixp_matching.specs.Placed.{placed}
use Rattle.gixp_matching.proofs.PlacedLemmas.{placed_more}
use Rattle.gixp_matching.proofs.match_group.distinct.rows_of.Goals as goal

pub keys-preserved : goal.keys-preserved
keys-preserved c =
    placed_more (λ key. with_digest (key_parts key)) (map (placed number_parts) c.keys.rows.items)
    (map (placed number_parts) c.push_row.new.rows.items) c.args.keys.now c.keys.place _ c.keys-test.true c.keys.invariant
    c.in_ok-push_row.ensures
