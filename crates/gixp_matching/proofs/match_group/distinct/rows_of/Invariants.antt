use Rattle.std.proofs.Common.{◌≡◌, take, map}
use Rattle.gixp_matching.specs.Apart.{key_parts}
use Rattle.gixp_matching.specs.Digest.{with_digest, number_parts}
use Rattle.gixp_matching.specs.Placed.{placed, placed_from}
use Rattle.gixp_matching.proofs.match_group.distinct.rows_of.Given as goal

abbrev pub invariant-keys : goal.invariant-keys
invariant-keys l =
    map (placed number_parts) l.rows.items ≡ placed_from 0 (take l.place (map (λ key. with_digest (key_parts key)) l.keys))
