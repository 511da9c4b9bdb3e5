use Rattle.std.proofs.Common.{◌≡◌}
use Rattle.gixp_matching.specs.Found.{leading}
use Rattle.gixp_matching.proofs.match_group.validate.order.leading.Given as goal

abbrev pub invariant-places : goal.invariant-places
invariant-places l = l.number ≡ leading l.place l.bytes
