-- The number so far, and the digits that remain.
use Rattle.std.proofs.Common.{◌≡◌, length}
use Rattle.gixp_remote_rules.specs.Number.{number_after}
use Rattle.gixp_remote_rules.proofs.number.number_in.Given as goal

abbrev pub invariant-digits : goal.invariant-digits
invariant-digits l = number_after 0 l.fn.digits ≡ number_after l.number l.rest

abbrev pub decreases-digits : goal.decreases-digits
decreases-digits l = length l.rest
