-- The number so far, and the digits that remain.
use Rattle.std.proofs.Common.{◌≡◌, ◌≤◌, length}
use Rattle.gixp_url.specs.Host.{fits_port_after}
use Rattle.gixp_url.proofs.host.fits_port.Given as goal

abbrev pub invariant-digits : goal.invariant-digits
invariant-digits l = (fits_port_after 0 l.fn.text ≡ fits_port_after l.number l.rest) × (l.number ≤ 65535)

abbrev pub decreases-digits : goal.decreases-digits
decreases-digits l = length l.rest
