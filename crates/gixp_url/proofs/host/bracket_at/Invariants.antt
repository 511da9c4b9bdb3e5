-- No bracket follows an `@` before the rest.
use Rattle.std.proofs.Common.{◌≡◌, ◌+◌, length}
use Rattle.gixp_url.specs.Host.{bracket_from}
use Rattle.gixp_url.proofs.host.bracket_at.Given as goal

abbrev pub invariant-bytes : goal.invariant-bytes
invariant-bytes l = (bracket_from 0 l.fn.text ≡ bracket_from l.at l.rest) × (l.at + length l.rest ≡ length l.fn.text)

abbrev pub decreases-bytes : goal.decreases-bytes
decreases-bytes l = length l.rest
