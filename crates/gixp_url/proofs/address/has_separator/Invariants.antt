-- No separator begins before the rest.
use Rattle.std.proofs.Common.{◌≡◌, length}
use Rattle.gixp_url.specs.Url.{has_separator}
use Rattle.gixp_url.proofs.address.has_separator.Given as goal

abbrev pub invariant-bytes : goal.invariant-bytes
invariant-bytes l = has_separator l.fn.text ≡ has_separator l.rest

abbrev pub decreases-bytes : goal.decreases-bytes
decreases-bytes l = length l.rest
