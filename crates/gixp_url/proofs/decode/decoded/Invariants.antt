-- The bytes so far, and what the rest decodes to.
use Rattle.std.proofs.Common.{◌≡◌, ◌++◌, length}
use Rattle.gixp_url.specs.Decoded.{decoded}
use Rattle.gixp_url.proofs.decode.decoded.Given as goal

abbrev pub invariant-bytes : goal.invariant-bytes
invariant-bytes l = decoded 0 l.fn.text ≡ l.bytes.items ++ decoded l.skipped l.rest

abbrev pub decreases-bytes : goal.decreases-bytes
decreases-bytes l = length l.rest
