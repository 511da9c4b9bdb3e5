-- The name so far, and the bytes that remain.
use Rattle.std.proofs.Common.{◌≡◌, length}
use Rattle.gixp_remote_rules.specs.Ssh.{base_name_or, base_name}
use Rattle.gixp_remote_rules.proofs.ssh.base_name.Given as goal

abbrev pub invariant-bytes : goal.invariant-bytes
invariant-bytes l = base_name l.fn.program ≡ base_name_or l.base l.rest

abbrev pub decreases-bytes : goal.decreases-bytes
decreases-bytes l = length l.rest
