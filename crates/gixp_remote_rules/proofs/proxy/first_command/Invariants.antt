-- The entries that remain.
use Rattle.std.proofs.Common.{◌≡◌, map, length}
use Rattle.gixp_remote_rules.specs.Config.{entry_value}
use Rattle.gixp_remote_rules.specs.Proxy.{first_command}
use Rattle.gixp_remote_rules.proofs.proxy.first_command.Given as goal

abbrev pub invariant-entries : goal.invariant-entries
invariant-entries l = first_command (map entry_value l.rest) l.host ≡ first_command (map entry_value l.fn.entries) l.host

abbrev pub decreases-entries : goal.decreases-entries
decreases-entries l = length l.rest
