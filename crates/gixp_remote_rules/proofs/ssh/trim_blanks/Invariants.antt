use Rattle.std.proofs.Common.{◌≡◌, length}
use Rattle.gixp_remote_rules.specs.Ssh.{trim_blanks}
use Rattle.gixp_remote_rules.proofs.ssh.trim_blanks.Given as goal

abbrev pub invariant-blanks : goal.invariant-blanks
invariant-blanks l = trim_blanks l.rest ≡ trim_blanks l.fn.text

abbrev pub decreases-blanks : goal.decreases-blanks
decreases-blanks l = length l.rest
