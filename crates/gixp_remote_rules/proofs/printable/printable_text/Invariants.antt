use Rattle.std.proofs.Common.{◌≡◌, ◌++◌, drop}
use Rattle.gixp_remote_rules.specs.Printable.{printable_after}
use Rattle.gixp_remote_rules.proofs.printable.printable_text.Given as goal

abbrev pub invariant-loop-byte : goal.invariant-loop-byte
invariant-loop-byte l = l.printable.items ++ printable_after l.before (drop l.byte-index l.text) ≡ printable_after 0 l.text
