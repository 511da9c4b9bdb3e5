use Rattle.std.proofs.Common.{flat_map, drop}
use Rattle.gixp_remote_rules.specs.ShellRequests.{escaped_byte}
use Rattle.gixp_utils.proofs.AppendedLemmas.{Partly}
use Rattle.gixp_remote_rules.proofs.shell_request.append_escaped.Given as goal

abbrev pub invariant-loop-byte : goal.invariant-loop-byte
invariant-loop-byte l = Partly l.fn.text.items l.text.items (flat_map escaped_byte (drop l.byte-index l.word)) (flat_map escaped_byte l.fn.word)
