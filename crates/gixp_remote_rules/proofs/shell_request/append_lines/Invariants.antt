use Rattle.std.proofs.Common.{flat_map, drop}
use Rattle.gixp_remote_rules.specs.ShellRequests.{marked_line}
use Rattle.gixp_utils.proofs.AppendedLemmas.{Partly}
use Rattle.bstr.specs.Owned.{bstring_bytes}
use Rattle.gixp_remote_rules.proofs.shell_request.append_lines.Given as goal

abbrev pub invariant-loop-word : goal.invariant-loop-word
invariant-loop-word l =
    Partly l.fn.text.items l.text.items (flat_map (λ w. marked_line l.mark (bstring_bytes w)) (drop l.word-index l.argv))
    (flat_map (λ w. marked_line l.mark (bstring_bytes w)) l.fn.argv)
